-- Orders put in rank order: what is added, taken out or changed before is so after.
use Rattle.std.proofs.Common.{◌≡◌, ℕ, zero, suc, ◌+◌, ◌==◌, Bool, true, false, cond, List, [], ◌∷◌, ◌++◌, length, Some, None, Option, sym, refl, ap, ◌∙◌, subst, one-add, arith}
use Rattle.std.specs.List.{AllByRecursion, slice_get, list_all, find}
use Rattle.std.proofs.lemmas.Bool.{and_parts, cond-true, cond_both, both_ways, eq-eqb}
use Rattle.std.proofs.lemmas.Bool.Decides.{nat_tests}
use Rattle.rules.specs.declared.order.Order.{Order}
use Rattle.tables.specs.Listing.{count_where, numbered, times, Distinct, ahead, insert, arranged, without, volume_at, set_volume, in_rank}
use Rattle.tables.proofs.Numbers.{counted-insert}
use Rattle.tables.proofs.Ranking.{Ranking, all_behind, in_rank-insert, length-insert}

pub tail_distinct : (x : Order) (xs : List Order) → Distinct (x ∷ xs) → Distinct xs
tail_distinct x xs d n = omega (arith, d n)

pub head_new : (x : Order) (xs : List Order) → Distinct (x ∷ xs) → times x.number xs ≡ 0
head_new x xs d = let h = d x.number in grind (arith, nat_tests)

first_of : (lt : Order → Order → Bool) (o : Order) (xs : List Order) → list_all (lt o) xs ≡ true → insert lt o xs ≡ o ∷ xs
first_of lt o [] a = refl
first_of lt o (x ∷ xs) a = cond-true (lt o x) _ _ (and_parts (lt o x) (list_all (lt o) xs) a).0

-- orders in rank order stay as they are
pub arranged_same : (lt : Order → Order → Bool) (xs : List Order) → in_rank lt xs ≡ true → arranged lt xs ≡ xs
arranged_same lt [] s = refl
arranged_same lt (x ∷ xs) s =
    let p = and_parts (list_all (lt x) xs) (in_rank lt xs) s in
    ap (insert lt x) (arranged_same lt xs p.1) ∙ first_of lt x xs p.0

module _ {lt : Order → Order → Bool} (r : Ranking lt) where
  pub counted-arranged : (test : Order → Bool) (xs : List Order) → count_where test (arranged lt xs) ≡ count_where test xs
  counted-arranged test [] = refl
  counted-arranged test (x ∷ xs) = counted-insert test lt x (arranged lt xs) ∙ ap (λ m. cond (test x) 1 0 + m) (counted-arranged test xs)

  pub length-arranged : (xs : List Order) → length (arranged lt xs) ≡ length xs
  length-arranged [] = refl
  length-arranged (x ∷ xs) = length-insert lt x (arranged lt xs) ∙ ap suc (length-arranged xs)

  pub in_rank-arranged : (xs : List Order) → Distinct xs → in_rank lt (arranged lt xs) ≡ true
  in_rank-arranged [] d = refl
  in_rank-arranged (x ∷ xs) d =
      in_rank-insert r x (arranged lt xs) (counted-arranged (numbered x.number) xs ∙ head_new x xs d) (in_rank-arranged xs (tail_distinct x xs d))

  insert_swap : (a b : Order) → (a.number ≡ b.number → ⊥) → (zs : List Order) → insert lt a (insert lt b zs) ≡ insert lt b (insert lt a zs)
  insert_swap a b ne [] = let x = r.one_way a b in let y = r.total a b ne in grind arith
  insert_swap a b ne (z ∷ zs) =
      let ih = insert_swap a b ne zs in
      let x = r.one_way a b in
      let y = r.total a b ne in
      let u = r.chain a b z in
      let v = r.chain b a z in
      grind arith

  pub arranged_push : (o : Order) (xs : List Order) → times o.number xs ≡ 0 → arranged lt (xs ++ o ∷ []) ≡ insert lt o (arranged lt xs)
  arranged_push o [] e = refl
  arranged_push o (x ∷ xs) e =
      let rest : times o.number xs ≡ 0 = omega arith in
      let ne : x.number ≡ o.number → ⊥ = grind (arith, nat_tests) in
      ap (insert lt x) (arranged_push o xs rest) ∙ insert_swap x o ne (arranged lt xs)

  insert-set_volume : (n v : ℕ) (o : Order) (xs : List Order) → insert lt (volume_at n v o) (set_volume n v xs) ≡ set_volume n v (insert lt o xs)
  insert-set_volume n v o [] = refl
  insert-set_volume n v o (x ∷ xs) = let ih = insert-set_volume n v o xs in let s = r.blind n v o x in grind arith

  pub arranged-set_volume : (n v : ℕ) (xs : List Order) → arranged lt (set_volume n v xs) ≡ set_volume n v (arranged lt xs)
  arranged-set_volume n v [] = refl
  arranged-set_volume n v (x ∷ xs) = ap (insert lt (volume_at n v x)) (arranged-set_volume n v xs) ∙ insert-set_volume n v x (arranged lt xs)

  insert_first : (n : ℕ) (o : Order) (ys : List Order) → list_all (lt o) ys ≡ true → insert lt o (without n ys) ≡ o ∷ without n ys
  insert_first n o [] a = refl
  insert_first n o (y ∷ ys) a = let ih = insert_first n o ys in grind arith

  without_insert : (n : ℕ) (o : Order) (ys : List Order) → in_rank lt ys ≡ true → numbered n o ≡ false → without n (insert lt o ys) ≡ insert lt o (without n ys)
  without_insert n o [] s ne = grind arith
  without_insert n o (y ∷ ys) s ne =
      let p = and_parts (list_all (lt y) ys) (in_rank lt ys) s in
      let ih = without_insert n o ys p.1 ne in
      let l : lt o y ≡ true → insert lt o (without n ys) ≡ o ∷ without n ys = λ h. insert_first n o ys (all_behind r o y ys h p.0) in
      grind arith

  without_itself : (n : ℕ) (o : Order) (ys : List Order) → numbered n o ≡ true → without n (insert lt o ys) ≡ without n ys
  without_itself n o [] e = grind arith
  without_itself n o (y ∷ ys) e = let ih = without_itself n o ys e in grind arith

  find-insert : (n : ℕ) (o : Order) (ys : List Order) → times o.number ys ≡ 0 → find (numbered n) (insert lt o ys) ≡ find (numbered n) (o ∷ ys)
  find-insert n o [] e = refl
  find-insert n o (y ∷ ys) e =
      let rest : times o.number ys ≡ 0 = omega arith in
      let ih = find-insert n o ys rest in
      grind (arith, nat_tests)

  pub find-arranged : (n : ℕ) (xs : List Order) → Distinct xs → find (numbered n) (arranged lt xs) ≡ find (numbered n) xs
  find-arranged n [] d = refl
  find-arranged n (x ∷ xs) d =
      find-insert n x (arranged lt xs) (counted-arranged (numbered x.number) xs ∙ head_new x xs d)
      ∙ ap (λ o. cond (numbered n x) (Some x) o) (find-arranged n xs (tail_distinct x xs d))

  pub arranged-without : (n : ℕ) (xs : List Order) → Distinct xs → arranged lt (without n xs) ≡ without n (arranged lt xs)
  arranged-without n [] d = refl
  arranged-without n (x ∷ xs) d =
      let rest = tail_distinct x xs d in
      let ih = arranged-without n xs rest in
      let p = without_insert n x (arranged lt xs) (in_rank-arranged xs rest) in
      let q = without_itself n x (arranged lt xs) in
      grind arith

all_nth : (P : Order → Type 0) (ys : List Order) (i : ℕ) (o : Order) → AllByRecursion P ys → slice_get ys i ≡ Some o → P o
all_nth P [] i o a e = let z : ◌≡◌ {A = ℕ} 0 1 = cc in absurd (omega arith)
all_nth P (y ∷ ys) zero o a e = let h : y ≡ o = cc in subst P h a.0
all_nth P (y ∷ ys) (suc i) o a e = all_nth P ys i o a.1 e

each : (test : Order → Bool) (xs : List Order) → list_all test xs ≡ true → AllByRecursion (λ x. test x ≡ true) xs
each test [] a = tt
each test (x ∷ xs) a = let p = and_parts (test x) (list_all test xs) a in (p.0, each test xs p.1)

-- the order at a rank is the one that so many are ahead of
module _ {lt : Order → Order → Bool} (r : Ranking lt) where
  itself : (y : Order) → lt y y ≡ false
  itself y = let h = r.one_way y y in grind arith

  ahead_first : (y : Order) (ys : List Order) → list_all (lt y) ys ≡ true → ahead lt y ys ≡ 0
  ahead_first y [] a = refl
  ahead_first y (z ∷ zs) a =
      let h = r.one_way y z in
      let ih = ahead_first y zs in
      grind arith

  -- in a list in rank order, x stands where as many are ahead of it
  abbrev StandsSo : List Order → Order → Type 0
  StandsSo ys x = slice_get ys (ahead lt x ys) ≡ Some x

  each_behind : (y : Order) (ys zs : List Order) → list_all (lt y) zs ≡ true → AllByRecursion (StandsSo ys) zs → AllByRecursion (StandsSo (y ∷ ys)) zs
  each_behind y ys [] a b = tt
  each_behind y ys (z ∷ zs) a b =
      let p = and_parts (lt y z) (list_all (lt y) zs) a in
      (rw (p.0, one-add) b.0, each_behind y ys zs p.1 b.1)

  each_stands : (ys : List Order) → in_rank lt ys ≡ true → AllByRecursion (StandsSo ys) ys
  each_stands [] s = tt
  each_stands (y ∷ ys) s =
      let p = and_parts (list_all (lt y) ys) (in_rank lt ys) s in
      let i = itself y in
      let l = ahead_first y ys p.0 in
      let e : ahead lt y (y ∷ ys) ≡ 0 = grind arith in
      (rw e refl, each_behind y ys ys p.0 (each_stands ys p.1))

  ahead_nth : (ys : List Order) (i : ℕ) (o : Order) → in_rank lt ys ≡ true → slice_get ys i ≡ Some o → ahead lt o ys ≡ i
  ahead_nth [] i o s e = let z : ◌≡◌ {A = ℕ} 0 1 = cc in absurd (omega arith)
  ahead_nth (y ∷ ys) zero o s e =
      let h : y ≡ o = cc in
      let p = and_parts (list_all (lt y) ys) (in_rank lt ys) s in
      let i = itself y in
      let l = ahead_first y ys p.0 in
      let none : ahead lt y (y ∷ ys) ≡ 0 = grind arith in
      subst (λ z. ahead lt z (y ∷ ys) ≡ 0) h none
  ahead_nth (y ∷ ys) (suc i) o s e =
      let p = and_parts (list_all (lt y) ys) (in_rank lt ys) s in
      let ih = ahead_nth ys i o p.1 e in
      let l = all_nth (λ z. lt y z ≡ true) ys i o (each (lt y) ys p.0) e in
      grind arith

  -- what holds of each order, in one order and in the other
  insert_each : (P : Order → Type 0) (o : Order) (ys : List Order) → AllByRecursion P (insert lt o ys) → P o × AllByRecursion P ys
  insert_each P o [] a = a
  insert_each P o (y ∷ ys) a =
      cond_both (lt o y) (o ∷ (y ∷ ys)) (y ∷ insert lt o ys) (λ zs. AllByRecursion P zs → P o × AllByRecursion P (y ∷ ys))
      (λ _ b. b) (λ _ b. let rest = insert_each P o ys b.1 in (rest.0, (b.0, rest.1))) a

  each_insert : (P : Order → Type 0) (o : Order) (ys : List Order) → P o → AllByRecursion P ys → AllByRecursion P (insert lt o ys)
  each_insert P o [] p a = (p, tt)
  each_insert P o (y ∷ ys) p a =
      cond_both (lt o y) (o ∷ (y ∷ ys)) (y ∷ insert lt o ys) (AllByRecursion P) (λ _. (p, a)) (λ _. (a.0, each_insert P o ys p a.1))

  arranged_each : (P : Order → Type 0) (xs : List Order) → AllByRecursion P (arranged lt xs) → AllByRecursion P xs
  arranged_each P [] a = tt
  arranged_each P (x ∷ xs) a = let p = insert_each P x (arranged lt xs) a in (p.0, arranged_each P xs p.1)

  each_arranged : (P : Order → Type 0) (xs : List Order) → AllByRecursion P xs → AllByRecursion P (arranged lt xs)
  each_arranged P [] a = tt
  each_arranged P (x ∷ xs) a = each_insert P x (arranged lt xs) a.0 (each_arranged P xs a.1)

  -- the order that has just i ahead of it, wherever it stands
  module _ (xs : List Order) (d : Distinct xs) (i : ℕ) where
    abbrev ys : List Order
    ys = arranged lt xs

    search_from : (zs : List Order) → AllByRecursion (StandsSo ys) zs → (AllByRecursion (λ z. ahead lt z ys ≡ i → ⊥) zs → slice_get ys i ≡ None)
        → find (λ z. ahead lt z xs == i) zs ≡ slice_get ys i
    search_from [] stands none = sym (none tt)
    search_from (z ∷ zs) stands none =
        let same = counted-arranged r (λ y. lt y z) xs in
        cond_both (ahead lt z xs == i) (Some z) (find (λ y. ahead lt y xs == i) zs) (λ o. o ≡ slice_get ys i)
        (λ h. let e : ahead lt z ys ≡ i = grind (arith, nat_tests) in sym stands.0 ∙ ap (slice_get ys) e)
        (λ h. search_from zs stands.1 (λ rest. none ((λ e. let f : ahead lt z xs ≡ i = omega arith in both_ways _ h (eq-eqb _ _ f)), rest)))

    none_ahead : AllByRecursion (λ x. ahead lt x ys ≡ i → ⊥) xs → slice_get ys i ≡ None
    none_ahead a = go (slice_get ys i) refl
      where
        go : (o : Option Order) → slice_get ys i ≡ o → o ≡ None
        go None e = refl
        go (Some o) e =
            absurd (all_nth (λ x. ahead lt x ys ≡ i → ⊥) ys i o (each_arranged (λ x. ahead lt x ys ≡ i → ⊥) xs a) e
            (ahead_nth ys i o (in_rank-arranged r xs d) e))

    pub find-ahead : find (λ x. ahead lt x xs == i) xs ≡ slice_get ys i
    find-ahead = search_from xs (arranged_each (StandsSo ys) xs (each_stands ys (in_rank-arranged r xs d))) none_ahead

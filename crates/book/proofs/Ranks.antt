-- Rank by its laws, and lists that hold exactly what they should.
use Rattle.std.proofs.Common.{◌≡◌, ℕ, ◌≤◌, Bool, true, false, not, eqb, ◌⊎◌, List, [], ◌∷◌, sym, refl, ap, ◌∙◌, subst, inl, inr, ⊎_elim, arith}
use Rattle.std.specs.List.{list_all}
use Rattle.std.proofs.lemmas.Bool.{cond_both, and_parts, and_from, both_ways, eqb-true, eqb-false, not-true, not-false, cond-true}
use Rattle.std.proofs.lemmas.Bool.Decides.{nat_tests}
use Rattle.rules.specs.Rank.{before}
use Rattle.rules.specs.Side.{better}
use Rattle.rules.specs.declared.order.Direction.{Direction}
use Rattle.rules.specs.declared.order.Direction.TheVariants.{Buy, Sell}
use Rattle.rules.specs.declared.order.Order.{Order}
use Rattle.tables.specs.Listing.{insert, without, in_rank, numbered, times}
use Rattle.tables.proofs.Ranking.{ranking, in_rank_kept, in_rank-insert}
use Rattle.book.specs.Exactly.{Before}
use Rattle.book.proofs.Members.{Member, Exactly}

-- The laws of rank -------------------------------------------------------------------------------------------------------

pub before_irrefl : (d : Direction) (a : Order) → Before d a a → ⊥
before_irrefl d a h = both_ways (before d a a) ((ranking d).one_way a a h) h

pub before_trans : (d : Direction) (a b c : Order) → Before d a b → Before d b c → Before d a c
before_trans d a b c h k = (ranking d).chain a b c h k

-- a better price ranks first
pub better_first : (d : Direction) (a b : Order) → better d a.price b.price ≡ true → Before d a b
better_first Buy a b h = grind (arith, nat_tests)
better_first Sell a b h = grind (arith, nat_tests)

pub no_worse : (d : Direction) (a b : Order) → Before d a b → better d b.price a.price ≡ false
no_worse Buy a b h = grind (arith, nat_tests)
no_worse Sell a b h = grind (arith, nat_tests)

-- at one price, the smaller arrival
pub no_later : (d : Direction) (a b : Order) → Before d a b → a.price ≡ b.price → a.arrival ≤ b.arrival
no_later Buy a b h e = grind (arith, nat_tests)
no_later Sell a b h e = grind (arith, nat_tests)

-- Lists in rank order ----------------------------------------------------------------------------------------------------

abbrev pub InRank : Direction → List Order → Type 0
InRank d xs = in_rank (before d) xs ≡ true

all_in : (test : Order → Bool) (xs : List Order) → list_all test xs ≡ true → (x : Order) → Member x xs → test x ≡ true
all_in test [] a x m = absurd m
all_in test (y ∷ ys) a x (inl e) = ap test e ∙ (and_parts (test y) (list_all test ys) a).0
all_in test (y ∷ ys) a x (inr m) = all_in test ys (and_parts (test y) (list_all test ys) a).1 x m

all_of : (test : Order → Bool) (xs : List Order) → ((x : Order) → Member x xs → test x ≡ true) → list_all test xs ≡ true
all_of test [] h = refl
all_of test (y ∷ ys) h = and_from (test y) (list_all test ys) (h y (inl refl)) (all_of test ys (λ x m. h x (inr m)))

module _ (d : Direction) (x : Order) (xs : List Order) where
  pub ahead_of : InRank d (x ∷ xs) → (y : Order) → Member y xs → Before d x y
  ahead_of s = all_in (before d x) xs (and_parts (list_all (before d x) xs) (in_rank (before d) xs) s).0

  pub rest_in : InRank d (x ∷ xs) → InRank d xs
  rest_in s = (and_parts (list_all (before d x) xs) (in_rank (before d) xs) s).1

  pub in_rank_from : ((y : Order) → Member y xs → Before d x y) → InRank d xs → InRank d (x ∷ xs)
  in_rank_from h s = and_from (list_all (before d x) xs) (in_rank (before d) xs) (all_of (before d x) xs h) s

-- insert and without, as sets -----------------------------------------------------------------------------------------

pub insert_in : (d : Direction) (o : Order) (xs : List Order) (x : Order) → Member x (insert (before d) o xs) → (x ≡ o) ⊎ Member x xs
insert_in d o [] x m = m
insert_in d o (y ∷ ys) x m =
    cond_both (before d o y) (o ∷ (y ∷ ys)) (y ∷ insert (before d) o ys) (λ l. Member x l → (x ≡ o) ⊎ Member x (y ∷ ys))
    (λ _ l. l)
    (λ _ l. ⊎_elim (λ e. inr (inl e)) (λ k. ⊎_elim inl (λ i. inr (inr i)) (insert_in d o ys x k)) l) m

pub in_insert : (d : Direction) (o : Order) (xs : List Order) (x : Order) → (x ≡ o) ⊎ Member x xs → Member x (insert (before d) o xs)
in_insert d o [] x h = h
in_insert d o (y ∷ ys) x h =
    cond_both (before d o y) (o ∷ (y ∷ ys)) (y ∷ insert (before d) o ys) (λ l. Member x l)
    (λ _. h)
    (λ _. ⊎_elim (λ e. inr (in_insert d o ys x (inl e)))
    (λ m. ⊎_elim (λ e. inl e) (λ k. inr (in_insert d o ys x (inr k))) m) h)

pub without_in : (n : ℕ) (xs : List Order) (x : Order) → Member x (without n xs) → Member x xs × (x.number ≡ n → ⊥)
without_in n [] x m = absurd m
without_in n (y ∷ ys) x m =
    cond_both (not (eqb y.number n)) (y ∷ without n ys) (without n ys)
    (λ l. Member x l → Member x (y ∷ ys) × (x.number ≡ n → ⊥))
    (λ f l.
    ⊎_elim (λ e. (inl e, λ k. eqb-false y.number n (not-true (eqb y.number n) f) (sym (ap (λ (z : Order). z.number) e) ∙ k)))
    (λ k. let r = without_in n ys x k in (inr r.0, r.1)) l)
    (λ _ l. let r = without_in n ys x l in (inr r.0, r.1)) m

pub in_without : (n : ℕ) (xs : List Order) (x : Order) → Member x xs → (x.number ≡ n → ⊥) → Member x (without n xs)
in_without n [] x m h = m
in_without n (y ∷ ys) x m h =
    cond_both (not (eqb y.number n)) (y ∷ without n ys) (without n ys) (λ l. Member x l)
    (λ _. ⊎_elim inl (λ k. inr (in_without n ys x k h)) m)
    (λ e.
    ⊎_elim
    (λ k. absurd (h (ap (λ (z : Order). z.number) k ∙ eqb-true y.number n (not-false (eqb y.number n) e))))
    (λ k. in_without n ys x k h) m)

-- no order of the list has this number
pub none_numbered : (n : ℕ) (xs : List Order) → ((x : Order) → Member x xs → x.number ≡ n → ⊥) → times n xs ≡ 0
none_numbered n [] h = refl
none_numbered n (y ∷ ys) h =
    let ih = none_numbered n ys (λ x m. h x (inr m)) in
    let ne : y.number ≡ n → ⊥ = h y (inl refl) in
    grind (arith, nat_tests)

-- and in order ---------------------------------------------------------------------------------------------------------

pub without_sorted : (d : Direction) (n : ℕ) (xs : List Order) → InRank d xs → InRank d (without n xs)
without_sorted d n xs s = in_rank_kept (ranking d) (λ o. not (numbered n o)) xs s

pub insert_sorted :
    (d : Direction) (o : Order) (xs : List Order) →
    ((x : Order) → Member x xs → o.number ≡ x.number → ⊥) →
    InRank d xs →
    InRank d (insert (before d) o xs)
insert_sorted d o xs h s = in_rank-insert (ranking d) o xs (none_numbered o.number xs (λ x m q. h x m (sym q))) s

-- an order that ranks before all stands first
pub insert_first : (d : Direction) (o : Order) (xs : List Order) → ((x : Order) → Member x xs → Before d o x) → insert (before d) o xs ≡ o ∷ xs
insert_first d o [] h = refl
insert_first d o (y ∷ ys) h = cond-true (before d o y) (o ∷ (y ∷ ys)) (y ∷ insert (before d) o ys) (h y (inl refl))

-- Exactly ----------------------------------------------------------------------------------------------------------------

module _ (d : Direction) (P : Order → Type 0) (xs : List Order) (ex : Exactly d P xs) where
  pub exactly_as : (Q : Order → Type 0) → ((o : Order) → P o → Q o) → ((o : Order) → Q o → P o) → Exactly d Q xs
  exactly_as Q f g =
      record { sorted = ex.sorted; sound = λ o m. f o (ex.sound o m); complete = λ o q. ex.complete o (g o q) }

  pub exactly_insert :
      (o : Order) →
      ((x : Order) → P x → o.number ≡ x.number → ⊥) →
      Exactly d (λ x. (x ≡ o) ⊎ P x) (insert (before d) o xs)
  exactly_insert o h =
      record {
        sorted = insert_sorted d o xs (λ x m. h x (ex.sound x m)) ex.sorted;
        sound = λ x m. ⊎_elim inl (λ k. inr (ex.sound x k)) (insert_in d o xs x m);
        complete = λ x p. in_insert d o xs x (⊎_elim inl (λ k. inr (ex.complete x k)) p);
      }

  pub exactly_without : (n : ℕ) → Exactly d (λ x. P x × (x.number ≡ n → ⊥)) (without n xs)
  exactly_without n =
      record {
        sorted = without_sorted d n xs ex.sorted;
        sound = λ x m. let r = without_in n xs x m in (ex.sound x r.0, r.1);
        complete = λ x p. in_without n xs x (ex.complete x p.0) p.1;
      }

  pub exactly_cons :
      (o : Order) → ((x : Order) → P x → Before d o x) → Exactly d (λ x. (x ≡ o) ⊎ P x) (o ∷ xs)
  exactly_cons o h =
      record {
        sorted = in_rank_from d o xs (λ x m. h x (ex.sound x m)) ex.sorted;
        sound = λ x m. ⊎_elim inl (λ k. inr (ex.sound x k)) m;
        complete = λ x p. ⊎_elim inl (λ k. inr (ex.complete x k)) p;
      }

pub exactly_tail :
    (d : Direction) (P : Order → Type 0) (o : Order) (xs : List Order) →
    Exactly d P (o ∷ xs) →
    Exactly d (λ x. P x × Before d o x) xs
exactly_tail d P o xs ex =
    record {
      sorted = rest_in d o xs ex.sorted;
      sound = λ x m. (ex.sound x (inr m), ahead_of d o xs ex.sorted x m);
      complete =
          λ x p.
          ⊎_elim (λ e. absurd (before_irrefl d o (subst (Before d o) e p.1))) (λ m. m) (ex.complete x p.0);
    }

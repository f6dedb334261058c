-- What the tables use of rank, and lists in rank order.
use Rattle.std.proofs.Common.{◌≡◌, ℕ, zero, suc, not, Bool, true, false, List, [], ◌∷◌, length, filter, refl, arith}
use Rattle.std.proofs.lemmas.Bool.Decides.{nat_tests}
use Rattle.std.proofs.lemmas.Bool.{cond_both, and_parts, and_from, both_ways, not_from_false, not-true, false_from_ne_true}
use Rattle.std.proofs.lemmas.List.Folds.{list_all_at}
use Rattle.std.specs.List.Sorted.{IsPartitionedBy}
use Rattle.std.specs.List.{list_all}
use Rattle.rules.specs.Rank.{before}
use Rattle.rules.specs.declared.order.Direction.{Direction}
use Rattle.rules.specs.declared.order.Order.{Order}
use Rattle.rules.specs.Keys.{orders}
use Rattle.tables.specs.Listing.{numbered, times, insert, with_volume, volume_at, set_volume, in_rank}

-- a total order, level only at one number, that a volume does not move
pub record Ranking (lt : Order → Order → Bool) : Type 0 where
  pub one_way : (a b : Order) → lt a b ≡ true → lt b a ≡ false
  pub chain : (a b c : Order) → lt a b ≡ true → lt b c ≡ true → lt a c ≡ true
  pub total : (a b : Order) → (a.number ≡ b.number → ⊥) → lt a b ≡ false → lt b a ≡ true
  pub blind : (n v : ℕ) (a b : Order) → lt (volume_at n v a) (volume_at n v b) ≡ lt a b

module _ (d : Direction) where
  abbrev lt : Order → Order → Bool
  lt = before d

  by_cases : (t : Bool) → (t ≡ false → ⊥) → t ≡ true
  by_cases true k = refl
  by_cases false k = absurd (k refl)

  chained : (a b c : Order) → lt a b ≡ true → lt b c ≡ true → lt a c ≡ true
  chained a b c p q =
      by_cases (lt a c) (λ k. both_ways (lt a b) ((orders d).ranks.chain a c b k ((orders d).ranks.one_way b c q)) p)

  totally : (a b : Order) → (a.number ≡ b.number → ⊥) → lt a b ≡ false → lt b a ≡ true
  totally a b ne p = by_cases (lt b a) (λ k. ne ((orders d).same a b p k).1.1.0)

  -- the volume is no key of the rank
  unmoved : (n v : ℕ) (a b : Order) → lt (volume_at n v a) (volume_at n v b) ≡ lt a b
  unmoved n v a b =
      cond_both (numbered n a) (with_volume v a) a (λ x. lt x (volume_at n v b) ≡ lt a b)
      (λ _. cond_both (numbered n b) (with_volume v b) b (λ y. lt (with_volume v a) y ≡ lt a b) (λ _. refl) (λ _. refl))
      (λ _. cond_both (numbered n b) (with_volume v b) b (λ y. lt a y ≡ lt a b) (λ _. refl) (λ _. refl))

  pub ranking : Ranking (before d)
  ranking = record { one_way = (orders d).ranks.one_way; chain = chained; total = totally; blind = unmoved }

-- what holds of each order
module _ (test : Order → Bool) where
  pub all_insert : (lt : Order → Order → Bool) (o : Order) (xs : List Order) → test o ≡ true → list_all test xs ≡ true → list_all test (insert lt o xs) ≡ true
  all_insert lt o [] h a = grind arith
  all_insert lt o (x ∷ xs) h a = let ih = all_insert lt o xs h in grind arith

  pub all_kept : (keep : Order → Bool) (xs : List Order) → list_all test xs ≡ true → list_all test (filter keep xs) ≡ true
  all_kept keep [] a = refl
  all_kept keep (x ∷ xs) a = let ih = all_kept keep xs in grind arith

  pub all-set_volume : (n v : ℕ) → ((o : Order) → test (volume_at n v o) ≡ test o) → (xs : List Order) → list_all test (set_volume n v xs) ≡ list_all test xs
  all-set_volume n v blind [] = refl
  all-set_volume n v blind (x ∷ xs) = rw (blind x, all-set_volume n v blind xs)

-- lists in rank order stay so
module _ {lt : Order → Order → Bool} (r : Ranking lt) where
  pub all_behind : (o x : Order) (xs : List Order) → lt o x ≡ true → list_all (lt x) xs ≡ true → list_all (lt o) xs ≡ true
  all_behind o x [] h a = refl
  all_behind o x (y ∷ ys) h a =
      let ih = all_behind o x ys h in
      let c = r.chain o x y h in
      grind arith

  -- in a list in rank order, those that o ranks before stand behind the others
  pub partitioned : (o : Order) (xs : List Order) → in_rank lt xs ≡ true → IsPartitionedBy (λ x. not (lt o x)) xs
  partitioned o [] s i j d le l e = absurd (omega arith)
  partitioned o (x ∷ xs) s zero zero d le l e = e
  partitioned o (x ∷ xs) s zero (suc j) d le l e =
      let p = and_parts (list_all (lt x) xs) (in_rank lt xs) s in
      not_from_false (lt o x) (false_from_ne_true (lt o x) (λ h.
      both_ways (list_all (lt o) xs) (list_all_at (lt o) xs j d (omega arith) (not-true _ e)) (all_behind o x xs h p.0)))
  partitioned o (x ∷ xs) s (suc i) zero d le l e = absurd (omega arith)
  partitioned o (x ∷ xs) s (suc i) (suc j) d le l e =
      partitioned o xs (and_parts (list_all (lt x) xs) (in_rank lt xs) s).1 i j d (omega arith) (omega arith) e

  pub in_rank-insert : (o : Order) (xs : List Order) → times o.number xs ≡ 0 → in_rank lt xs ≡ true → in_rank lt (insert lt o xs) ≡ true
  in_rank-insert o [] f s = refl
  in_rank-insert o (x ∷ xs) f s =
      let rest : times o.number xs ≡ 0 = omega arith in
      let ne : o.number ≡ x.number → ⊥ = grind (arith, nat_tests) in
      let p = and_parts (list_all (lt x) xs) (in_rank lt xs) s in
      cond_both (lt o x) (o ∷ (x ∷ xs)) (x ∷ insert lt o xs) (λ ys. in_rank lt ys ≡ true)
      (λ h. and_from _ _ (and_from _ _ h (all_behind o x xs h p.0)) s)
      (λ h. and_from _ _ (all_insert (lt x) lt o xs (r.total o x ne h) p.0) (in_rank-insert o xs rest p.1))

  pub in_rank_kept : (keep : Order → Bool) (xs : List Order) → in_rank lt xs ≡ true → in_rank lt (filter keep xs) ≡ true
  in_rank_kept keep [] s = refl
  in_rank_kept keep (x ∷ xs) s =
      let p = and_parts (list_all (lt x) xs) (in_rank lt xs) s in
      let a = all_kept (lt x) keep xs p.0 in
      let ih = in_rank_kept keep xs p.1 in
      grind arith

  all_volume_at : (n v : ℕ) (o : Order) (xs : List Order) → list_all (lt (volume_at n v o)) (set_volume n v xs) ≡ list_all (lt o) xs
  all_volume_at n v o [] = refl
  all_volume_at n v o (x ∷ xs) = rw (r.blind n v o x, all_volume_at n v o xs)

  pub in_rank-set_volume : (n v : ℕ) (xs : List Order) → in_rank lt (set_volume n v xs) ≡ in_rank lt xs
  in_rank-set_volume n v [] = refl
  in_rank-set_volume n v (x ∷ xs) = rw (all_volume_at n v x xs, in_rank-set_volume n v xs)

pub length-insert : (lt : Order → Order → Bool) (o : Order) (xs : List Order) → length (insert lt o xs) ≡ suc (length xs)
length-insert lt o [] = refl
length-insert lt o (x ∷ xs) = let ih = length-insert lt o xs in grind arith

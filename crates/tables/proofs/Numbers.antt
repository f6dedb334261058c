-- Numbers in a list: which are held how often, before and after a change.
use Rattle.std.proofs.Common.{◌≡◌, ℕ, zero, suc, ◌+◌, ◌<◌, ◌≤◌, Bool, true, cond, List, [], ◌∷◌, get_or, set, is_some, None, refl, ap, ⊎_elim, arith}
use Rattle.std.specs.List.{remove, slice_get, find}
use Rattle.std.proofs.lemmas.Bool.{both_ways, cases_lt}
use Rattle.std.proofs.lemmas.Bool.Decides.{nat_tests}
use Rattle.rules.specs.declared.order.Order.{Order}
use Rattle.tables.specs.Listing.{count_where, numbered, times, insert, without, with_volume, set_volume}
use Rattle.tables.specs.Stored.{Stands}

-- a number that is not held
module _ (n : ℕ) where
  pub find_none : (xs : List Order) → times n xs ≡ 0 → find (numbered n) xs ≡ None
  find_none [] e = refl
  find_none (x ∷ xs) e =
      let tail : times n xs ≡ 0 = omega arith in
      let ih = find_none xs tail in
      grind (arith, nat_tests)

  pub without_none : (xs : List Order) → times n xs ≡ 0 → without n xs ≡ xs
  without_none [] e = refl
  without_none (x ∷ xs) e =
      let tail : times n xs ≡ 0 = omega arith in
      let ih = without_none xs tail in
      grind (arith, nat_tests)

  pub set_volume_none : (v : ℕ) (xs : List Order) → times n xs ≡ 0 → set_volume n v xs ≡ xs
  set_volume_none v [] e = refl
  set_volume_none v (x ∷ xs) e =
      let tail : times n xs ≡ 0 = omega arith in
      let ih = set_volume_none v xs tail in
      grind (arith, nat_tests)

  pub find_some : (xs : List Order) → 0 < times n xs → is_some (find (numbered n) xs) ≡ true
  find_some [] h = absurd (omega arith)
  find_some (x ∷ xs) h = let ih = find_some xs in grind (arith, nat_tests)

  pub find_gone : (xs : List Order) → find (numbered n) xs ≡ None → times n xs ≡ 0
  find_gone xs e = ⊎_elim (λ (h : 0 < times n xs). absurd (both_ways _ (ap is_some e) (find_some xs h))) (λ (h : times n xs ≤ 0). omega arith) (cases_lt 0 (times n xs))

  pub times_at : (xs : List Order) (i : ℕ) → Stands n xs i → 0 < times n xs
  times_at [] i s = absurd (omega (arith, s.0))
  times_at (x ∷ xs) zero s = let h = s.1 x in grind (arith, nat_tests)
  times_at (x ∷ xs) (suc i) s = let ih = times_at xs i (omega (arith, s.0), s.1) in grind (arith, nat_tests)

  -- the number stands at i, and nowhere else
  pub find_at : (xs : List Order) (i : ℕ) → Stands n xs i → times n xs ≤ 1 → slice_get xs i ≡ find (numbered n) xs
  find_at [] i s e = absurd (omega (arith, s.0))
  find_at (x ∷ xs) zero s e = let h = s.1 x in grind (arith, nat_tests)
  find_at (x ∷ xs) (suc i) s e =
      let below : Stands n xs i = (omega (arith, s.0), s.1) in
      let some = times_at xs i below in
      let ih = find_at xs i below (omega arith) in
      grind (arith, nat_tests)

  pub without_at : (xs : List Order) (i : ℕ) → Stands n xs i → times n xs ≤ 1 → remove xs i ≡ without n xs
  without_at [] i s e = absurd (omega (arith, s.0))
  without_at (x ∷ xs) zero s e =
      let h = s.1 x in
      let rest = without_none xs in
      grind (arith, nat_tests)
  without_at (x ∷ xs) (suc i) s e =
      let below : Stands n xs i = (omega (arith, s.0), s.1) in
      let some = times_at xs i below in
      let ih = without_at xs i below (omega arith) in
      grind (arith, nat_tests)

  pub set_volume_at : (v : ℕ) (xs : List Order) (i : ℕ) (d : Order) → Stands n xs i → times n xs ≤ 1 → set xs i (with_volume v (get_or xs i d)) ≡ set_volume n v xs
  set_volume_at v [] i d s e = absurd (omega (arith, s.0))
  set_volume_at v (x ∷ xs) zero d s e =
      let h = s.1 x in
      let rest = set_volume_none v xs in
      grind (arith, nat_tests)
  set_volume_at v (x ∷ xs) (suc i) d s e =
      let below : Stands n xs i = (omega (arith, s.0), s.1) in
      let some = times_at xs i below in
      let ih = set_volume_at v xs i d below (omega arith) in
      grind (arith, nat_tests)

pub counted-insert : (test : Order → Bool) (lt : Order → Order → Bool) (o : Order) (xs : List Order) → count_where test (insert lt o xs) ≡ cond (test o) 1 0 + count_where test xs
counted-insert test lt o [] = refl
counted-insert test lt o (x ∷ xs) = let ih = counted-insert test lt o xs in grind arith

-- what a change does to the count of a number
module _ (m : ℕ) where
  pub times-without : (n : ℕ) (xs : List Order) → times m (without n xs) ≤ times m xs
  times-without n [] = omega arith
  times-without n (x ∷ xs) = let ih = times-without n xs in grind (arith, nat_tests)

  pub times-set_volume : (n v : ℕ) (xs : List Order) → times m (set_volume n v xs) ≡ times m xs
  times-set_volume n v [] = refl
  times-set_volume n v (x ∷ xs) = let ih = times-set_volume n v xs in grind (arith, nat_tests)

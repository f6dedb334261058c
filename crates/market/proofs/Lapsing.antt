-- Orders of a side go, in a walk by rank.
use Rattle.std.proofs.Common.{◌≡◌, ℕ, zero, suc, ◌+◌, Bool, true, false, cond, List, [], ◌∷◌, length, Some, None, refl, ap, ◌∙◌, arith}
use Rattle.std.proofs.lemmas.Bool.{cond-true, cond-false}
use Rattle.std.specs.List.{slice_get, remove}
use Rattle.rules.specs.declared.order.Order.{Order}
use Rattle.book.specs.declared.slip.Slip.{Slip}
use Rattle.book.specs.declared.slip.Slip.TheVariants.{Lapse}
use Rattle.book.specs.Calls.{going_slips, staying_orders, lapses, limit_orders, turnover}

-- the orders that pass a test go, with a slip for each
module _ (goes : Order → Bool) (slip : Order → Slip) where
  -- from the rank i on
  abbrev pub staying_from : ℕ → List Order → List Order
  staying_from zero xs = staying_orders goes xs
  staying_from (suc i) [] = []
  staying_from (suc i) (x ∷ xs) = x ∷ staying_from i xs

  abbrev pub going_from : ℕ → List Order → List Slip
  going_from zero xs = going_slips goes slip xs
  going_from (suc i) [] = []
  going_from (suc i) (x ∷ xs) = going_from i xs

  -- the order at the rank goes
  pub gone : (i : ℕ) (xs : List Order) (o : Order) → slice_get xs i ≡ Some o → goes o ≡ true →
      (going_from i xs ≡ slip o ∷ going_from i (remove xs i)) × (staying_from i xs ≡ staying_from i (remove xs i))
  gone i [] o h m = let z : ◌≡◌ {A = ℕ} 0 1 = cc in absurd (omega arith)
  gone zero (x ∷ xs) o h m =
      let e : x ≡ o = cc in
      let t = ap goes e ∙ m in
      (cond-true (goes x) (slip x ∷ going_slips goes slip xs) _ t ∙ ap (λ y. slip y ∷ going_slips goes slip xs) e, cond-true (goes x) (staying_orders goes xs) _ t)
  gone (suc i) (x ∷ xs) o h m = let ih = gone i xs o h m in (ih.0, ap (λ ys. x ∷ ys) ih.1)

  -- it stays
  pub stays : (i : ℕ) (xs : List Order) (o : Order) → slice_get xs i ≡ Some o → goes o ≡ false →
      (going_from i xs ≡ going_from (suc i) xs) × (staying_from i xs ≡ staying_from (suc i) xs)
  stays i [] o h m = let z : ◌≡◌ {A = ℕ} 0 1 = cc in absurd (omega arith)
  stays zero (x ∷ xs) o h m =
      let e : x ≡ o = cc in
      let t = ap goes e ∙ m in
      (cond-false (goes x) _ (going_slips goes slip xs) t, cond-false (goes x) (staying_orders goes xs) _ t)
  stays (suc i) (x ∷ xs) o h m = let ih = stays i xs o h m in (ih.0, ap (λ ys. x ∷ ys) ih.1)

  -- no order is left to look at
  pub over : (i : ℕ) (xs : List Order) → slice_get xs i ≡ None → (going_from i xs ≡ []) × (staying_from i xs ≡ xs)
  over zero [] h = (refl, refl)
  over (suc i) [] h = (refl, refl)
  over zero (x ∷ xs) h = let z : ◌≡◌ {A = ℕ} 0 1 = cc in absurd (omega arith)
  over (suc i) (x ∷ xs) h = let ih = over i xs h in (ih.0, ap (λ ys. x ∷ ys) ih.1)

-- each order lapses or stays
pub lapses_count : (xs : List Order) → length (lapses xs) + length (limit_orders xs) ≡ length xs
lapses_count [] = refl
lapses_count (x ∷ xs) = go (lapses_count xs) x.market
  where
    go : length (lapses xs) + length (limit_orders xs) ≡ length xs → (b : Bool) → length (cond b (Lapse x.number x.volume ∷ lapses xs) (lapses xs)) + length (cond b (limit_orders xs) (x ∷ limit_orders xs)) ≡ suc (length xs)
    go e true = omega arith
    go e false = omega arith

-- a lapse trades nothing
pub lapses_turnover : (xs : List Order) → turnover (lapses xs) ≡ 0
lapses_turnover [] = refl
lapses_turnover (x ∷ xs) = go (lapses_turnover xs) x.market
  where
    go : turnover (lapses xs) ≡ 0 → (b : Bool) → turnover (cond b (Lapse x.number x.volume ∷ lapses xs) (lapses xs)) ≡ 0
    go e true = e
    go e false = e

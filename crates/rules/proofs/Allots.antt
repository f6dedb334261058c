-- What an allotment can trade at a price is what the curve says.
use Rattle.std.proofs.Common.{◌≡◌, ℕ, ◌-◌, ◌≤◌, min, cond, List, [], ◌∷◌, arith}
use Rattle.rules.specs.Allotment.{total, Allotted, Allotment}
use Rattle.rules.specs.Book.{Book}
use Rattle.rules.specs.Curve.{depth, tradable}
use Rattle.rules.specs.Side.{willing}
use Rattle.rules.specs.declared.order.Direction.{Direction}
use Rattle.rules.specs.declared.order.Direction.TheVariants.{Buy, Sell}
use Rattle.rules.specs.declared.order.Order.{Order}

allotted_bound : (d : Direction) (p : ℕ) (os : List Order) (vs : List ℕ) → Allotted d p os vs → total vs ≤ depth d p os
allotted_bound d p [] [] g = omega arith
allotted_bound d p [] (v ∷ vs) g = absurd g
allotted_bound d p (o ∷ os) [] g = absurd g
allotted_bound d p (o ∷ os) (v ∷ vs) g = let rest = allotted_bound d p os vs g.2 in let unwilling = g.1 in grind arith

pub allotment_bound : (b : Book) (p t : ℕ) → Allotment b p t → t ≤ tradable b p
allotment_bound b p t a =
    omega (arith, allotted_bound Buy p b.buys a.to_buys a.buys, allotted_bound Sell p b.sells a.to_sells a.sells, a.bought, a.sold)

-- t shared out to the willing orders, the first first
abbrev spread : Direction → ℕ → List Order → ℕ → List ℕ
spread d p [] t = []
spread d p (o ∷ os) t = let v = cond (willing d o.price p) (min o.volume t) 0 in v ∷ spread d p os (t - v)

spread_allotted : (d : Direction) (p : ℕ) (os : List Order) (t : ℕ) → Allotted d p os (spread d p os t)
spread_allotted d p [] t = tt
spread_allotted d p (o ∷ os) t = (grind arith, grind arith, spread_allotted d p os _)

spread_total : (d : Direction) (p : ℕ) (os : List Order) (t : ℕ) → t ≤ depth d p os → total (spread d p os t) ≡ t
spread_total d p [] t h = omega arith
spread_total d p (o ∷ os) t h = let rest = spread_total d p os (t - cond (willing d o.price p) (min o.volume t) 0) in grind arith

pub allotment_most : (b : Book) (p : ℕ) → Allotment b p (tradable b p)
allotment_most b p =
    let t : ℕ = tradable b p in
    record {
      to_buys = spread Buy p b.buys t;
      to_sells = spread Sell p b.sells t;
      buys = spread_allotted Buy p b.buys t;
      sells = spread_allotted Sell p b.sells t;
      bought = spread_total Buy p b.buys t (omega arith);
      sold = spread_total Sell p b.sells t (omega arith);
    }

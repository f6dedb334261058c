-- Demand and supply at a price, what can trade there, and the surplus.
use Rattle.std.specs.Prelude.{ℕ, ◌+◌, ◌-◌, min, cond, List, [], ◌∷◌, All, Contains}
use Rattle.rules.specs.Book.{Book, side}
use Rattle.rules.specs.Side.{same, willing}
use Rattle.rules.specs.declared.candidate.Candidate.{Candidate}
use Rattle.rules.specs.declared.order.Direction.{Direction}
use Rattle.rules.specs.declared.order.Direction.TheVariants.{Buy, Sell}
use Rattle.rules.specs.declared.order.Order.{Order}

-- what an order of side d offers at the price p
abbrev pub offered : Direction → ℕ → Order → ℕ
offered d p o = cond (willing d o.price p) o.volume 0

-- what an order among those of both sides offers on side d
abbrev pub share : Direction → ℕ → Order → ℕ
share d p o = cond (same o.direction d) (offered d p o) 0

-- the volume of the orders of side d that are willing at p
abbrev pub depth : Direction → ℕ → List Order → ℕ
depth d p [] = 0
depth d p (o ∷ os) = offered d p o + depth d p os

abbrev pub demand : Book → ℕ → ℕ
demand b p = depth Buy p b.buys

abbrev pub supply : Book → ℕ → ℕ
supply b p = depth Sell p b.sells

-- the volume that can trade at p: the smaller of demand and supply
abbrev pub tradable : Book → ℕ → ℕ
tradable b p = min (demand b p) (supply b p)

-- how far apart two numbers are
abbrev pub apart : ℕ → ℕ → ℕ
apart m n = (m - n) + (n - m)

-- what one side offers at p beyond the other
abbrev pub surplus : Book → ℕ → ℕ
surplus b p = apart (demand b p) (supply b p)

-- the price p with what the fixing ranks it by, where r is the reference price
abbrev pub candidate : ℕ → Book → ℕ → Candidate
candidate r b p = record { price = p; volume = tradable b p; surplus = surplus b p; distance = apart p r }

-- every order of the book is one of these
abbrev pub Covers : List Order → Book → Type 0
Covers os b = (d : Direction) → All (Contains os) (side d b)

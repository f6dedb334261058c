-- Orders, and the orders of both sides.
use Rattle.std.specs.Prelude.{ℕ, false, List, filter}
use Rattle.rules.specs.Side.{same}
use Rattle.rules.specs.declared.order.Direction.{Direction}
use Rattle.rules.specs.declared.order.Direction.TheVariants.{Buy, Sell}
use Rattle.rules.specs.declared.order.Order.{Order}

-- a limit order that enters: number, member, side, price and volume; the number is its arrival
abbrev pub limit : ℕ → ℕ → Direction → ℕ → ℕ → Order
limit n member d p v =
    record { number = n; member = member; direction = d; price = p; market = false; volume = v; arrival = n }

-- what a read past the end of a list gives
abbrev pub no_order : Order
no_order = limit 0 0 Buy 0 0

pub record Book : Type 0 where
  pub buys : List Order
  pub sells : List Order

abbrev pub side : Direction → Book → List Order
side Buy b = b.buys
side Sell b = b.sells

-- the orders of one side among orders of both, in their order
abbrev pub of_side : Direction → List Order → List Order
of_side d os = filter (λ o. same o.direction d) os

abbrev pub split : List Order → Book
split os = record { buys = of_side Buy os; sells = of_side Sell os }

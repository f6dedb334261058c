-- A side by its direction: which of two prices is better, and at which prices an order is willing to trade.
use Rattle.std.specs.Prelude.{ℕ, Bool, true, false, nat_le, nat_lt, List, [], ◌∷◌, Some, Option}
use Rattle.rules.specs.declared.order.Direction.{Direction}
use Rattle.rules.specs.declared.order.Direction.TheVariants.{Buy, Sell}

-- the side that a side trades against
abbrev pub opposite : Direction → Direction
opposite Buy = Sell
opposite Sell = Buy

abbrev pub same : Direction → Direction → Bool
same Buy Buy = true
same Buy Sell = false
same Sell Buy = false
same Sell Sell = true

-- price p is better than price q: higher for a buy, lower for a sell
abbrev pub better : Direction → ℕ → ℕ → Bool
better Buy p q = nat_lt q p
better Sell p q = nat_lt p q

-- an order at `price` is willing to trade at p: a buy at p or less, a sell at p or more
abbrev pub willing : Direction → ℕ → ℕ → Bool
willing Buy price p = nat_le p price
willing Sell price p = nat_le price p

-- the name of a side, as the bytes of its text
abbrev pub called : Direction → Option (List ℕ)
called Buy = Some (98 ∷ 117 ∷ 121 ∷ [])
called Sell = Some (115 ∷ 101 ∷ 108 ∷ 108 ∷ [])

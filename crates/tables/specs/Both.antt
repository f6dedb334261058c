-- One thing for the buys and one for the sells, by direction.
use Rattle.rules.specs.declared.order.Direction.{Direction}
use Rattle.rules.specs.declared.order.Direction.TheVariants.{Buy, Sell}
use Rattle.tables.specs.declared.both.Both.{Both}

abbrev pub of : {X : Type 0} → Direction → Both X → X
of Buy b = b.buys
of Sell b = b.sells

-- the same with another one at a direction
abbrev pub with_other : {X : Type 0} → Direction → X → Both X → Both X
with_other Buy x b = record { buys = x; sells = b.sells }
with_other Sell x b = record { buys = b.buys; sells = x }

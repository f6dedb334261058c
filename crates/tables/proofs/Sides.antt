-- The two sides, by direction.
use Rattle.std.proofs.Common.{◌≡◌, refl}
use Rattle.rules.specs.declared.order.Direction.{Direction}
use Rattle.rules.specs.declared.order.Direction.TheVariants.{Buy, Sell}
use Rattle.tables.specs.declared.both.Both.{Both}
use Rattle.tables.specs.Both.{of, with_other}

pub with_same : {X : Type 0} (d : Direction) (b : Both X) → with_other d (of d b) b ≡ b
with_same Buy b = refl
with_same Sell b = refl

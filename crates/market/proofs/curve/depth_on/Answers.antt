use Rattle.std.proofs.Common.{◌≡◌, ℕ, zero, suc, ◌+◌, List, [], ◌∷◌, drop, add-one, arith, refl}
use Rattle.std.specs.List.{slice_get}
use Rattle.rules.specs.Curve.{depth}
use Rattle.rules.specs.declared.order.Direction.{Direction}
use Rattle.rules.specs.declared.order.Order.{Order}
use Rattle.tables.specs.Meaning.{listed}
use Rattle.market.specs.Covering.{offered_by}
use Rattle.market.proofs.curve.depth_on.Goals as goal

drop_depth : (d : Direction) (p : ℕ) (os : List Order) (i : ℕ) → depth d p (drop i os) ≡ offered_by d p (slice_get os i) + depth d p (drop (suc i) os)
drop_depth d p [] zero = refl
drop_depth d p [] (suc i) = refl
drop_depth d p (o ∷ os) zero = refl
drop_depth d p (o ∷ os) (suc i) = drop_depth d p os i

pub loop-rank-preserved : goal.loop-rank-preserved
loop-rank-preserved g c =
    let d = g.S.Quotes.way in
    let os = listed d (g.T.Table.contents c.args.table.now) in
    let more = drop_depth d c.args.p os c.loop-rank.rank in
    let is = c.offered_on.ensures in
    rw add-one (omega arith, omega arith)

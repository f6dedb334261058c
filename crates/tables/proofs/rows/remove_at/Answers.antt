use Rattle.std.proofs.Common.{arith}
use Rattle.tables.proofs.Stepwise.{closed_none, closed_more, closed_all}
use Rattle.tables.proofs.rows.remove_at.Goals as goal

pub loop-i-init : goal.loop-i-init
loop-i-init c = closed_none c.args.row.now c.args.at (omega arith)

pub loop-i-preserved : goal.loop-i-preserved
loop-i-preserved c = closed_more c.args.row.now c.loop-i.row c.args.at c.loop-i.i _ (omega arith) (omega arith) (omega arith) c.loop-i.invariant

pub returns : goal.returns
returns c = closed_all c.args.row.now c.loop-i.row c.args.at c.loop-i.i c.args.count (omega arith) (omega arith) c.loop-i.invariant

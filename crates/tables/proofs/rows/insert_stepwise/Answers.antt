use Rattle.std.proofs.Common.{◌≡◌, ◌+◌, ◌-◌, arith}
use Rattle.tables.proofs.Stepwise.{opened_none, opened_more, opened_all}
use Rattle.tables.proofs.rows.insert_stepwise.Goals as goal

pub loop-i-init : goal.loop-i-init
loop-i-init c = (omega arith, opened_none c.args.row.now c.args.count (omega arith))

pub loop-i-preserved : goal.loop-i-preserved
loop-i-preserved c =
    let back : c.loop-i.i - 1 + 1 ≡ c.loop-i.i = omega arith in
    (omega arith, opened_more c.args.row.now c.loop-i.row c.args.count (c.loop-i.i - 1) _ (omega arith) (omega arith) (omega arith) (rw back c.loop-i.invariant.1))

pub returns : goal.returns
returns c = opened_all c.args.row.now c.loop-i.row c.args.count c.args.at c.loop-i.i c.args.order (omega arith) (omega arith) (omega arith) (omega arith) c.loop-i.invariant.1

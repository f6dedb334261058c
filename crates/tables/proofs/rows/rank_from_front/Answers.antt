use Rattle.std.proofs.Common.{not, sym, ap, arith}
use Rattle.std.proofs.lemmas.List.Sums.{prefix_len-drop_yes, prefix_len-drop_no, prefix_len-drop_all}
use Rattle.rules.specs.Rank.{before}
use Rattle.tables.proofs.rows.rank_from_front.Goals as goal

pub returns-then-ranks_before : goal.returns-then-ranks_before
returns-then-ranks_before c =
    let e = prefix_len-drop_no (λ x. not (before c.args.direction c.args.order.now x)) c.args.row.now c.loop-i.i _ c.loop-i-test.true (ap not (sym c.if-ranks_before.ensures)) in
    record { place = omega arith; within = omega arith }

pub loop-i-preserved : goal.loop-i-preserved
loop-i-preserved c =
    let e = prefix_len-drop_yes (λ x. not (before c.args.direction c.args.order.now x)) c.args.row.now c.loop-i.i _ c.loop-i-test.true (ap not (sym c.if-ranks_before.ensures)) in
    omega arith

pub returns : goal.returns
returns c =
    let e = prefix_len-drop_all (λ x. not (before c.args.direction c.args.order.now x)) c.args.row.now c.loop-i.i c.loop-i-test.false in
    record { place = omega arith; within = omega arith }

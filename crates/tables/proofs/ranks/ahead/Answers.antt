use Rattle.std.proofs.Common.{◌+◌, Bool, cond, drop, sym, ap, ◌∙◌, arith}
use Rattle.std.proofs.lemmas.List.{at_drop_more, at_drop_all}
use Rattle.rules.specs.Rank.{before}
use Rattle.rules.specs.Book.{no_order}
use Rattle.tables.specs.Listing.{ahead}
use Rattle.tables.proofs.ranks.ahead.Goals as goal
use Rattle.tables.proofs.ranks.ahead.Goals.{then-ranks_before, else-ranks_before}

pub loop-other-preserved : goal.loop-other-preserved
loop-other-preserved c =
    let those = ahead (before c.args.direction) c.args.order.now in
    let i = c.loop-other.other-index in
    let e = at_drop_more those c.args.row.now i no_order c.loop-other-test.true in
    let one = λ (t : Bool). cond t 1 0 + those (drop (i + 1) c.args.row.now) in
    elim c.if-ranks_before.branch [
      | then-ranks_before w ↦ let h = e ∙ ap one (sym w.if-ranks_before.ensures) in (omega arith, omega arith)
      | else-ranks_before w ↦ let h = e ∙ ap one (sym w.if-ranks_before.ensures) in (omega arith, omega arith)
    ]

pub returns : goal.returns
returns c =
    let e = at_drop_all (ahead (before c.args.direction) c.args.order.now) c.args.row.now c.loop-other.other-index c.loop-other-test.false in
    omega arith

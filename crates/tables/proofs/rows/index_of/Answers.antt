use Rattle.std.proofs.Common.{sym, ap, ◌∙◌, arith}
use Rattle.std.proofs.lemmas.List.{get_or_default, at_drop_more, at_drop_all}
use Rattle.std.proofs.lemmas.Bool.Decides.{nat_tests}
use Rattle.rules.specs.Book.{no_order}
use Rattle.tables.specs.Listing.{times}
use Rattle.tables.proofs.rows.index_of.Goals as goal

pub returns-then-held-number : goal.returns-then-held-number
returns-then-held-number c =
    (c.loop-i-test.true, λ d. ap (λ o. o.number) (get_or_default c.args.row.now c.loop-i.i d _ c.loop-i-test.true) ∙ c.if-held-number.true)

pub loop-i-preserved : goal.loop-i-preserved
loop-i-preserved c =
    let e = at_drop_more (times c.args.number) c.args.row.now c.loop-i.i no_order c.loop-i-test.true in
    grind (arith, nat_tests)

pub returns : goal.returns
returns c = sym c.loop-i.invariant ∙ at_drop_all (times c.args.number) c.args.row.now c.loop-i.i c.loop-i-test.false

use Rattle.std.proofs.Common.{◌≡◌, ◌+◌, ◌==◌, Bool, true, false, cond, drop, get_or, Some, sym, ap, ◌∙◌, eq-eqb, arith}
use Rattle.std.specs.List.{find}
use Rattle.std.proofs.lemmas.Bool.Decides.{nat_tests}
use Rattle.std.proofs.lemmas.List.{at_drop_more, at_drop_all}
use Rattle.rules.specs.Rank.{before}
use Rattle.rules.specs.Book.{no_order}
use Rattle.rules.specs.declared.order.Order.{Order}
use Rattle.tables.specs.Listing.{ahead}
use Rattle.tables.proofs.Arranging.{find-ahead}
use Rattle.tables.proofs.Ranking.{ranking}
use Rattle.tables.proofs.ranks.at_rank.Goals as goal

pub returns-then-ahead-rank : goal.returns-then-ahead-rank
returns-then-ahead-rank c =
    let xs = c.args.row.now in
    let i = c.loop-order.order-index in
    let test : Order → Bool = λ x. ahead (before c.args.direction) x xs == c.args.rank in
    let o = get_or xs i no_order in
    let is : test o ≡ true = eq-eqb _ _ (sym c.ahead.ensures ∙ c.if-ahead-rank.true) in
    ap (λ b. cond b (Some o) (find test (drop (i + 1) xs))) (sym is)
    ∙ sym (at_drop_more (find test) xs i no_order c.loop-order-test.true)
    ∙ c.loop-order.invariant
    ∙ find-ahead (ranking c.args.direction) xs c.requires c.args.rank

pub loop-order-preserved : goal.loop-order-preserved
loop-order-preserved c =
    let xs = c.args.row.now in
    let i = c.loop-order.order-index in
    let test : Order → Bool = λ x. ahead (before c.args.direction) x xs == c.args.rank in
    let o = get_or xs i no_order in
    let isnt : test o ≡ false = grind (arith, nat_tests, c.ahead.ensures, c.if-ahead-rank.false) in
    ap (λ b. cond b (Some o) (find test (drop (i + 1) xs))) (sym isnt)
    ∙ sym (at_drop_more (find test) xs i no_order c.loop-order-test.true)
    ∙ c.loop-order.invariant

pub returns : goal.returns
returns c =
    let xs = c.args.row.now in
    let test : Order → Bool = λ x. ahead (before c.args.direction) x xs == c.args.rank in
    sym (at_drop_all (find test) xs c.loop-order.order-index c.loop-order-test.false)
    ∙ c.loop-order.invariant
    ∙ find-ahead (ranking c.args.direction) xs c.requires c.args.rank

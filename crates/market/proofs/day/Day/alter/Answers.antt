use Rattle.std.proofs.Common.{length, ap, ◌∙◌}
use Rattle.tables.specs.Meaning.{lookup}
use Rattle.market.proofs.Altering.{found_number}
use Rattle.market.proofs.Stepping.{alter_asked}
use Rattle.market.proofs.day.Day.alter.Goals as goal

pub change-requires-clause-found : goal.change-requires-clause-found
change-requires-clause-found g c =
    let d = c.args.self.now in
    let w = c.args.wanted in
    let o = c.in_ok-order.order in
    let found = (alter_asked c.args.terms.now d (length c.args.run.now) w o c.in_ok-order.ensures.rows c.in_ok-order.ensures.named).found in
    ap (λ n. lookup n d.table.book) (found_number w.number d.table.book o found) ∙ found

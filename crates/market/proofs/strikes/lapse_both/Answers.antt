use Rattle.std.proofs.Common.{length, ap, ◌∙◌, arith}
use Rattle.std.proofs.lemmas.Slice.{between_to_end}
use Rattle.std.proofs.lemmas.List.{length-drop}
use Rattle.rules.specs.declared.order.Direction.TheVariants.{Sell}
use Rattle.tables.specs.Meaning.{listed}
use Rattle.market.proofs.Lapsing.{lapses_count}
use Rattle.market.proofs.Writing.{length_into}
use Rattle.market.proofs.strikes.lapse_both.Goals as goal

pub lapse-requires-clause-room : goal.lapse-requires-clause-room
lapse-requires-clause-room g c =
    let b = (g.T.Table.contents c.args.table.now).book in
    let run = c.lapse-buys.new.run in
    let a = c.lapse-buys.result in
    let few = lapses_count b.buys in
    let same = ap length c.lapse-buys.ensures.run ∙ length_into c.args.run.now _ (omega (arith, few, c.requires.room)) in
    let sells = ap (λ t. length (listed Sell t)) c.lapse-buys.ensures.table in
    rw (between_to_end run a (length run) (omega arith)) (rw length-drop (omega (arith, few, same, sells, c.requires.room, c.lapse-buys.ensures.written)))

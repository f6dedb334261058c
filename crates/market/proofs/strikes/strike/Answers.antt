use Rattle.std.proofs.Common.{◌++◌, length, ap, ◌∙◌, arith}
use Rattle.std.proofs.lemmas.Slice.{between_to_end}
use Rattle.std.proofs.lemmas.List.{length-drop}
use Rattle.book.specs.Rows.{order_count}
use Rattle.book.specs.Calls.{match_at, turnover, lapses, fixing_trades}
use Rattle.book.proofs.Rooms.{match_used}
use Rattle.market.proofs.Lapsing.{lapses_turnover}
use Rattle.market.proofs.Pairing.{turnover_append}
use Rattle.market.proofs.Writing.{length_into}
use Rattle.market.proofs.strikes.strike.Goals as goal

pub lapse_both-lapsed-requires-clause-room : goal.lapse_both-lapsed-requires-clause-room
lapse_both-lapsed-requires-clause-room g c =
    let b = (g.T.Table.contents c.args.table.now).book in
    let run = c.pair_at-traded.new.run in
    let a = c.pair_at-traded.result.1 in
    let used = (match_used c.price_of-price.result b.buys b.sells).fits in
    let same = ap length c.pair_at-traded.ensures.run ∙ length_into c.args.run.now _ (omega (arith, used, c.requires.room)) in
    let left = ap order_count c.pair_at-traded.ensures.table in
    rw (between_to_end run a (length run) (omega arith)) (rw length-drop (omega (arith, used, same, left, c.requires.room, c.pair_at-traded.ensures.written)))

pub lapse_both-lapsed-requires-clause-few : goal.lapse_both-lapsed-requires-clause-few
lapse_both-lapsed-requires-clause-few g c =
    let b = (g.T.Table.contents c.args.table.now).book in
    let left = ap order_count c.pair_at-traded.ensures.table in
    omega (arith, left, (match_used c.price_of-price.result b.buys b.sells).fits, c.requires.few)

pub returns-clause-traded : goal.returns-clause-traded
returns-clause-traded g c =
    let b = (g.T.Table.contents c.args.table.now).book in
    let m = fixing_trades c.args.terms.now b in
    let e = c.pair_at-traded.ensures.traded ∙ ap (λ p. turnover (match_at p b.buys b.sells).slips) c.price_of-price.ensures in
    omega (
      arith,
      e,
      turnover_append m.slips (lapses m.buys ++ lapses m.sells),
      turnover_append (lapses m.buys) (lapses m.sells),
      lapses_turnover m.buys,
      lapses_turnover m.sells,
    )

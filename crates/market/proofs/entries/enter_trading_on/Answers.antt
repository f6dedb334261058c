use Rattle.std.proofs.Common.{◌≡◌, length, sym, ap, ◌∙◌, subst, true, arith}
use Rattle.std.proofs.lemmas.Slice.{between_to_end}
use Rattle.std.proofs.lemmas.List.{length-drop}
use Rattle.rules.specs.Side.{opposite}
use Rattle.tables.specs.Meaning.{listed, takes}
use Rattle.book.specs.Calls.{sweep_of, with_rest, lapse_left}
use Rattle.book.proofs.Rooms.{sweep_short}
use Rattle.market.specs.Outcome.{written_into}
use Rattle.market.proofs.Keeping.{sweep_part, takes_still}
use Rattle.market.proofs.Writing.{length_into, then_written}
use Rattle.market.proofs.entries.enter_trading_on.Goals as goal

pub place_left-lapsed-requires-clause-free : goal.place_left-lapsed-requires-clause-free
place_left-lapsed-requires-clause-free g c =
    let o = c.args.order in
    let t = g.T.Table.contents c.args.table.now in
    let w = sweep_of o t in
    let after = c.sweep-swept.ensures.table ∙ ap (λ d. with_rest d w.rest t) (sym c.requires.side) in
    subst (λ z. takes z o ≡ true) (sym after)
    (takes_still t o w.rest (sweep_part o.direction o.number o.price (listed (opposite o.direction) t) o.volume) c.requires.free)

pub place_left-lapsed-requires-clause-place : goal.place_left-lapsed-requires-clause-place
place_left-lapsed-requires-clause-place g c =
    let o = c.args.order in
    let t = g.T.Table.contents c.args.table.now in
    let w = sweep_of o t in
    let run = c.sweep-swept.new.run in
    let a = c.sweep-swept.result.written in
    let few = (sweep_short o.direction o.number o.price (listed (opposite o.direction) t) o.volume).fits in
    let same = ap length c.sweep-swept.ensures.run ∙ length_into c.args.run.now w.slips (omega (arith, few, c.requires.long)) in
    let e = between_to_end run a (length run) (omega arith) in
    rw e (rw length-drop (omega (arith, few, same, c.requires.long, c.sweep-swept.ensures.written)))

pub returns-clause-run : goal.returns-clause-run
returns-clause-run g c =
    let o = c.args.order in
    let t = g.T.Table.contents c.args.table.now in
    let w = sweep_of o t in
    let run = c.sweep-swept.new.run in
    let a = c.sweep-swept.result.written in
    let few = (sweep_short o.direction o.number o.price (listed (opposite o.direction) t) o.volume).fits in
    then_written c.args.run.now w.slips (lapse_left o w.left) (omega (arith, few, c.requires.long)) a run c.place_left-lapsed.new.run c.sweep-swept.ensures.written
    c.sweep-swept.ensures.run
    (c.place_left-lapsed.ensures.run ∙ (λ i. written_into (between_to_end run a (length run) (omega arith) i) (lapse_left o (c.sweep-swept.ensures.left i))))

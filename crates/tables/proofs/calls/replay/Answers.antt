use Rattle.std.proofs.Common.{sym, ap, ◌∙◌}
use Rattle.std.proofs.lemmas.List.{drop_all}
use Rattle.tables.specs.Calls.{all_after}
use Rattle.tables.specs.Meaning.{Contents, cleared}
use Rattle.tables.proofs.Replays.{all_after_room}
use Rattle.tables.proofs.calls.replay.Goals as goal

pub returns-clause-room : goal.returns-clause-room
returns-clause-room g c =
    let calls = c.args.calls.now in
    let t = g.T.Table.contents c.loop-call.table in
    let none = drop_all c.loop-call.call-index calls c.loop-call-test.false in
    ap (λ (u : Contents). u.capacity) (ap (all_after t) (sym none) ∙ c.loop-call.invariant.0.contents) ∙ all_after_room (cleared (g.T.Table.contents c.args.table.now)) calls

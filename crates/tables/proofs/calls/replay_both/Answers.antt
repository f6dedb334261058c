use Rattle.std.proofs.Common.{ap, ◌∙◌}
use Rattle.tables.specs.Meaning.{Contents, cleared}
use Rattle.tables.proofs.Replays.{all_after_room}
use Rattle.tables.proofs.calls.replay_both.Goals as goal

pub returns-in_err-second-clause-room : goal.returns-in_err-second-clause-room
returns-in_err-second-clause-room g c =
    let a = cleared (g.A.Table.contents c.args.one.now) in (
      ap (λ (t : Contents). t.capacity) c.in_ok-first.ensures.after ∙ all_after_room a c.args.calls.now,
      ap (λ (t : Contents). t.capacity) c.in_err-second.ensures.after,
    )

pub returns-clause-room : goal.returns-clause-room
returns-clause-room g c =
    let a = cleared (g.A.Table.contents c.args.one.now) in
    let b = cleared (g.B.Table.contents c.args.other.now) in (
      ap (λ (t : Contents). t.capacity) c.in_ok-first.ensures.after ∙ all_after_room a c.args.calls.now,
      ap (λ (t : Contents). t.capacity) c.in_ok-second.ensures.after ∙ all_after_room b c.args.calls.now,
    )

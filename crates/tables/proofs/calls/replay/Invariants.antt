use Rattle.std.proofs.Common.{◌≡◌, ◌≤◌, length, vec_items, vec_len, vec_capacity}
use Rattle.tables.specs.Meaning.{cleared}
use Rattle.tables.proofs.Replays.{Replayed}
use Rattle.tables.proofs.calls.replay.Given as goal

abbrev pub invariant-loop-call : goal.invariant-loop-call
invariant-loop-call g l =
    Replayed (cleared (g.T.Table.contents l.fn.table)) l.calls l.call-index (vec_items l.given) (g.T.Table.contents l.table)
    × (vec_len l.given ≡ l.call-index)
    × (length l.calls ≤ vec_capacity l.given)

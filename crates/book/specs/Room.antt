-- An accepted call's slips are as many as its answer counts, and fit its run.
use Rattle.std.specs.Prelude.{◌≡◌, ℕ, ◌≤◌, length}
use Rattle.rules.specs.declared.terms.Terms.{Terms}
use Rattle.book.specs.declared.call.Call.{Call}
use Rattle.book.specs.Calls.{Outcome, refused_by, done, step}
use Rattle.book.specs.Day.{Day}

abbrev pub FitsRun : ℕ → Outcome → Type 0
FitsRun room (refused_by n) = Unit {0}
FitsRun room (done day a slips) = (a.slips ≡ length slips) × (length slips ≤ room)

abbrev pub Room : Type 0
Room = (t : Terms) (day : Day) (c : Call) (room : ℕ) → FitsRun room (step t day c room)

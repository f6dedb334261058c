-- The stages of a day, as the rules of a session have them.
use Rattle.std.specs.Prelude.{ℕ, Bool, true, false}
use Rattle.book.specs.declared.call.Call.{Call}
use Rattle.book.specs.declared.call.Call.TheVariants.{Advance}
use Rattle.book.specs.declared.stage.Stage.{Stage}
use Rattle.book.specs.declared.stage.Stage.TheVariants.{PreOpen, Open, PreClose, Closed}

-- Closed stays Closed
abbrev pub next : Stage → Stage
next PreOpen = Open
next Open = PreClose
next PreClose = Closed
next Closed = Closed

-- the stage after an accepted call: only an advance moves on
abbrev pub stage_after : Stage → Call → Stage
stage_after stage Advance = next stage
stage_after stage _ = stage

-- no call is taken any more
abbrev pub is_closed : Stage → Bool
is_closed Closed = true
is_closed _ = false

-- orders that enter trade in Open alone
abbrev pub is_open : Stage → Bool
is_open Open = true
is_open _ = false

-- out of Pre-open and Pre-close there is a strike
abbrev pub strikes : Stage → Bool
strikes PreOpen = true
strikes PreClose = true
strikes _ = false

-- the number that a stage is shown as
abbrev pub stage_number : Stage → ℕ
stage_number PreOpen = 1
stage_number Open = 2
stage_number PreClose = 3
stage_number Closed = 4

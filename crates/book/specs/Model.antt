-- The session's rules as an engine.
use Rattle.std.specs.Prelude.{ℕ, List, [], ◌∷◌}
use Rattle.rules.specs.declared.terms.Terms.{Terms}
use Rattle.book.specs.declared.call.Call.{Call}
use Rattle.tables.specs.Meaning.{Capacity}
use Rattle.book.specs.Calls.{Outcome, refused_by, done, step}
use Rattle.book.specs.Day.{Day, new_day}
use Rattle.book.specs.Law.{Try, Verdict, refused, accepted, Came, Engine}

-- the day after a call
abbrev pub day_after : Day → Outcome → Day
day_after day (refused_by n) = day
day_after day (done after a slips) = after

abbrev pub result : Outcome → Verdict
result (refused_by n) = refused n
result (done after a slips) = accepted a slips

-- the rules of one call, whatever they are
abbrev pub Step : Type 0
Step = Terms → Day → Call → ℕ → Outcome

-- the day after a history of tries, the last first
abbrev pub day_after_tries : Step → Terms → Capacity → List Try → Day
day_after_tries f t cap [] = new_day cap
day_after_tries f t cap (x ∷ past) =
    let day : Day = day_after_tries f t cap past in
    day_after day (f t day x.call x.room)

-- what the engine says of an outcome: its verdict, and the book after it
abbrev pub what_came : Day → Outcome → Came
what_came day out = record { result = result out; book = (day_after day out).table.book }

-- a new day, and then call after call
abbrev pub engine : Step → Engine
engine f t cap past x =
    let day : Day = day_after_tries f t cap past in
    what_came day (f t day x.call x.room)

abbrev pub model : Engine
model = engine step

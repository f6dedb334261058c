-- What a call answers, and what it makes of a run, by the rules.
use Rattle.std.specs.Prelude.{ℕ, List, ◌++◌, drop, length, Ok, Err, Result}
use Rattle.rules.specs.Refusal.{number}
use Rattle.rules.specs.declared.refusal.Refusal.{Refusal}
use Rattle.book.specs.declared.answer.Answer.{Answer}
use Rattle.book.specs.declared.answer.Told.{Told}
use Rattle.book.specs.declared.slip.Slip.{Slip}
use Rattle.book.specs.Calls.{Outcome, refused_by, done}

-- a result with the refusal by its number
abbrev pub by_number : {X : Type 0} → Result X Refusal → Result X ℕ
by_number (Ok x) = Ok x
by_number (Err e) = Err (number e)

-- the answer to a call of one kind, as what any call is answered
abbrev pub told_as : {X : Type 0} → (X → Told) → Result (Answer X) Refusal → Result (Answer Told) ℕ
told_as kind (Ok a) = Ok (record { told = kind a.told; slips = a.slips })
told_as kind (Err e) = Err (number e)

-- the slips from the first place on, and the places behind them as they were
abbrev pub written_into : List Slip → List Slip → List Slip
written_into run slips = slips ++ drop (length slips) run

-- the answer or the refusal's number
abbrev pub answer_of : Outcome → Result (Answer Told) ℕ
answer_of (refused_by n) = Err n
answer_of (done day a slips) = Ok a

-- a refusal leaves the run as it was
abbrev pub run_after : List Slip → Outcome → List Slip
run_after run (refused_by n) = run
run_after run (done day a slips) = written_into run slips

-- What a session means, and what a call makes of it, by the rules.
use Rattle.std.specs.Prelude.{◌≡◌, ℕ, List, take, length, Ok, Err, Result}
use Rattle.rules.specs.declared.terms.Terms.{Terms}
use Rattle.tables.specs.Meaning.{Capacity}
use Rattle.book.specs.declared.answer.Answer.{Answer}
use Rattle.book.specs.declared.answer.Told.{Told}
use Rattle.book.specs.declared.call.Call.{Call}
use Rattle.book.specs.declared.slip.Slip.{Slip}
use Rattle.book.specs.Calls.{Outcome}
use Rattle.book.specs.Journal.{Line}
use Rattle.book.specs.Law.{Try, Verdict, refused, accepted}
use Rattle.book.specs.Ending.{reference_by}
use Rattle.book.specs.Leads.{outcome, Leads, GoesOn}
use Rattle.book.specs.Marks.{Session, new_session, session_after}
use Rattle.market.specs.Outcome.{answer_of, run_after}

-- what a session means: its terms, and its day with what the next reference price needs
pub record Seen : Type 0 where
  pub terms : Terms
  pub session : Session

-- a session that begins
abbrev pub session_start : Terms → Capacity → Seen
session_start t cap = record { terms = t; session = new_session cap }

-- the try that a call over this run is
abbrev pub trial : Call → List Slip → Try
trial call run = record { call = call; room = length run }

-- the answer or the refusal's number, the session and the run after a call
pub record Work : Type 0 where
  pub answer : Result (Answer Told) ℕ
  pub after : Seen
  pub run : List Slip

-- a call came to this
abbrev pub came_to : Result (Answer Told) ℕ → Seen → List Slip → Work
came_to answer s run = record { answer = answer; after = s; run = run }

-- what an outcome of the rules makes of a session
abbrev pub work_by : Seen → Call → List Slip → Outcome → Work
work_by s call run out =
    came_to (answer_of out) (record { terms = s.terms; session = session_after s.terms call s.session out }) (run_after run out)

-- what the rules of the book make of it
abbrev pub by_the_rules : Seen → Call → List Slip → Work
by_the_rules s call run = work_by s call run (outcome s.terms s.session.day (trial call run))

-- what really came of a call ----------------------------------------------------------------------------------------

-- how many slips what a call answers counts; a refusal counts none
abbrev pub slips_counted : Result (Answer Told) ℕ → ℕ
slips_counted (Err n) = 0
slips_counted (Ok a) = a.slips

-- an answer comes with the slips that it counts, from the run's first place on
abbrev pub verdict : Result (Answer Told) ℕ → List Slip → Verdict
verdict (Err n) run = refused n
verdict (Ok a) run = accepted a (take a.slips run)

-- the line of a call in a journal: over a run of so many places, what it answered, the run and the session after it
abbrev pub line_of : Call → ℕ → Work → Line
line_of call room w = record { asked = record { call = call; room = room }; came = record { result = verdict w.answer w.run; book = w.after.session.day.table.book } }

-- after whatever journal leads to the session before the call, its line is lawful, and leads on to the session after it
abbrev pub Lawfully : Seen → Call → ℕ → Work → Type 0
Lawfully s call room w = (cap : Capacity) → GoesOn s.terms cap s.session (line_of call room w) w.after.session

-- whatever journal leads to the session, the reference price that it leaves is the one that the journal gives
abbrev pub EndsAs : Seen → ℕ → Type 0
EndsAs s reference = (cap : Capacity) (past : List Line) → Leads s.terms cap past s.session → reference ≡ reference_by s.terms past

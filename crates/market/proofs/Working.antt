-- A call that is worked does what the rules say, and is lawful.
use Rattle.std.proofs.Common.{◌≡◌, ℕ, ◌≤◌, List, take, drop, length, Ok, Err, Result, refl, sym, ap, subst, ◌∙◌, arith}
use Rattle.std.proofs.Math.Seq.{take-append_seam}
use Rattle.std.proofs.lemmas.List.{length-append, length-drop}
use Rattle.rules.specs.declared.reference.DayRecord.{DayRecord}
use Rattle.rules.specs.declared.terms.Terms.{Terms}
use Rattle.book.specs.declared.answer.Answer.{Answer}
use Rattle.book.specs.declared.answer.Told.{Told}
use Rattle.book.specs.declared.call.Call.{Call}
use Rattle.book.specs.declared.slip.Slip.{Slip}
use Rattle.book.specs.declared.stage.Stage.{Stage}
use Rattle.book.specs.Day.{Day}
use Rattle.book.specs.Calls.{Outcome, refused_by, done, step}
use Rattle.book.specs.Law.{accepted}
use Rattle.book.specs.Leads.{GoesOn, outcome}
use Rattle.book.specs.Marks.{session_after, marks_after}
use Rattle.book.specs.Model.{day_after, result}
use Rattle.book.specs.Room.{FitsRun}
use Rattle.book.proofs.Leading.{going_on}
use Rattle.book.proofs.Rooms.{room_stands}
use Rattle.market.specs.Outcome.{written_into, answer_of, run_after}
use Rattle.market.specs.Works.{Seen, trial, Work, came_to, work_by, by_the_rules, slips_counted, verdict, line_of, Lawfully}

-- the slips that an answer counts are those that were written
taken : (run : List Slip) (a : Answer Told) (slips : List Slip) → a.slips ≡ length slips → take a.slips (written_into run slips) ≡ slips
taken run a slips e = ap (λ n. take n (written_into run slips)) e ∙ take-append_seam slips (drop (length slips) run)

room_for : (run slips : List Slip) (n : ℕ) → n ≡ length slips → length slips ≤ length run → n ≤ length (written_into run slips)
room_for run slips n e f = omega (arith, length-append slips (drop (length slips) run), length-drop (length slips) run)

verdict_is : (run : List Slip) (out : Outcome) → FitsRun (length run) out → verdict (answer_of out) (run_after run out) ≡ result out
verdict_is run (refused_by n) f = refl
verdict_is run (done day a slips) f = ap (accepted a) (taken run a slips f.0)

-- Of what is worked by the rules --------------------------------------------------------------------------------------------

module _ (s : Seen) (call : Call) (run : List Slip) where
  abbrev came : Outcome
  came = outcome s.terms s.session.day (trial call run)

  fit : FitsRun (length run) came
  fit = room_stands s.terms s.session.day call (length run)

  counted_fits : (out : Outcome) → FitsRun (length run) out → slips_counted (answer_of out) ≤ length (run_after run out)
  counted_fits (refused_by n) f = omega arith
  counted_fits (done day a slips) f = room_for run slips a.slips f.0 f.1

  counted_written : (out : Outcome) → FitsRun (length run) out → run_after run out ≡ written_into run (take (slips_counted (answer_of out)) (run_after run out))
  counted_written (refused_by n) f = refl
  counted_written (done day a slips) f = ap (written_into run) (sym (taken run a slips f.0))

  module _ (w : Work) (e : w ≡ by_the_rules s call run) where
    -- the run has a place for each slip that the answer counts
    pub fits : slips_counted w.answer ≤ length w.run
    fits = subst (λ (x : Work). slips_counted x.answer ≤ length x.run) (sym e) (counted_fits came fit)

    -- and behind them it is as it was
    pub wrote : w.run ≡ written_into run (take (slips_counted w.answer) w.run)
    wrote = subst (λ (x : Work). x.run ≡ written_into run (take (slips_counted x.answer) x.run)) (sym e) (counted_written came fit)

    pub lawfully : Lawfully s call (length run) w
    lawfully cap =
        subst (λ (x : Work). GoesOn s.terms cap s.session (line_of call (length run) x) x.after.session) (sym e)
        (subst (λ v. GoesOn s.terms cap s.session (record { asked = trial call run; came = record { result = v; book = (day_after s.session.day came).table.book } }) (session_after s.terms call s.session came)) (sym (verdict_is run came fit))
        (going_on s.terms cap s.session (trial call run)))

-- Of what a call makes of a session ------------------------------------------------------------------------------------------

abbrev pub session_of : Terms → Day → DayRecord → Seen
session_of t day m = record { terms = t; session = record { day = day; marks = m } }

-- the marks after a call that answered this, wrote this run and left this day
abbrev pub followed : Terms → Stage → Call → DayRecord → Result (Answer Told) ℕ → List Slip → Day → DayRecord
followed t stage call m (Err n) run day = m
followed t stage call m (Ok a) run day = marks_after t stage call m (take a.slips run) day.table.book

module _ (t : Terms) (day : Day) (m : DayRecord) (call : Call) (run : List Slip) where
  abbrev out : Outcome
  out = step t day call (length run)

  abbrev before : Seen
  before = session_of t day m

  module _ (r : Result (Answer Told) ℕ) (after : Day) (m' : DayRecord) (run' : List Slip) (er : r ≡ answer_of out) (es : run' ≡ run_after run out) where
    -- the run has a place for each slip that the answer counts
    pub answer_fits : slips_counted r ≤ length run'
    answer_fits = go out er es (room_stands t day call (length run))
      where
        go : (o : Outcome) → r ≡ answer_of o → run' ≡ run_after run o → FitsRun (length run) o → slips_counted r ≤ length run'
        go o e f k = subst (λ z. slips_counted z ≤ length run') (sym e) (subst (λ z. slips_counted (answer_of o) ≤ length z) (sym f) (counted_fits before call run o k))

    module _ (ed : after ≡ day_after day out) (em : m' ≡ followed t day.stage call m r run' after) where
      -- what the day does with a call, and the marks that follow it, are what the session does
      pub works_is : came_to r (session_of t after m') run' ≡ by_the_rules before call run
      works_is =
          (λ i. came_to (er i) (session_of t (ed i) ((em ∙ (λ j. followed t day.stage call m (er j) (es j) (ed j))) i)) (es i))
          ∙ go out (room_stands t day call (length run))
        where
          go :
              (o : Outcome) → FitsRun (length run) o →
              came_to (answer_of o) (session_of t (day_after day o) (followed t day.stage call m (answer_of o) (run_after run o) (day_after day o))) (run_after run o) ≡
              work_by before call run o
          go (refused_by n) f = refl
          go (done d a slips) f =
              ap (λ ss. came_to (Ok a) (session_of t d (marks_after t day.stage call m ss d.table.book)) (written_into run slips)) (taken run a slips f.0)

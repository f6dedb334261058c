-- The calls of a file, as they are read before any is worked; and the lines of calls that are worked in turn.
use Rattle.std.specs.Prelude.{◌≡◌, ℕ, zero, suc, List, [], ◌∷◌, ◌++◌, Result, Ok, Err}
use Rattle.rules.specs.declared.terms.Terms.{Terms}
use Rattle.book.specs.declared.call.Call.{Call}
use Rattle.book.specs.Marks.{Session}
use Rattle.book.specs.Model.{result}
use Rattle.market.specs.Journaled.{verdict_of}
use Rattle.market.specs.declared.journal.Entry.{Entry}
use Rattle.session_file.specs.declared.answer.Stop.{Stop}
use Rattle.session_file.specs.declared.answer.Stop.TheVariants.{Broken, Refused, OutOfMemory}
use Rattle.session_file.specs.declared.fault.Fault.{Fault}
use Rattle.session_file.specs.Answered.{verdict_text, outcome_over, session_after_call}
use Rattle.session_file.specs.Lines.{Ahead, call_line, ending}

-- the calls up to the end or to the first fault, and which of the two it was
pub record Gathered : Type 0 where
  pub calls : List Call
  pub end : Result (Unit {0}) Fault

abbrev pub onto : Result (Call × Ahead) Fault → (Ahead → Gathered) → Gathered
onto (Err fault) next = record { calls = []; end = Err fault }
onto (Ok c) next = let behind : Gathered = next c.1 in record { calls = c.0 ∷ behind.calls; end = behind.end }

-- so many calls, and then nothing more
abbrev pub calls_gathered : ℕ → Ahead → Gathered
calls_gathered zero ahead = record { calls = []; end = ending ahead }
calls_gathered (suc n) ahead = onto (call_line ahead) (calls_gathered n)

-- the calls stand behind those before them, and the reader says how they end; of want of memory nothing is said
abbrev pub Gathers : Result (Unit {0}) Stop → List Call → List Call → Gathered → Type 0
Gathers (Ok x) before after g = (after ≡ before ++ g.calls) × (g.end ≡ Ok tt)
Gathers (Err (Broken fault)) before after g = (after ≡ before ++ g.calls) × (g.end ≡ Err fault)
Gathers (Err (Refused r)) before after g = ⊥
Gathers (Err OutOfMemory) before after g = Unit {0}

-- the lines of a call that was worked
abbrev pub entry_text : Entry → List ℕ
entry_text e = verdict_text (verdict_of e.answer e.slips.items)

module _ (t : Terms) (room : ℕ) where
  -- the lines of these calls in turn
  abbrev pub text_in_turn : Session → List Call → List ℕ
  text_in_turn s [] = []
  text_in_turn s (c ∷ cs) = verdict_text (result (outcome_over t room s c)) ++ text_in_turn (session_after_call t room s c) cs

  -- the session after them
  abbrev pub session_in_turn : Session → List Call → Session
  session_in_turn s [] = s
  session_in_turn s (c ∷ cs) = session_in_turn (session_after_call t room s c) cs

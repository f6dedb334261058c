-- The text that a whole file is answered with: its lines are read and worked in turn, by the rules of the book.
use Rattle.std.specs.Prelude.{ℕ, zero, suc, List, [], ◌∷◌, ◌++◌, Result, Ok, Err}
use Rattle.std.specs.List.{flat_map}
use Rattle.rules.specs.declared.terms.Terms.{Terms}
use Rattle.tables.specs.Meaning.{Capacity}
use Rattle.book.specs.declared.call.Call.{Call}
use Rattle.book.specs.declared.slip.Slip.{Slip}
use Rattle.book.specs.Calls.{Outcome}
use Rattle.book.specs.Law.{Verdict, refused, accepted}
use Rattle.book.specs.Leads.{outcome}
use Rattle.book.specs.Marks.{Session, new_session, session_after, reference_left}
use Rattle.book.specs.Model.{result}
use Rattle.session_file.specs.declared.fault.Fault.{Fault}
use Rattle.session_file.specs.Lines.{Ahead, first_ahead, number_line, call_line, terms_section, ending}
use Rattle.session_file.specs.Opening.{terms_from}
use Rattle.session_file.specs.Output.{told_line, slip_line, refusal_line, fault_line, reference_line}

-- a line and its byte 10
abbrev pub line_text : List ℕ → List ℕ
line_text line = line ++ 10 ∷ []

abbrev pub slip_text : Slip → List ℕ
slip_text slip = line_text (slip_line slip)

-- a line for a call, and one for each of its slips
abbrev pub verdict_text : Verdict → List ℕ
verdict_text (refused n) = line_text (refusal_line n)
verdict_text (accepted answer slips) = line_text (told_line answer.told) ++ flat_map slip_text slips

-- what follows from what was read; a broken form ends the text
abbrev pub reading : {X : Type 0} → Result X Fault → (X → List ℕ) → List ℕ
reading (Ok x) next = next x
reading (Err fault) next = line_text (fault_line fault.line)

module _ (t : Terms) (room : ℕ) where
  -- what the rules make of a call, over a run of so many places
  abbrev pub outcome_over : Session → Call → Outcome
  outcome_over s call = outcome t s.day (record { call = call; room = room })

  -- and the session after it
  abbrev pub session_after_call : Session → Call → Session
  session_after_call s call = session_after t call s (outcome_over s call)

  -- the last line of a session that was worked to its end
  abbrev pub closing_text : Session → List ℕ
  closing_text s = line_text (reference_line (reference_left t s))

  -- so many calls, and then nothing more
  abbrev pub calls_text : ℕ → Session → Ahead → List ℕ
  calls_text zero s ahead = reading (ending ahead) (λ _. closing_text s)
  calls_text (suc n) s ahead =
      reading (call_line ahead) (λ c. verdict_text (result (outcome_over s c.0)) ++ calls_text n (session_after_call s c.0) c.1)

-- refused terms end the text
abbrev pub under : Result Terms ℕ → (Terms → List ℕ) → List ℕ
under (Err n) text = line_text (refusal_line n)
under (Ok t) text = text t

-- the section of the calls
abbrev pub calls_section_text : Capacity → ℕ → Result Terms ℕ → Ahead → List ℕ
calls_section_text cap room terms ahead = under terms (λ t. reading (number_line ahead) (λ count. calls_text t room count.0 (new_session cap) count.1))

-- both sections
abbrev pub sections_text : Capacity → ℕ → Ahead → List ℕ
sections_text cap room ahead = reading (terms_section ahead) (λ s. calls_section_text cap room (terms_from s.0.reference s.0.block) s.1)

-- over a table that has room for so much, and a run of so many places
abbrev pub file_text : Capacity → ℕ → List ℕ → List ℕ
file_text cap room file = reading (first_ahead file) (sections_text cap room)

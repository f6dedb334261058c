-- How the text of a file ends, once its calls are worked.
use Rattle.std.proofs.Common.{◌≡◌, ℕ, List, [], ◌++◌, Result, Ok, Err, sym, ◌∙◌, ap, append_assoc}
use Rattle.std.specs.List.{flat_map}
use Rattle.rules.specs.declared.terms.Terms.{Terms}
use Rattle.tables.specs.Meaning.{Capacity}
use Rattle.book.specs.declared.call.Call.{Call}
use Rattle.book.specs.Marks.{Session, new_session, reference_left}
use Rattle.market.specs.declared.journal.Entry.{Entry}
use Rattle.market.specs.Journaled.{Journaled}
use Rattle.market.specs.Works.{Seen}
use Rattle.session_file.specs.declared.answer.Stop.{Stop}
use Rattle.session_file.specs.declared.answer.Stop.TheVariants.{Broken, Refused, OutOfMemory}
use Rattle.session_file.specs.Answered.{line_text, reading, closing_text, calls_text}
use Rattle.session_file.specs.Gathered.{Gathers, calls_gathered, entry_text, text_in_turn, session_in_turn}
use Rattle.session_file.specs.Lines.{Ahead}
use Rattle.session_file.specs.Output.{reference_line}
use Rattle.session_file.specs.Stops.{Comes}
use Rattle.session_file.proofs.Gathering.{joined}
use Rattle.session_file.proofs.Telling.{all_said}

-- what is answered in the end
abbrev pub ending_with : Result (Unit {0}) Stop → ℕ → Result ℕ Stop
ending_with (Ok x) reference = Ok reference
ending_with (Err stop) reference = Err stop

module _ (t : Terms) (cap : Capacity) (room n : ℕ) (a : Ahead) (read : Result (Unit {0}) Stop) (cs : List Call) (gathers : Gathers read [] cs (calls_gathered n a))
    (es : List Entry) (s : Seen) (journal : Journaled t cap cs room es s) (out put : List ℕ) (put_is : put ≡ out ++ flat_map entry_text es)
    (reference : ℕ) (reference_is : reference ≡ reference_left s.terms s.session) where
  abbrev start : Session
  start = new_session cap

  abbrev whole : Result (Unit {0}) Stop → List ℕ → Type 0
  whole r text = Comes (ending_with r reference) put (out ++ text)

  left : reference_left t (session_in_turn t room start cs) ≡ reference
  left =
      let j = all_said t cap cs room es s journal in
      sym (reference_is ∙ (λ i. reference_left (journal.terms i) (j.1 i)))

  mine : put ≡ out ++ text_in_turn t room start cs
  mine = put_is ∙ ap (λ text. out ++ text) (all_said t cap cs room es s journal).0

  closes : (r : Result (Unit {0}) Stop) → Gathers r [] cs (calls_gathered n a) → Comes (ending_with r reference) put (out ++ calls_text t room n start a)
  closes (Ok x) g =
      ap (λ text. text ++ line_text (reference_line reference)) mine
      ∙ append_assoc out (text_in_turn t room start cs) (line_text (reference_line reference))
      ∙ ap (λ k. out ++ (text_in_turn t room start cs ++ line_text (reference_line k))) (sym left)
      ∙ ap (λ text. out ++ text)
      ((λ i. text_in_turn t room start (g.0 i) ++ reading (sym g.1 i) (λ _. closing_text t room (session_in_turn t room start (g.0 i)))) ∙ sym (joined t room n start a))
  closes (Err (Broken fault)) g =
      ap (λ text. text ++ reading {X = Unit {0}} (Err fault) (λ _. [])) mine
      ∙ append_assoc out (text_in_turn t room start cs) (reading {X = Unit {0}} (Err fault) (λ _. []))
      ∙ ap (λ text. out ++ text)
      ((λ i. text_in_turn t room start (g.0 i) ++ reading (sym g.1 i) (λ _. closing_text t room (session_in_turn t room start (g.0 i)))) ∙ sym (joined t room n start a))
  closes (Err (Refused r)) g = absurd g
  closes (Err OutOfMemory) g = tt

  pub answered_so : Comes (ending_with read reference) put (out ++ calls_text t room n start a)
  answered_so = closes read gathers

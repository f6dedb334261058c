-- A file that breaks its form, in the words of the grammar of its lines, and the text that it is answered with.
use Rattle.std.specs.Prelude.{◌≡◌, ℕ, zero, suc, ◌+◌, ◌-◌, ◌<◌, ◌≤◌, List, [], ◌∷◌, ◌++◌, length}
use Rattle.tables.specs.Meaning.{Capacity}
use Rattle.book.specs.declared.call.Call.{Call}
use Rattle.book.specs.Marks.{new_session}
use Rattle.session_file.specs.Grammar.{Number, Line}
use Rattle.session_file.specs.Files.{◌above◌}
use Rattle.session_file.specs.Answered.{line_text, under}
use Rattle.session_file.specs.Gathered.{text_in_turn}
use Rattle.session_file.specs.Opening.{terms_from}
use Rattle.session_file.specs.Output.{fault_line}

-- the text does not begin with a line as First says, with its byte 10
abbrev pub Without : (List ℕ → Type 0) → List ℕ → Type 0
Without First text = (line rest : List ℕ) → First line → text ≡ line ++ 10 ∷ rest → ⊥

abbrev pub NoNumber : List ℕ → Type 0
NoNumber text = (n : ℕ) → Without (Number n) text

-- so many lines of the first section stand, and the next is broken
abbrev pub BrokenTerms : ℕ → List ℕ → Type 0
BrokenTerms zero text = Without (Number 2) text
BrokenTerms (suc zero) text = (Number 2 above NoNumber) text
BrokenTerms (suc (suc zero)) text = (reference : ℕ) × (Number 2 above Number reference above NoNumber) text
BrokenTerms (suc (suc (suc n))) text = ⊥

-- the first section stands, and the count of the calls is broken
abbrev pub BrokenCount : ℕ → ℕ → List ℕ → Type 0
BrokenCount reference block = Number 2 above Number reference above Number block above NoNumber

-- so many calls are still to come: the next line is none; or after the last there is still something
abbrev pub BrokenNext : ℕ → List ℕ → Type 0
BrokenNext zero text = text ≡ [] → ⊥
BrokenNext (suc n) text = (call : Call) → Without (Line call) text

-- the lines of these calls, and then a text as Next says
abbrev pub CallsThen : List Call → (List ℕ → Type 0) → List ℕ → Type 0
CallsThen [] Next = Next
CallsThen (call ∷ calls) Next = Line call above CallsThen calls Next

-- both counts and the terms stand, n calls are to come, and behind these the form is broken
abbrev pub BrokenCalls : ℕ → ℕ → ℕ → List Call → List ℕ → Type 0
BrokenCalls reference block n calls =
    Number 2 above Number reference above Number block above Number n above CallsThen calls (BrokenNext (n - length calls))

abbrev pub fault_text : ℕ → List ℕ
fault_text line = line_text (fault_line line)

-- a broken form is answered by its line, behind the answers to the calls before it; a file that is too long by line 0
pub record BrokenInTurn (cap : Capacity) (room : ℕ) (file text : List ℕ) : Type 0 where
  pub too_long : 65536 < length file → text ≡ fault_text 0
  pub in_terms : (k : ℕ) → length file ≤ 65536 → BrokenTerms k file → text ≡ fault_text (k + 1)
  pub in_count :
      (reference block : ℕ) → length file ≤ 65536 → BrokenCount reference block file →
      text ≡ under (terms_from reference block) (λ _. fault_text 4)
  pub in_calls :
      (reference block n : ℕ) (calls : List Call) → length file ≤ 65536 → length calls ≤ n →
      BrokenCalls reference block n calls file →
      text ≡ under (terms_from reference block) (λ t. text_in_turn t room (new_session cap) calls ++ fault_text (length calls + 5))

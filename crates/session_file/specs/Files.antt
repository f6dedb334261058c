-- What a whole file says, in the words of the grammar of its lines; and the text that it is answered with, call after
-- call.
use Rattle.std.specs.Prelude.{◌≡◌, ℕ, List, [], ◌∷◌, ◌++◌, ◌≤◌, length, Result}
use Rattle.rules.specs.declared.terms.Terms.{Terms}
use Rattle.tables.specs.Meaning.{Capacity}
use Rattle.book.specs.declared.call.Call.{Call}
use Rattle.book.specs.Marks.{new_session}
use Rattle.session_file.specs.Grammar.{Number, Line}
use Rattle.session_file.specs.Answered.{closing_text, under}
use Rattle.session_file.specs.Gathered.{text_in_turn, session_in_turn}
use Rattle.session_file.specs.Opening.{terms_from}

-- a line, its byte 10, and what follows
pub record Stacked (First Next : List ℕ → Type 0) (text : List ℕ) : Type 0 where
  pub line : List ℕ
  pub rest : List ℕ
  pub first : First line
  pub next : Next rest
  pub whole : text ≡ line ++ 10 ∷ rest

infixr 4 ◌above◌
abbrev pub ◌above◌ : (List ℕ → Type 0) → (List ℕ → Type 0) → List ℕ → Type 0
First above Next = Stacked First Next

abbrev pub CallLines : List Call → List ℕ → Type 0
CallLines [] = λ text. text ≡ []
CallLines (call ∷ calls) = Line call above CallLines calls

-- the files that say these terms and these calls: two sections, each after its count
abbrev pub File : ℕ → ℕ → List Call → List ℕ → Type 0
File reference block calls =
    Number 2 above Number reference above Number block above Number (length calls) above CallLines calls

-- the text of these calls in turn
abbrev pub text_of : Capacity → ℕ → Result Terms ℕ → List Call → List ℕ
text_of cap room terms calls =
    under terms (λ t. text_in_turn t room (new_session cap) calls ++ closing_text t room (session_in_turn t room (new_session cap) calls))

-- a file that is not too long, and says terms and calls, is answered call after call
abbrev pub AnsweredInTurn : Capacity → ℕ → List ℕ → List ℕ → Type 0
AnsweredInTurn cap room file text =
    (reference block : ℕ) (calls : List Call) → length file ≤ 65536 → File reference block calls file →
    text ≡ text_of cap room (terms_from reference block) calls

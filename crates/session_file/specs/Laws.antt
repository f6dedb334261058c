-- What is shown of the lines, and of the terms that they say.
use Rattle.std.specs.Prelude.{◌≡◌, ℕ, ◌+◌, ◌^◌, ◌<◌, List, ◌∷◌, ◌++◌, Result, Ok, Err, ◌↔◌}
use Rattle.std.specs.Fmt.{decimal}
use Rattle.rules.specs.Terms as terms
use Rattle.rules.specs.declared.terms.Terms.{Terms}
use Rattle.book.specs.declared.call.Call.{Call}
use Rattle.session_file.specs.Grammar.{Number, Line}
use Rattle.session_file.specs.Lines.{Ahead, number_line, call_line}
use Rattle.session_file.specs.Opening.{terms_from}

-- a line reads as one call at most
abbrev pub OneCall : Type 0
OneCall = (line : List ℕ) (one other : Call) → Line one line → Line other line → one ≡ other

-- what is ahead begins with a line as First says, with its byte 10, and behind it is what is left
pub record Begins (First : List ℕ → Type 0) (ahead behind : Ahead) : Type 0 where
  pub line : List ℕ
  pub first : First line
  pub whole : ahead.text ≡ line ++ 10 ∷ behind.text
  pub counted : behind.line ≡ ahead.line + 1

-- a number is read exactly where such a line is next
abbrev pub NumbersRead : Type 0
NumbersRead = (n : ℕ) (ahead behind : Ahead) → (number_line ahead ≡ Ok (n, behind)) ↔ Begins (Number n) ahead behind

-- and a call
abbrev pub CallsRead : Type 0
CallsRead = (call : Call) (ahead behind : Ahead) → (call_line ahead ≡ Ok (call, behind)) ↔ Begins (Line call) ahead behind

-- the figures of terms, or the number of their refusal
abbrev pub figures : Result Terms ℕ → terms.TermsAnswer
figures (Ok t) = terms.made t.reference t.block t.lo t.hi
figures (Err n) = terms.refused n

-- a file's terms are those of the rules
abbrev pub TermsByTheRules : Type 0
TermsByTheRules = (reference block : ℕ) → figures (terms_from reference block) ≡ terms.terms_of reference block

-- a number of at most nine digits is read as it is printed
abbrev pub PrintedRead : Type 0
PrintedRead = (n : ℕ) → n < 10 ^ 9 → Number n (decimal n)

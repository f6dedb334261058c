-- What a line of a session file says: a relation of its bytes, without the closing byte 10, and the call.
use Rattle.std.specs.Prelude.{◌≡◌, ℕ, ◌≤◌, List, ◌∷◌, ◌++◌, Option, Some, None, length, slice_index}
use Rattle.std.specs.Str.Parse.{IsNumeral, digits_value}
use lib.Chars.{codes}
use Rattle.rules.specs.declared.order.Direction.{Direction}
use Rattle.rules.specs.declared.order.Direction.TheVariants.{Buy, Sell}
use Rattle.book.specs.declared.call.Call.{Call}
use Rattle.book.specs.declared.call.Call.TheVariants.{Enter, Alter, Withdraw, Advance}

-- one to nine digits, with no needless leading zero (48 is the digit 0)
pub record Number (n : ℕ) (field : List ℕ) : Type 0 where
  pub digits : IsNumeral 10 field
  pub at_most_nine : length field ≤ 9
  pub no_leading_zero : slice_index field 0 ≡ 48 → length field ≡ 1
  pub value : n ≡ digits_value 10 field

abbrev pub Text : List ℕ → List ℕ → Type 0
Text text field = field ≡ text

abbrev pub Side : Direction → List ℕ → Type 0
Side Buy field = field ≡ codes "B"
Side Sell field = field ≡ codes "S"

-- a market order has M in place of a price
abbrev pub Price : Option ℕ → List ℕ → Type 0
Price (Some p) field = Number p field
Price None field = field ≡ codes "M"

-- a field, one space (32), and what follows
pub record Spaced (First Next : List ℕ → Type 0) (line : List ℕ) : Type 0 where
  pub field : List ℕ
  pub rest : List ℕ
  pub first : First field
  pub next : Next rest
  pub whole : line ≡ field ++ 32 ∷ rest

infixr 5 ◌then◌
abbrev pub ◌then◌ : (List ℕ → Type 0) → (List ℕ → Type 0) → List ℕ → Type 0
First then Next = Spaced First Next

-- the lines that say a call
abbrev pub Line : Call → List ℕ → Type 0
Line (Enter e) =
    Text (codes "E") then Number e.member then Side e.direction then Price e.limit then Number e.volume
Line (Alter a) =
    Text (codes "A") then Number a.member then Number a.number then Number a.price then Number a.volume
Line (Withdraw w) = Text (codes "W") then Number w.member then Number w.number
Line Advance = Text (codes "N")

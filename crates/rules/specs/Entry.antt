-- What an order has to meet on its own, and the form of a row: the number of the refusal, or none where it passes.
use Rattle.std.specs.Prelude.{ℕ, ◌%◌, Bool, cond, ◌&&◌, Some, None, Ok, Err, Option, Result, ◌==◌}
use Rattle.rules.specs.Band.{within}
use Rattle.rules.specs.Refusal.{number}
use Rattle.rules.specs.declared.refusal.Refusal.{Refusal}

-- the number of a refusal, or none
abbrev pub refusal_of : {X : Type 0} → Result X Refusal → Option ℕ
refusal_of (Ok x) = None
refusal_of (Err e) = Some (number e)

-- a row: the number where its condition holds, else none
abbrev pub row : Bool → ℕ → Option ℕ
row holds n = cond holds (Some n) None

-- one of the sixteen members
abbrev pub is_member : ℕ → Bool
is_member member = within 1 16 member

-- whole blocks, at least one share and at most 100,000,000
abbrev pub is_volume : ℕ → ℕ → Bool
is_volume block volume = within 1 100000000 volume && volume % block == 0

-- The lines that a session file is answered with, without their byte 10.
use Rattle.std.specs.Prelude.{ℕ, List, [], ◌∷◌, Option, Some, None}
use Rattle.std.specs.List.{join_with_byte}
use Rattle.std.specs.Fmt.{decimal}
use lib.Chars.{codes}
use Rattle.rules.specs.Refusal.{number}
use Rattle.book.specs.declared.answer.Told.{Told}
use Rattle.book.specs.declared.answer.Told.TheVariants.{Entered, Altered, Withdrawn, Advanced}
use Rattle.book.specs.declared.slip.Slip.{Slip}
use Rattle.book.specs.declared.slip.Slip.TheVariants.{Trade, Lapse}
use Rattle.book.specs.Stages.{stage_number}
use Rattle.session_file.specs.declared.output.OutputLine.{OutputLine}
use Rattle.session_file.specs.declared.output.OutputLine.TheVariants.{Accepted, Slipped, Refused, Broken, NextReference}

-- fields with one space (32) between
abbrev pub spaced : List (List ℕ) → List ℕ
spaced fields = join_with_byte 32 fields

abbrev pub price_or_dash : Option ℕ → List ℕ
price_or_dash (Some price) = decimal price
price_or_dash None = codes "-"

-- what a call is told
abbrev pub told_line : Told → List ℕ
told_line (Entered x) = spaced (codes "E" ∷ decimal x.number ∷ decimal x.traded ∷ decimal x.held ∷ [])
told_line (Altered x) = spaced (codes "A" ∷ decimal x.traded ∷ decimal x.held ∷ [])
told_line (Withdrawn x) = spaced (codes "W" ∷ decimal x.volume ∷ [])
told_line (Advanced x) =
    spaced (codes "N" ∷ decimal (stage_number x.stage) ∷ price_or_dash x.price ∷ decimal x.traded ∷ [])

abbrev pub slip_line : Slip → List ℕ
slip_line (Trade buy sell price volume) = spaced (codes "T" ∷ decimal buy ∷ decimal sell ∷ decimal price ∷ decimal volume ∷ [])
slip_line (Lapse n volume) = spaced (codes "L" ∷ decimal n ∷ decimal volume ∷ [])

abbrev pub refusal_line : ℕ → List ℕ
refusal_line n = spaced (codes "R" ∷ decimal n ∷ [])

-- a broken form, by its line
abbrev pub fault_line : ℕ → List ℕ
fault_line n = spaced (codes "X" ∷ decimal n ∷ [])

abbrev pub reference_line : ℕ → List ℕ
reference_line price = spaced (codes "F" ∷ decimal price ∷ [])

-- of an answer what is told; the count of its slips is not written
abbrev pub line : OutputLine → List ℕ
line (Accepted answer) = told_line answer.told
line (Slipped slip) = slip_line slip
line (Refused refusal) = refusal_line (number refusal)
line (Broken fault) = fault_line fault.line
line (NextReference reference) = reference_line reference

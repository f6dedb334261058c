-- A file as it is read, line by line: each line ends with byte 10.
use Rattle.std.specs.Prelude.{ℕ, ◌+◌, List, Option, Some, None, Result, Ok, Err, length, nat_le, ◌==◌, if◌then◌else◌}
use denote.Ref.{Bor}
use Rattle.rules.specs.declared.refusal.Refusal.TheVariants.{BrokenForm}
use Rattle.book.specs.declared.call.Call.{Call}
use Rattle.session_file.specs.declared.fault.Fault.{Fault}
use Rattle.session_file.specs.declared.lines.Lines.{Lines}
use Rattle.session_file.specs.declared.lines.TermsSection.{TermsSection}
use Rattle.session_file.specs.Cut.{cut}
use Rattle.session_file.specs.Reading.{number_of, call_of}

abbrev pub broken : ℕ → Fault
broken line = record { refusal = BrokenForm; line = line }

-- what is left of a file, and the number of its first line
pub record Ahead : Type 0 where
  pub line : ℕ
  pub text : List ℕ

infixl 10 ◌>>=◌
abbrev pub ◌>>=◌ : {X Y : Type 0} → Result X Fault → (X → Result Y Fault) → Result Y Fault
(Ok x) >>= f = f x
(Err e) >>= f = Err e

-- a file that is too long is broken in line 0
abbrev pub first_ahead : List ℕ → Result Ahead Fault
first_ahead file = if nat_le (length file) 65536 then Ok (record { line = 1; text = file }) else Err (broken 0)

abbrev pub cut_line : ℕ → Option (List ℕ × List ℕ) → Result (List ℕ × Ahead) Fault
cut_line line None = Err (broken line)
cut_line line (Some parts) = Ok (parts.0, record { line = line + 1; text = parts.1 })

-- the first line without its byte 10, and what is behind it; a line that is not there is broken too
abbrev pub first_line : Ahead → Result (List ℕ × Ahead) Fault
first_line ahead = cut_line ahead.line (cut 10 ahead.text)

abbrev pub or_broken : {X : Type 0} → ℕ → Option X → Ahead → Result (X × Ahead) Fault
or_broken line None behind = Err (broken line)
or_broken line (Some x) behind = Ok (x, behind)

abbrev pub number_line : Ahead → Result (ℕ × Ahead) Fault
number_line ahead = first_line ahead >>= λ l. or_broken ahead.line (number_of l.0) l.1

abbrev pub call_line : Ahead → Result (Call × Ahead) Fault
call_line ahead = first_line ahead >>= λ l. or_broken ahead.line (call_of l.0) l.1

-- the count 2, the reference price and the block, a line each
abbrev pub terms_section : Ahead → Result (TermsSection × Ahead) Fault
terms_section ahead =
    number_line ahead >>= λ count.
    if count.0 == 2 then (number_line count.1 >>= λ reference. number_line reference.1 >>= λ block. Ok (record { reference = reference.0; block = block.0 }, block.1)) else Err (broken ahead.line)

-- nothing may be left
abbrev pub ending : Ahead → Result (Unit {0}) Fault
ending ahead = if length ahead.text == 0 then Ok tt else Err (broken ahead.line)

-- the same of what the code holds
abbrev pub ahead_in : Lines → Ahead
ahead_in lines = record { line = lines.line; text = lines.rest.now }

-- and of what it was given, or a fault
abbrev pub ahead_of : Result Lines Fault → Result Ahead Fault
ahead_of (Ok lines) = Ok (ahead_in lines)
ahead_of (Err e) = Err e

abbrev pub cut_off : Result (Bor (List ℕ) × Lines) Fault → Result (List ℕ × Ahead) Fault
cut_off (Ok p) = Ok (p.0.now, ahead_in p.1)
cut_off (Err e) = Err e

abbrev pub found : {X : Type 0} → Result (X × Lines) Fault → Result (X × Ahead) Fault
found (Ok p) = Ok (p.0, ahead_in p.1)
found (Err e) = Err e

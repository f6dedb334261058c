-- How the text goes on where the file is read no further.
use Rattle.std.specs.Prelude.{◌≡◌, ℕ, List, ◌++◌, Result, Ok, Err}
use Rattle.rules.specs.Refusal.{number}
use Rattle.session_file.specs.declared.answer.Stop.{Stop}
use Rattle.session_file.specs.declared.answer.Stop.TheVariants.{Broken, Refused, OutOfMemory}
use Rattle.session_file.specs.Answered.{line_text}
use Rattle.session_file.specs.Output.{refusal_line, fault_line, reference_line}

-- out, with the line that is still to be put, is the text; of want of memory nothing is said
abbrev pub Comes : Result ℕ Stop → List ℕ → List ℕ → Type 0
Comes (Ok reference) out text = out ++ line_text (reference_line reference) ≡ text
Comes (Err (Broken fault)) out text = out ++ line_text (fault_line fault.line) ≡ text
Comes (Err (Refused refusal)) out text = out ++ line_text (refusal_line (number refusal)) ≡ text
Comes (Err OutOfMemory) out text = Unit {0}

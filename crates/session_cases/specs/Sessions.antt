-- What a call of a session says, as a file's output says it.
use Rattle.std.specs.Prelude.{ℕ, List, [], Result, Ok, Err, take}
use Rattle.rules.specs.declared.refusal.Refusal.{Refusal}
use Rattle.book.specs.declared.answer.Answer.{Answer}
use Rattle.book.specs.declared.answer.Told.{Told}
use Rattle.book.specs.declared.slip.Slip.{Slip}
use Rattle.market.specs.Journaled.{verdict_of}
use Rattle.session_file.specs.Answered.{verdict_text}

-- the answer with as many slips of the run as it says, or the refusal's number
abbrev pub text_of_call : Result (Answer Told) Refusal → List Slip → List ℕ
text_of_call (Ok answer) run = verdict_text (verdict_of (Ok answer) (take answer.slips run))
text_of_call (Err refusal) run = verdict_text (verdict_of (Err refusal) [])

-- An answer counts the slips of its call.
use Rattle.std.specs.Prelude.{List, length}
use Rattle.book.specs.declared.answer.Answer.{Answer}
use Rattle.book.specs.declared.slip.Slip.{Slip}

abbrev pub with_count : {A : Type 0} → A → List Slip → Answer A
with_count told slips = record { told = told; slips = length slips }

use Rattle.book.proofs.Journals.{law_of_journals}
use Rattle.book.proofs.theorems.law_of_journals.Goals as goal

pub returns : goal.returns
returns c = law_of_journals

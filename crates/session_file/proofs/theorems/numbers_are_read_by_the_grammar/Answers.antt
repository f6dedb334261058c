use Rattle.session_file.proofs.Begun.{numbers_read}
use Rattle.session_file.proofs.theorems.numbers_are_read_by_the_grammar.Goals as goal

pub returns : goal.returns
returns c = numbers_read

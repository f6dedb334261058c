use Rattle.session_file.proofs.Begun.{calls_read}
use Rattle.session_file.proofs.theorems.calls_are_read_by_the_grammar.Goals as goal

pub returns : goal.returns
returns c = calls_read

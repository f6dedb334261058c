use Rattle.session_file.proofs.Printed.{printed_read}
use Rattle.session_file.proofs.theorems.printed_numbers_are_read.Goals as goal

pub returns : goal.returns
returns c = printed_read

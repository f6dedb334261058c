use Rattle.book.proofs.Pinning.{pinned}
use Rattle.book.proofs.theorems.law_pins.Goals as goal

pub returns : goal.returns
returns c = pinned

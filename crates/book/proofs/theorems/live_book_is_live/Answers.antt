use Rattle.book.proofs.Living.{live_book_is_live}
use Rattle.book.proofs.theorems.live_book_is_live.Goals as goal

pub returns : goal.returns
returns c = live_book_is_live

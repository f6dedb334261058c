use Rattle.book.proofs.Places.{takes_by_places}
use Rattle.book.proofs.theorems.only_full_sides_refuse.Goals as goal

pub returns : goal.returns
returns c = takes_by_places

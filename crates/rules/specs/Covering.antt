-- A list of orders covers the book that it splits into.
use Rattle.std.specs.Prelude.{List, Contains}
use Rattle.std.proofs.lemmas.List.Elements.{All-filter, All-contains_itself}
use Rattle.rules.specs.Book.{split}
use Rattle.rules.specs.Curve.{Covers}
use Rattle.rules.specs.declared.order.Direction.TheVariants.{Buy, Sell}
use Rattle.rules.specs.declared.order.Order.{Order}

pub split_covers : (os : List Order) → Covers os (split os)
split_covers os Buy = All-filter _ (Contains os) os (All-contains_itself os)
split_covers os Sell = All-filter _ (Contains os) os (All-contains_itself os)

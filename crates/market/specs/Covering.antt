-- The orders of a table as those of a curve.
use Rattle.std.specs.Prelude.{ℕ, List, ◌++◌, slice_index_or, All, Contains, Some, None, Option}
use Rattle.std.proofs.lemmas.List.Elements.{All-contains_itself, Contains-append_left, Contains-append_right}
use Rattle.rules.specs.Book.{Book}
use Rattle.rules.specs.Curve.{Covers, offered}
use Rattle.rules.specs.declared.order.Direction.{Direction}
use Rattle.rules.specs.declared.order.Direction.TheVariants.{Buy, Sell}
use Rattle.rules.specs.declared.order.Order.{Order}

-- what an order offers at p, if there is one
abbrev pub offered_by : Direction → ℕ → Option Order → ℕ
offered_by d p None = 0
offered_by d p (Some o) = offered d p o

-- what is true of each
more : (P Q : Order → Type 0) → ((o : Order) → P o → Q o) → (os : List Order) → All P os → All Q os
more P Q f os a k e below = f (slice_index_or os k e) (a k e below)

-- the orders of both sides, one side behind the other, are all orders of the book
pub both_cover : (b : Book) → Covers (b.buys ++ b.sells) b
both_cover b Buy =
    more (Contains b.buys) (Contains (b.buys ++ b.sells)) (Contains-append_left b.buys b.sells) b.buys
    (All-contains_itself b.buys)
both_cover b Sell =
    more (Contains b.sells) (Contains (b.buys ++ b.sells)) (Contains-append_right b.buys b.sells) b.sells
    (All-contains_itself b.sells)

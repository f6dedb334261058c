-- What an order table means: a book with each side in rank order, and what it has room for.
use Rattle.std.specs.Prelude.{◌≡◌, ℕ, ◌+◌, ◌≤◌, Bool, true, false, cond, not, ◌&&◌, List, [], length, is_some, Ok, Err, Option, Result, ◌==◌, nat_lt}
use Rattle.std.specs.Option.{option_or}
use Rattle.std.specs.List.{find}
use Rattle.rules.specs.Book.{Book, side}
use Rattle.rules.specs.Rank.{before}
use Rattle.rules.specs.declared.order.Direction.{Direction}
use Rattle.rules.specs.declared.order.Direction.TheVariants.{Buy, Sell}
use Rattle.rules.specs.declared.order.Order.{Order}
use Rattle.tables.specs.declared.table.No.{No}
use Rattle.tables.specs.Listing.{numbered, times, insert, arranged, without, set_volume, in_rank, on_side}

-- what a table has room for: so many places for each side
pub record Capacity : Type 0 where
  pub places : ℕ

-- what a table means: what it has room for, and the orders that it holds
pub record Contents : Type 0 where
  pub capacity : Capacity
  pub book : Book

-- the orders of a side, in rank order
abbrev pub listed : Direction → Contents → List Order
listed d t = side d t.book

-- the contents t with another book
abbrev pub holding : Contents → Book → Contents
holding t b = record t { book = b }

-- no side holds more than its places
abbrev pub Fits : Contents → Type 0
Fits t = (d : Direction) → length (listed d t) ≤ t.capacity.places

-- each side is in rank order
abbrev pub Sorted : Book → Type 0
Sorted b = (d : Direction) → in_rank (before d) (side d b) ≡ true

-- each order is on its own side
abbrev pub Sided : Book → Type 0
Sided b = (d : Direction) → on_side d (side d b) ≡ true

-- no number is held twice, both sides counted
abbrev pub Once : Book → Type 0
Once b = (n : ℕ) → times n b.buys + times n b.sells ≤ 1

-- what every table keeps
pub record Sound (t : Contents) : Type 0 where
  pub fits : Fits t
  pub sorted : Sorted t.book
  pub sided : Sided t.book
  pub once : Once t.book

abbrev pub book_of : List Order → List Order → Book
book_of bs ss = record { buys = bs; sells = ss }

abbrev pub empty : Book
empty = book_of [] []

-- a book in no order, put in rank order
abbrev pub in_order : Book → Book
in_order b = book_of (arranged (before Buy) b.buys) (arranged (before Sell) b.sells)

abbrev pub ordered : Contents → Contents
ordered t = holding t (in_order t.book)

-- the book with another list for one side
abbrev pub with_side : Direction → List Order → Book → Book
with_side Buy os b = book_of os b.sells
with_side Sell os b = book_of b.buys os

-- the contents with another list for one side
abbrev pub with_listed : Direction → List Order → Contents → Contents
with_listed d os t = holding t (with_side d os t.book)

-- the book with each list changed
abbrev pub each_side : (List Order → List Order) → Book → Book
each_side f b = book_of (f b.buys) (f b.sells)

-- the order with the number n, of either side
abbrev pub lookup : ℕ → Book → Option Order
lookup n b = option_or (find (numbered n) b.buys) (find (numbered n) b.sells)

abbrev pub held : ℕ → Book → Bool
held n b = is_some (lookup n b)

-- a table takes an order: its side has a place left, and its number is not held
abbrev pub takes : Contents → Order → Bool
takes t o = nat_lt (length (listed o.direction t)) t.capacity.places && not (held o.number t.book)

-- a volume is set: it is not 0, and the number is held
abbrev pub sets_volume : ℕ → ℕ → Contents → Bool
sets_volume n v t = not (v == 0) && held n t.book

-- the answer of a call that refuses where the test fails
abbrev pub said : Bool → Result (Unit {0}) No
said true = Ok tt
said false = Err (record {})

-- the order at its rank on its side
abbrev pub inserted : Order → Book → Book
inserted o b = with_side o.direction (insert (before o.direction) o (side o.direction b)) b

abbrev pub put_in : Order → Contents → Contents
put_in o t = holding t (inserted o t.book)

abbrev pub cleared : Contents → Contents
cleared t = holding t empty

-- what a table means after an add, a change of volume and a removal; a refusal leaves it as it was
abbrev pub added : Order → Contents → Contents
added o t = cond (takes t o) (put_in o t) t

abbrev pub volume_set : ℕ → ℕ → Contents → Contents
volume_set n v t = cond (sets_volume n v t) (holding t (each_side (set_volume n v) t.book)) t

abbrev pub removed : ℕ → Contents → Contents
removed n t = cond (held n t.book) (holding t (each_side (without n) t.book)) t

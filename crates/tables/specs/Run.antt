-- The orders that stand in a run of places: buys from its start, sells from its half on.
use Rattle.std.specs.Prelude.{ℕ, ◌/◌, ◌≤◌, min, List, length, take, drop}
use Rattle.rules.specs.declared.order.Direction.{Direction}
use Rattle.rules.specs.declared.order.Direction.TheVariants.{Buy, Sell}
use Rattle.rules.specs.declared.order.Order.{Order}
use Rattle.tables.specs.declared.both.Both.{Both}
use Rattle.tables.specs.Meaning.{Capacity, Contents, Sound, Sorted, book_of, empty, ordered}

-- half the places, rounded down
abbrev pub half : List Order → ℕ
half run = length run / 2

-- where the half of a side begins
abbrev pub start : Direction → List Order → ℕ
start Buy run = 0
start Sell run = half run

-- what a queue over a run of n places has room for: half of them, and at most 512
abbrev pub run_capacity : ℕ → Capacity
run_capacity n = record { places = min 512 (n / 2) }

-- the first so many orders of each half
abbrev pub stored : List Order → Both ℕ → Contents
stored run n = record { capacity = run_capacity (length run); book = book_of (take n.buys run) (take n.sells (drop (half run) run)) }

-- an empty queue over a run of n places
abbrev pub empty_in : ℕ → Contents
empty_in n = record { capacity = run_capacity n; book = empty }

-- what a queue keeps: no side reaches past its half, and the orders are a table's and in rank order as they stand
pub record Kept (run : List Order) (n : Both ℕ) : Type 0 where
  pub buys : n.buys ≤ half run
  pub sells : n.sells ≤ half run
  pub ranked : Sorted (stored run n).book
  pub sound : Sound (ordered (stored run n))

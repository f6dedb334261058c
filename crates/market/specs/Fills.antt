-- Trading of an entering order over a table.
use Rattle.std.specs.Prelude.{ℕ, List, [], ◌∷◌, length}
use Rattle.rules.specs.declared.order.Direction.{Direction}
use Rattle.rules.specs.declared.order.Order.{Order}
use Rattle.tables.specs.Meaning.{Contents, listed, with_listed}
use Rattle.book.specs.Calls.{Execution, with_first_less}
use Rattle.market.specs.declared.entries.Fill.{Fill}

-- the orders after the first has traded v
abbrev pub first_taken : ℕ → List Order → List Order
first_taken v [] = []
first_taken v (o ∷ os) = with_first_less v o os

-- the same of one side of a table
abbrev pub first_taken_on : Direction → ℕ → Contents → Contents
first_taken_on d v c = with_listed d (first_taken v (listed d c)) c

-- the volumes of an order that entered, and the count of its slips
abbrev pub fill_of : Execution → Fill
fill_of a = record { traded = a.traded; held = a.held; written = length a.slips }

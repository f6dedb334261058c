-- A table that does not take the next order has no place left for it.
use Rattle.std.specs.Prelude.{◌≡◌, ◌≤◌, suc, List, length}
use Rattle.rules.specs.declared.order.Direction.{Direction}
use Rattle.rules.specs.declared.terms.Terms.{Terms}
use Rattle.tables.specs.Meaning.{Capacity, listed, takes}
use Rattle.book.specs.declared.call.NewOrder.{NewOrder}
use Rattle.book.specs.Calls.{order_of, step}
use Rattle.book.specs.Day.{Day}
use Rattle.book.specs.Rows.{has_place}
use Rattle.book.specs.Law.{Try}
use Rattle.book.specs.Model.{day_after_tries}

-- after every history the table has the places given, no side holds more, and the table takes the next order exactly
-- where its side has a place: the number that the order would have is never held
pub record ByPlaces (t : Terms) (cap : Capacity) (day : Day) : Type 0 where
  pub capacity : day.table.capacity ≡ cap
  pub fits : (d : Direction) → length (listed d day.table) ≤ cap.places
  pub taken :
      (e : NewOrder) → takes day.table (order_of t (suc day.tally) e) ≡ has_place e.direction day.table

abbrev pub TakesByPlaces : Type 0
TakesByPlaces = (t : Terms) (cap : Capacity) (past : List Try) → ByPlaces t cap (day_after_tries step t cap past)

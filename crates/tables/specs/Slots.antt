-- Orders of both sides in no order, with memory reserved for as many as they have places.
use Rattle.std.specs.Prelude.{◌≤◌, vec_items, vec_capacity}
use Rattle.std.specs.Vec.{with_item}
use Rattle.rules.specs.declared.order.Order.{Order}
use Rattle.tables.specs.declared.place.Place.{Place}
use Rattle.tables.specs.declared.unsorted.Unsorted.{Unsorted}
use Rattle.tables.specs.Both.{of, with_other}
use Rattle.tables.specs.Meaning.{Capacity, Contents, Sound, book_of, empty, ordered}

abbrev pub capacity : Capacity
capacity = record { places = 32 }

abbrev pub stored : Unsorted → Contents
stored b = record { capacity = capacity; book = book_of (vec_items b.orders.buys) (vec_items b.orders.sells) }

abbrev pub empty_slots : Contents
empty_slots = record { capacity = capacity; book = empty }

-- what slots keep: no call wants memory, and in rank order the orders are a table's
pub record Kept (b : Unsorted) : Type 0 where
  pub buys : capacity.places ≤ vec_capacity b.orders.buys
  pub sells : capacity.places ≤ vec_capacity b.orders.sells
  pub sound : Sound (ordered (stored b))

-- the order o written over the one at a place
abbrev pub overwritten : Place → Order → Unsorted → Unsorted
overwritten p o b = record { orders = with_other p.direction (with_item (of p.direction b.orders) p.index o) b.orders }

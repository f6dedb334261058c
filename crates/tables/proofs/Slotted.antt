-- Slots of which one side was changed.
use Rattle.std.proofs.Common.{◌≡◌, ℕ, ◌≤◌, List, get_or, set, Vec, vec_items, vec_capacity, sym, refl, ap, ◌∙◌, subst}
use Rattle.std.specs.declared.alloc.Global.{Global}
use Rattle.rules.specs.Book.{no_order}
use Rattle.rules.specs.declared.order.Direction.{Direction}
use Rattle.rules.specs.declared.order.Direction.TheVariants.{Buy, Sell}
use Rattle.rules.specs.declared.order.Order.{Order}
use Rattle.tables.specs.declared.place.Place.{Place}
use Rattle.tables.specs.declared.unsorted.Unsorted.{Unsorted}
use Rattle.tables.specs.Both.{of, with_other}
use Rattle.tables.specs.Listing.{with_volume}
use Rattle.tables.specs.Meaning.{Sound, listed, holding, ordered, with_side}
use Rattle.tables.specs.Slots.{capacity, stored, overwritten, Kept}
use Rattle.tables.specs.Stored.{with_volume_at}

-- u with other orders on a side
abbrev pub with_row : Direction → Vec Order Global → Unsorted → Unsorted
with_row d v u = record { orders = with_other d v u.orders }

pub row_is : (d : Direction) (u : Unsorted) → vec_items (of d u.orders) ≡ listed d (stored u)
row_is Buy u = refl
row_is Sell u = refl

stored_with : (d : Direction) (v : Vec Order Global) (u : Unsorted) → stored (with_row d v u) ≡ holding (stored u) (with_side d (vec_items v) (stored u).book)
stored_with Buy v u = refl
stored_with Sell v u = refl

-- what stands then, where the orders are f of those that stood there
pub changed_row : (f : List Order → List Order) (d : Direction) (v : Vec Order Global) (u : Unsorted) → vec_items v ≡ f (vec_items (of d u.orders))
    → stored (with_row d v u) ≡ holding (stored u) (with_side d (f (listed d (stored u))) (stored u).book)
changed_row f d v u e = stored_with d v u ∙ ap (λ os. holding (stored u) (with_side d os (stored u).book)) (e ∙ ap f (row_is d u))

pub reserved : (d : Direction) (u : Unsorted) → Kept u → capacity.places ≤ vec_capacity (of d u.orders)
reserved Buy u k = k.buys
reserved Sell u k = k.sells

pub kept_with : (d : Direction) (v : Vec Order Global) (u : Unsorted) → Kept u → vec_capacity v ≡ vec_capacity (of d u.orders) → Sound (ordered (stored (with_row d v u))) → Kept (with_row d v u)
kept_with Buy v u k e s = record { buys = subst (λ n. capacity.places ≤ n) (sym e) k.buys; sells = k.sells; sound = s }
kept_with Sell v u k e s = record { buys = k.buys; sells = subst (λ n. capacity.places ≤ n) (sym e) k.sells; sound = s }

pub written : (p : Place) (v : ℕ) (o : Order) (u : Unsorted) → o ≡ get_or (vec_items (of p.direction u.orders)) p.index no_order
    → stored (overwritten p (with_volume v o) u) ≡ with_volume_at p v (stored u)
written p v o u is =
    changed_row (λ os. set os p.index (with_volume v o)) p.direction _ u refl
    ∙ ap (λ (x : Order). holding (stored u) (with_side p.direction (set (listed p.direction (stored u)) p.index (with_volume v x)) (stored u).book))
    (is ∙ ap (λ os. get_or os p.index no_order) (row_is p.direction u))

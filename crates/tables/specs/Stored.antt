-- Where an order belongs in a list, and where the order with a number stands.
use Rattle.std.specs.Prelude.{◌≡◌, ℕ, ◌<◌, Bool, true, false, not, List, length, slice_index_or, slice_set, Some, None, Option}
use Rattle.std.specs.List.{HoldsAt, prefix_len, remove}
use Rattle.rules.specs.Book.{no_order}
use Rattle.rules.specs.declared.order.Direction.{Direction}
use Rattle.rules.specs.declared.order.Order.{Order}
use Rattle.tables.specs.declared.place.Place.{Place}
use Rattle.tables.specs.Listing.{times, with_volume}
use Rattle.tables.specs.Meaning.{Contents, listed, holding, in_order, with_side, held}

-- the index at which o belongs: how many stand before the first that it ranks before
abbrev pub rank_of : (Order → Order → Bool) → Order → List Order → ℕ
rank_of lt o os = prefix_len (λ x. not (lt o x)) os

-- the order with the number n stands at index i
abbrev pub Stands : ℕ → List Order → ℕ → Type 0
Stands n os i = (i < length os) × HoldsAt (λ o. o.number ≡ n) os i

-- an index of the order with the number n, none where no order has it
abbrev pub Located : ℕ → List Order → Option ℕ → Type 0
Located n os None = times n os ≡ 0
Located n os (Some i) = Stands n os i

-- where the order with the number n stands on side d, none where it does not
abbrev pub PlacedOn : Direction → ℕ → Contents → Option Place → Type 0
PlacedOn d n t None = times n (listed d t) ≡ 0
PlacedOn d n t (Some p) = (p.direction ≡ d) × Stands n (listed p.direction t) p.index

-- where the order with the number n stands, none where it is not held
abbrev pub Placed : ℕ → Contents → Option Place → Type 0
Placed n t None = held n (in_order t.book) ≡ false
Placed n t (Some p) = (held n (in_order t.book) ≡ true) × Stands n (listed p.direction t) p.index

-- the contents t without the order at a place
abbrev pub without_at : Place → Contents → Contents
without_at p t = holding t (with_side p.direction (remove (listed p.direction t) p.index) t.book)

-- the contents t with the volume v for the order at a place
abbrev pub with_volume_at : Place → ℕ → Contents → Contents
with_volume_at p v t =
    let os = listed p.direction t in
    holding t (with_side p.direction (slice_set os p.index (with_volume v (slice_index_or os p.index no_order))) t.book)

-- What orders as they stand mean in rank order, before and after a change at a place.
use Rattle.std.proofs.Common.{refl, ◌≡◌, ℕ, ◌+◌, ◌<◌, true, not, [], ◌∷◌, ◌++◌, length, get_or, is_some, Some, None, Option, ◌&&◌, nat_lt, sym, ap, ◌∙◌, subst, arith}
use Rattle.std.proofs.lemmas.Bool.{and_parts, and_right, and_from, not-true, not_from_true, not_from_false, ltb-true, lt-ltb}
use Rattle.std.specs.Option.{is_none}
use Rattle.rules.specs.Book.{no_order}
use Rattle.rules.specs.declared.order.Direction.{Direction}
use Rattle.rules.specs.declared.order.Direction.TheVariants.{Buy, Sell}
use Rattle.rules.specs.declared.order.Order.{Order}
use Rattle.tables.specs.declared.place.Place.{Place}
use Rattle.tables.specs.Listing.{times, Distinct, without, set_volume}
use Rattle.tables.specs.Meaning.{Contents, Sound, Sorted, Once, listed, holding, in_order, ordered, with_side, each_side, held, lookup, takes, put_in}
use Rattle.tables.specs.Stored.{Stands, Placed, PlacedOn, without_at, with_volume_at}
use Rattle.tables.proofs.Keeps.{free, held_none, held_on, side_none, lookup_at, removed_at, volume_set_at, sound_inserted, sound_removed, sound_volume_set, number_at, stands_at}
use Rattle.tables.proofs.InOrder.{in_order_same, length-in_order, times-in_order, side_apart, pushed_in_order, volume_set_in_order, removed_in_order, lookup-in_order}

-- an order that is taken has room, and its number is not held
pub taken : (t : Contents) (o : Order) → takes t o ≡ true → (length (listed o.direction t) < t.capacity.places) × (times o.number t.book.buys + times o.number t.book.sells ≡ 0)
taken t o h =
    let p = and_parts _ _ h in
    (ltb-true _ _ p.0, free t.book o.number (not-true _ p.1))

-- orders that stand in rank order are what they mean
pub ordered_same : (t : Contents) → Sorted t.book → ordered t ≡ t
ordered_same t s = ap (holding t) (in_order_same t.book s)

-- t is what stands, and in rank order it is a table's
module _ (t : Contents) (s : Sound (ordered t)) where
  pub once : Once t.book
  once n = omega (arith, s.once n, times-in_order t.book n)

  pub apart : (d : Direction) → Distinct (listed d t)
  apart = side_apart t.book once

  pub same_lookup : (n : ℕ) → lookup n (ordered t).book ≡ lookup n t.book
  same_lookup = lookup-in_order t.book once

  pub same_held : (n : ℕ) → held n (ordered t).book ≡ held n t.book
  same_held n = ap is_some (same_lookup n)

  pub same_takes : (o : Order) → takes (ordered t) o ≡ takes t o
  same_takes o =
      ap (λ n. nat_lt n t.capacity.places && not (held o.number (ordered t).book)) (length-in_order t.book o.direction)
      ∙ ap (λ h. nat_lt (length (listed o.direction t)) t.capacity.places && not h) (same_held o.number)

  -- whether an order is taken, where its side has a place left
  pub room_left : (o : Order) (r : Option Place) → length (listed o.direction t) < t.capacity.places → Placed o.number t r → is_none r ≡ takes t o
  room_left o None l at = sym (and_from _ _ (lt-ltb _ _ l) (not_from_false _ (sym (same_held o.number) ∙ at)))
  room_left o (Some p) l at = sym (and_right _ _ (not_from_true _ (sym (same_held o.number) ∙ at.0)))

  -- where the order with a number stands
  pub placed : (n : ℕ) (p : Place) → Stands n (listed p.direction t) p.index → Placed n t (Some p)
  placed n p at = (same_held n ∙ held_on t.book n p.direction p.index at, at)

  pub placed_on : (n : ℕ) → times n t.book.buys ≡ 0 → (r : Option Place) → PlacedOn Sell n t r → Placed n t r
  placed_on n none (Some p) at = placed n p at.1
  placed_on n none None e = same_held n ∙ held_none t.book n (omega arith)

  -- on the first side, or else on the second
  pub placed_either : (n : ℕ) (first r : Option Place) → PlacedOn Buy n t first → (first ≡ None → PlacedOn Sell n t r) → ((p : Place) → first ≡ Some p → r ≡ Some p) → Placed n t r
  placed_either n None r a second same = placed_on n a r (second refl)
  placed_either n (Some p) r a second same = rw (same p refl) (placed n p a.1)

  pub found : (n : ℕ) (d : Direction) (i : ℕ) → Stands n (listed d t) i → Some (get_or (listed d t) i no_order) ≡ lookup n (ordered t).book
  found n d i at = lookup_at t.book n (once n) d i at ∙ sym (same_lookup n)

  -- an order that is taken, put behind the others
  module _ (o : Order) (h : takes t o ≡ true) where
    abbrev behind : Contents
    behind = holding t (with_side o.direction (listed o.direction t ++ o ∷ []) t.book)

    pub pushed : ordered behind ≡ put_in o (ordered t)
    pushed = ap (holding t) (pushed_in_order t.book o o.direction (side_none t.book o.number o.direction (taken t o h).1))

    pub sound_pushed : Sound (ordered behind)
    sound_pushed =
        let p = taken (ordered t) o (same_takes o ∙ h) in
        subst Sound (sym pushed) (sound_inserted (ordered t) o s p.0 p.1)

  -- a change at a place
  module _ (p : Place) where
    pub removed : (n : ℕ) → Stands n (listed p.direction t) p.index → ordered (without_at p t) ≡ holding (ordered t) (each_side (without n) (ordered t).book)
    removed n at = ap (holding t) (ap in_order (removed_at t.book n (once n) p.direction p.index at) ∙ removed_in_order t.book once n)

    pub given : (v n : ℕ) → Stands n (listed p.direction t) p.index → ordered (with_volume_at p v t) ≡ holding (ordered t) (each_side (set_volume n v) (ordered t).book)
    given v n at = ap (holding t) (ap in_order (volume_set_at t.book n (once n) p.direction p.index at v no_order) ∙ volume_set_in_order t.book n v)

    module _ (below : p.index < length (listed p.direction t)) where
      abbrev n : ℕ
      n = number_at t.book p.direction p.index

      pub sound_without : Sound (ordered (without_at p t))
      sound_without = subst Sound (sym (removed n (stands_at t.book p.direction p.index below))) (sound_removed (ordered t) s n)

      pub sound_with_volume : (v : ℕ) → Sound (ordered (with_volume_at p v t))
      sound_with_volume v = subst Sound (sym (given v n (stands_at t.book p.direction p.index below))) (sound_volume_set (ordered t) s n v)

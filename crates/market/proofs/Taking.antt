-- The orders of a side at an index: what a removal and a change of volume make of a table.
use Rattle.std.proofs.Common.{◌≡◌, ℕ, ◌-◌, ◌<◌, ◌≤◌, Bool, true, false, List, [], ◌∷◌, Some, refl, sym, ap, ◌∙◌, subst, arith}
use Rattle.std.proofs.lemmas.Bool.{both_ways, and_from, not_from_false, le-leb, lt-leb, ne_eqb, cond-true, cond-false}
use Rattle.std.specs.List as lists
use Rattle.std.specs.List.{slice_get, list_all}
use Rattle.std.proofs.lemmas.List.Sums.{AllPass-from_list_all}
use Rattle.std.proofs.lemmas.Option.{slice_get_within, get_or_from_slice_get}
use Rattle.rules.specs.Side.{same}
use Rattle.rules.specs.declared.order.Direction.{Direction}
use Rattle.rules.specs.declared.order.Direction.TheVariants.{Buy, Sell}
use Rattle.rules.specs.declared.order.Order.{Order}
use Rattle.tables.specs.Listing.{times, with_volume, without, set_volume}
use Rattle.tables.specs.Meaning.{Contents, Sound, listed, with_listed, holding, held, removed, volume_set, sets_volume}
use Rattle.tables.specs.Stored.{Stands}
use Rattle.tables.proofs.Keeps.{held_on, removed_at, volume_set_at}
use Rattle.tables.proofs.InOrder.{side_apart}
use Rattle.tables.proofs.Numbers.{without_at, set_volume_at}
use Rattle.market.specs.Fills.{first_taken, first_taken_on}

pub first_list : (xs : List Order) (o : Order) → slice_get xs 0 ≡ Some o → (os : List Order) × (xs ≡ o ∷ os)
first_list [] o h = let z : ◌≡◌ {A = ℕ} 0 1 = cc in absurd (omega arith)
first_list (x ∷ xs) o h = (xs, cc)

pub same_side : (d e : Direction) → same d e ≡ true → d ≡ e
same_side Buy Buy h = refl
same_side Buy Sell h = absurd (both_ways false refl h)
same_side Sell Buy h = absurd (both_ways false refl h)
same_side Sell Sell h = refl

-- what passes a list's test at an index
pub passes_at : (p : Order → Bool) (xs : List Order) (i : ℕ) (o : Order) → list_all p xs ≡ true → slice_get xs i ≡ Some o → p o ≡ true
passes_at p xs i o a h =
    subst (λ x. p x ≡ true) (get_or_from_slice_get xs i o o h) (AllPass-from_list_all p xs a i o (slice_get_within xs i o h))

-- an order that is listed on a side is of that side
pub listed_side : (c : Contents) → Sound c → (d : Direction) (i : ℕ) (o : Order) → slice_get (listed d c) i ≡ Some o → o.direction ≡ d
listed_side c s d i o h = same_side o.direction d (passes_at (λ x. same x.direction d) (listed d c) i o (s.sided d) h)

-- the order o at the index i of the side d
module _ (c : Contents) (s : Sound c) (d : Direction) (i : ℕ) (o : Order) (h : slice_get (listed d c) i ≡ Some o) where
  pub stands : Stands o.number (listed d c) i
  stands = (slice_get_within (listed d c) i o h, λ e. ap (λ x. x.number) (get_or_from_slice_get (listed d c) i o e h))

  pub few : times o.number (listed d c) ≤ 1
  few = side_apart c.book s.once d o.number

  pub is_held : held o.number c.book ≡ true
  is_held = held_on c.book o.number d i stands

  pub removed_at_rank : removed o.number c ≡ with_listed d (lists.remove (listed d c) i) c
  removed_at_rank =
      cond-true _ _ c is_held ∙ ap (holding c) (sym (removed_at c.book o.number (s.once o.number) d i stands))

  pub removed_listed : removed o.number c ≡ with_listed d (without o.number (listed d c)) c
  removed_listed = removed_at_rank ∙ ap (λ xs. with_listed d xs c) (without_at o.number (listed d c) i stands few)

  pub sets_listed : (v : ℕ) → (v ≡ 0 → ⊥) → sets_volume o.number v c ≡ true
  sets_listed v p = and_from _ _ (not_from_false _ (ne_eqb v 0 p)) is_held

  pub set_listed : (v : ℕ) → (v ≡ 0 → ⊥) → volume_set o.number v c ≡ with_listed d (set_volume o.number v (listed d c)) c
  set_listed v p =
      cond-true _ _ c (sets_listed v p)
      ∙ ap (holding c) (sym (volume_set_at c.book o.number (s.once o.number) d i stands v o))
      ∙ ap (λ xs. with_listed d xs c) (set_volume_at o.number v (listed d c) i o stands few)

-- the first order of the side d
module _ (c : Contents) (s : Sound c) (d : Direction) (o : Order) (h : slice_get (listed d c) 0 ≡ Some o) where
  f : (os : List Order) × (listed d c ≡ o ∷ os)
  f = first_list (listed d c) o h

  firsts : Stands o.number (o ∷ f.0) 0
  firsts = (omega arith, λ e. refl)

  one : times o.number (o ∷ f.0) ≤ 1
  one = subst (λ xs. times o.number xs ≤ 1) f.1 (few c s d 0 o h)

  pub took_all : (v : ℕ) → v ≡ o.volume → removed o.number c ≡ first_taken_on d v c
  took_all v e =
      let a : without o.number (o ∷ f.0) ≡ f.0 = sym (without_at o.number (o ∷ f.0) 0 firsts one) in
      let b : first_taken v (o ∷ f.0) ≡ f.0 = cond-true _ _ _ (le-leb o.volume v (omega arith)) in
      removed_listed c s d 0 o h
      ∙ ap (λ xs. with_listed d xs c) (ap (without o.number) f.1 ∙ a ∙ sym b ∙ ap (first_taken v) (sym f.1))

  pub took_part : (v : ℕ) → v < o.volume → volume_set o.number (o.volume - v) c ≡ first_taken_on d v c
  took_part v e =
      let w = o.volume - v in
      let a : set_volume o.number w (o ∷ f.0) ≡ with_volume w o ∷ f.0 = sym (set_volume_at o.number w (o ∷ f.0) 0 o firsts one) in
      let b : first_taken v (o ∷ f.0) ≡ with_volume w o ∷ f.0 = cond-false _ _ _ (lt-leb _ _ e) in
      set_listed c s d 0 o h w (λ z. omega arith)
      ∙ ap (λ xs. with_listed d xs c) (ap (set_volume o.number w) f.1 ∙ a ∙ sym b ∙ ap (first_taken v) (sym f.1))

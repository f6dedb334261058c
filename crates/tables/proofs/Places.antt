-- Indices: the one at which an order belongs, and the one at which the order with a number stands.
use Rattle.std.proofs.Common.{◌≡◌, ℕ, ◌+◌, Bool, true, false, cond, not, List, [], ◌∷◌, Some, None, Option, Bor, sym, refl, ap, ◌∙◌, one-add}
use Rattle.std.specs.List.{insert as inserted, slice_get}
use Rattle.std.specs.Option.{option_copied}
use Rattle.std.specs.Slice.{IsGetResult}
use Rattle.std.proofs.lemmas.Option.{slice_get-get_or, slice_get_past}
use Rattle.rules.specs.declared.order.Order.{Order}
use Rattle.tables.specs.Listing.{insert}
use Rattle.tables.specs.Stored.{rank_of}

module _ (lt : Order → Order → Bool) (o : Order) where
  pub insert_is : (xs : List Order) → inserted xs (rank_of lt o xs) o ≡ insert lt o xs
  insert_is [] = refl
  insert_is (x ∷ xs) = go (lt o x) (insert_is xs)
    where
      go : (t : Bool) → inserted xs (rank_of lt o xs) o ≡ insert lt o xs
          → inserted (x ∷ xs) (cond (not t) (1 + rank_of lt o xs) 0) o ≡ cond t (o ∷ x ∷ xs) (x ∷ insert lt o xs)
      go true ih = refl
      go false ih = rw one-add (ap (λ ys. x ∷ ys) ih)

-- what `get` finds at an index
pub get_nth : {X : Type 0} (xs : List X) (i : ℕ) (r : Option (Bor X)) → IsGetResult xs i i r → option_copied r ≡ slice_get xs i
get_nth xs i None found = sym (slice_get_past xs i found.3)
get_nth xs i (Some x) found = ap Some (found.3.1 x.now) ∙ sym (slice_get-get_or xs i x.now found.3.0)

-- Picking the best of a list, where `precedes a b` says that a ranks before b.
use Rattle.std.specs.Prelude.{◌≡◌, ℕ, Bool, cond, List, [], length, slice_index_or, Some, None, Option}
use Rattle.std.specs.List.{reduce, IsFirstBest}

-- the better of two, the first where they are level
abbrev pub better_of : {X : Type 0} → (X → X → Bool) → X → X → X
better_of precedes held x = cond (precedes x held) x held

-- one after the other, each against the best so far
abbrev pub picked : {X : Type 0} → (X → X → Bool) → List X → Option X
picked precedes xs = reduce (better_of precedes) xs

-- nothing of an empty list alone, else the first of the members that no member ranks before
abbrev pub Chosen : {X : Type 0} → (X → X → Bool) → List X → Option X → Type 0
Chosen precedes xs None = xs ≡ []
Chosen precedes xs (Some best) = (k : ℕ) × IsFirstBest precedes xs (length xs) k × (slice_index_or xs k best ≡ best)

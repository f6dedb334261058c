-- The orders of one side as a list, and what a table does to it. `lt a b` says that a ranks before b.
use Rattle.std.specs.Prelude.{ℕ, ◌+◌, ◌≤◌, Bool, true, cond, not, ◌&&◌, List, [], ◌∷◌, map, filter, ◌==◌}
use Rattle.std.specs.List.{list_all}
use Rattle.rules.specs.Side.{same}
use Rattle.rules.specs.declared.order.Direction.{Direction}
use Rattle.rules.specs.declared.order.Order.{Order}

abbrev pub numbered : ℕ → Order → Bool
numbered n o = o.number == n

-- how many pass the test
abbrev pub count_where : (Order → Bool) → List Order → ℕ
count_where test [] = 0
count_where test (o ∷ os) = cond (test o) 1 0 + count_where test os

-- how often the number n is held
abbrev pub times : ℕ → List Order → ℕ
times n os = count_where (numbered n) os

-- no number is held twice
abbrev pub Distinct : List Order → Type 0
Distinct os = (n : ℕ) → times n os ≤ 1

-- how many rank before o
abbrev pub ahead : (Order → Order → Bool) → Order → List Order → ℕ
ahead lt o os = count_where (λ x. lt x o) os

-- o at its rank: before the first that it ranks before
abbrev pub insert : (Order → Order → Bool) → Order → List Order → List Order
insert lt o [] = o ∷ []
insert lt o (x ∷ xs) = cond (lt o x) (o ∷ (x ∷ xs)) (x ∷ insert lt o xs)

-- the orders in rank order, whatever order they stand in
abbrev pub arranged : (Order → Order → Bool) → List Order → List Order
arranged lt [] = []
arranged lt (o ∷ os) = insert lt o (arranged lt os)

-- the orders with other numbers
abbrev pub without : ℕ → List Order → List Order
without n os = filter (λ o. not (numbered n o)) os

abbrev pub with_volume : ℕ → Order → Order
with_volume v o = record o { volume = v }

-- the volume v, if this is the order with the number n
abbrev pub volume_at : ℕ → ℕ → Order → Order
volume_at n v o = cond (numbered n o) (with_volume v o) o

-- the volume v for the order with the number n
abbrev pub set_volume : ℕ → ℕ → List Order → List Order
set_volume n v os = map (volume_at n v) os

-- each ranks before all that follow it
abbrev pub in_rank : (Order → Order → Bool) → List Order → Bool
in_rank lt [] = true
in_rank lt (o ∷ os) = list_all (lt o) os && in_rank lt os

-- each is an order of side d
abbrev pub on_side : Direction → List Order → Bool
on_side d os = list_all (λ o. same o.direction d) os

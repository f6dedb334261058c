-- The rank of the orders of one side, and of the prices that a fixing may take.
use Rattle.std.specs.Prelude.{ℕ, Bool, false, cond, ltb, ◌==◌, nat_lt}
use Rattle.rules.specs.Side.{better}
use Rattle.rules.specs.declared.order.Direction.{Direction}
use Rattle.rules.specs.declared.order.Order.{Order}
use Rattle.rules.specs.declared.candidate.Candidate.{Candidate}

-- by one key, and by `next` where the keys are equal
abbrev pub by : {X : Type 0} → (ℕ → ℕ → Bool) → (X → ℕ) → (X → X → Bool) → X → X → Bool
by first key next a b = cond (key a == key b) (next a b) (first (key a) (key b))

-- no key is left: neither ranks before the other
abbrev pub level : {X : Type 0} → X → X → Bool
level a b = false

abbrev pub greater : ℕ → ℕ → Bool
greater m n = nat_lt n m

-- a ranks before b on side d: better price, then smaller arrival, then smaller number
abbrev pub before : Direction → Order → Order → Bool
before d = by (better d) (λ o. o.price) (by ltb (λ o. o.arrival) (by ltb (λ o. o.number) level))

-- the fixing's three steps, and what is tried where they leave two candidates level
abbrev pub by_steps : (Candidate → Candidate → Bool) → Candidate → Candidate → Bool
by_steps last = by greater (λ c. c.volume) (by ltb (λ c. c.surplus) (by ltb (λ c. c.distance) last))

-- greatest volume, smallest surplus, nearest to the reference price; then the lower price
abbrev pub preferable : Candidate → Candidate → Bool
preferable = by_steps (by ltb (λ c. c.price) level)

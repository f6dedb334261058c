-- How the code looks for the fixing price: at the reference price, and at and beside each price that an order has.
use Rattle.std.specs.Prelude.{ℕ, ◌+◌, ◌-◌, min, max, List, Some, None, fold, Option}
use Rattle.rules.specs.Book.{Book}
use Rattle.rules.specs.Curve.{candidate}
use Rattle.rules.specs.Picking.{better_of}
use Rattle.rules.specs.Rank.{preferable}
use Rattle.rules.specs.declared.candidate.Candidate.{Candidate}
use Rattle.rules.specs.declared.order.Order.{Order}
use Rattle.rules.specs.declared.terms.Terms.{Terms}

-- the price of the band that is nearest to p
abbrev pub clamped : ℕ → ℕ → ℕ → ℕ
clamped lo hi p = max lo (min p hi)

abbrev pub tried : ℕ → Book → Candidate → ℕ → Candidate
tried r b held p = better_of preferable held (candidate r b p)

-- the best of what is held, the price q, and the prices below and above it
abbrev pub tried_beside : ℕ → ℕ → ℕ → Book → Candidate → ℕ → Candidate
tried_beside r lo hi b held q =
    tried r b (tried r b (tried r b held (clamped lo hi q)) (clamped lo hi (clamped lo hi q - 1)))
    (clamped lo hi (clamped lo hi q + 1))

-- the same at the price of an order, if there is one
abbrev pub tried_at : ℕ → ℕ → ℕ → Book → Candidate → Option Order → Candidate
tried_at r lo hi b held None = held
tried_at r lo hi b held (Some o) = tried_beside r lo hi b held o.price

-- both under the terms of a day
abbrev pub tried_beside_under : Terms → Book → Candidate → ℕ → Candidate
tried_beside_under t b held q = tried_beside t.reference t.lo t.hi b held q

abbrev pub tried_at_under : Terms → Book → Candidate → Option Order → Candidate
tried_at_under t b held o = tried_at t.reference t.lo t.hi b held o

-- the reference price, and then the price of each order
abbrev pub searched : ℕ → ℕ → ℕ → Book → List Order → Candidate
searched r lo hi b os = fold (λ held o. tried_beside r lo hi b held o.price) (candidate r b r) os

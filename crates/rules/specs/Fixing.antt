-- The fixing price of a band: greatest volume, then smallest surplus, then nearest to the reference price.
use Rattle.std.specs.Prelude.{◌≡◌, ℕ, zero, suc, ◌+◌, ◌-◌, ◌<◌, ◌≤◌, cond, ◌↔◌, Some, None, Option, ◌==◌}
use Rattle.rules.specs.Book.{Book}
use Rattle.rules.specs.Curve.{tradable, surplus, apart, candidate}
use Rattle.rules.specs.Picking.{better_of}
use Rattle.rules.specs.Rank.{preferable}
use Rattle.rules.specs.declared.candidate.Candidate.{Candidate}
use Rattle.rules.specs.declared.terms.Terms.{Terms}

-- the best of the prices lo to lo + n, where r is the reference price
abbrev pub best_price : ℕ → Book → ℕ → ℕ → Candidate
best_price r b lo zero = candidate r b lo
best_price r b lo (suc n) = better_of preferable (best_price r b lo n) (candidate r b (lo + suc n))

-- a price at which something trades
abbrev pub priced : Candidate → Option Candidate
priced c = cond (c.volume == 0) None (Some c)

-- the best of all prices of the band lo to hi, or none where nothing can trade at it
abbrev pub fixing : ℕ → ℕ → ℕ → Book → Option Candidate
fixing r lo hi b = priced (best_price r b lo (hi - lo))

-- the best price of the band, and the fixing, under the terms of a day
abbrev pub best_price_under : Terms → Book → Candidate
best_price_under t b = best_price t.reference b t.lo (t.hi - t.lo)

abbrev pub fixing_under : Terms → Book → Option Candidate
fixing_under t b = fixing t.reference t.lo t.hi b

-- the three steps, as what is said of every other price q of the band
pub record BestBySteps (r lo hi : ℕ) (b : Book) (p : ℕ) : Type 0 where
  pub low : lo ≤ p
  pub high : p ≤ hi
  pub greatest : (q : ℕ) → lo ≤ q → q ≤ hi → tradable b q ≤ tradable b p
  pub smallest : (q : ℕ) → lo ≤ q → q ≤ hi → tradable b q ≡ tradable b p → surplus b p ≤ surplus b q
  pub nearest :
      (q : ℕ) → lo ≤ q → q ≤ hi → tradable b q ≡ tradable b p → surplus b q ≡ surplus b p → apart p r ≤ apart q r

-- the fixing price is the one that the three steps leave, where something trades at it
abbrev pub DecidedBySteps : Type 0
DecidedBySteps =
    (r lo hi : ℕ) (b : Book) → lo ≤ r → r ≤ hi → (p : ℕ) →
    (fixing r lo hi b ≡ Some (candidate r b p)) ↔ (BestBySteps r lo hi b p × (0 < tradable b p))

-- the three steps never leave two prices
abbrev pub OnePrice : Type 0
OnePrice =
    (r lo hi : ℕ) (b : Book) → lo ≤ r → r ≤ hi → (p q : ℕ) → BestBySteps r lo hi b p → BestBySteps r lo hi b q → p ≡ q

-- What any way of sharing out trades at one price could trade, and that the fixing trades the most of it.
use Rattle.std.specs.Prelude.{◌≡◌, ℕ, ◌+◌, ◌≤◌, false, List, [], ◌∷◌, Some, None, Option}
use Rattle.rules.specs.Book.{Book}
use Rattle.rules.specs.Curve.{candidate}
use Rattle.rules.specs.Fixing.{fixing}
use Rattle.rules.specs.Side.{willing}
use Rattle.rules.specs.declared.candidate.Candidate.{Candidate}
use Rattle.rules.specs.declared.order.Direction.{Direction}
use Rattle.rules.specs.declared.order.Direction.TheVariants.{Buy, Sell}
use Rattle.rules.specs.declared.order.Order.{Order}
use Rattle.rules.specs.declared.terms.Terms.{Terms}

abbrev pub total : List ℕ → ℕ
total [] = 0
total (v ∷ vs) = v + total vs

-- a volume for each order of side d: at most its own, and nothing for one that is not willing at p
abbrev pub Allotted : Direction → ℕ → List Order → List ℕ → Type 0
Allotted d p [] [] = Unit {0}
Allotted d p [] (v ∷ vs) = ⊥
Allotted d p (o ∷ os) [] = ⊥
Allotted d p (o ∷ os) (v ∷ vs) = (v ≤ o.volume) × (willing d o.price p ≡ false → v ≡ 0) × Allotted d p os vs

-- an allotment at the price p: buys and sells get equal totals, and that total is what it trades
pub record Allotment (b : Book) (p traded : ℕ) : Type 0 where
  pub to_buys : List ℕ
  pub to_sells : List ℕ
  pub buys : Allotted Buy p b.buys to_buys
  pub sells : Allotted Sell p b.sells to_sells
  pub bought : total to_buys ≡ traded
  pub sold : total to_sells ≡ traded

-- no allotment at any price of the band trades anything
abbrev pub Idle : ℕ → ℕ → Book → Type 0
Idle lo hi b = (p t : ℕ) → lo ≤ p → p ≤ hi → Allotment b p t → t ≡ 0

-- c is a price of the band lo to hi that trades the most that any allotment could
pub record TradesMost (r lo hi : ℕ) (b : Book) (c : Candidate) : Type 0 where
  pub low : lo ≤ c.price
  pub high : c.price ≤ hi
  -- its figures are those of the curve
  pub figures : c ≡ candidate r b c.price
  -- no allotment at a price of the band trades more, and one trades just that
  pub most : (p t : ℕ) → lo ≤ p → p ≤ hi → Allotment b p t → t ≤ c.volume
  pub attained : Allotment b c.price c.volume

-- what a fixing found, if anything, trades the most; there is no price exactly where every allotment trades nothing
pub record Greatest (r lo hi : ℕ) (b : Book) (found : Option Candidate) : Type 0 where
  pub some : (c : Candidate) → found ≡ Some c → TradesMost r lo hi b c
  pub nothing : found ≡ None → Idle lo hi b
  pub none : Idle lo hi b → found ≡ None

-- what a fixing under the terms of a day found, if anything, trades the most
abbrev pub GreatestUnder : Terms → Book → Option Candidate → Type 0
GreatestUnder t b found = Greatest t.reference t.lo t.hi b found

-- so for every book and every band around a reference price
abbrev pub FixingTradesTheMost : Type 0
FixingTradesTheMost =
    (r lo hi : ℕ) (b : Book) → lo ≤ r → r ≤ hi → Greatest r lo hi b (fixing r lo hi b)

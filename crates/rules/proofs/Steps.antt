-- The fixing price against its three steps, and against what any allotment trades.
use Rattle.std.proofs.Common.{◌≡◌, ℕ, ◌-◌, ◌<◌, ◌≤◌, min, true, false, List, [], ◌∷◌, Some, None, Option, sym, ap, ◌∙◌, subst, inl, inr, arith}
use Rattle.std.proofs.lemmas.Bool.{cases_order}
use Rattle.std.proofs.lemmas.Bool.Decides.{nat_tests}
use Rattle.rules.specs.Allotment.{Allotment, TradesMost, Greatest, GreatestUnder, FixingTradesTheMost}
use Rattle.rules.specs.Book.{Book}
use Rattle.rules.specs.Curve.{depth, demand, supply, tradable, surplus, apart, candidate}
use Rattle.rules.specs.Fixing.{best_price, priced, fixing, fixing_under, BestBySteps, DecidedBySteps, OnePrice}
use Rattle.rules.specs.Rank.{preferable}
use Rattle.rules.specs.Side.{willing}
use Rattle.rules.specs.declared.candidate.Candidate.{Candidate}
use Rattle.rules.specs.declared.order.Direction.{Direction}
use Rattle.rules.specs.declared.order.Direction.TheVariants.{Buy, Sell}
use Rattle.rules.specs.declared.order.Order.{Order}
use Rattle.rules.specs.declared.terms.Terms.{Terms}
use Rattle.rules.proofs.Allots.{allotment_bound, allotment_most}
use Rattle.rules.proofs.Finds.{Best, band_best}

-- One price ------------------------------------------------------------------------------------------------------------

-- what is willing at p is willing at q, so q has no less depth
deeper : (d : Direction) (p q : ℕ) → ((x : ℕ) → willing d x p ≡ true → willing d x q ≡ true) → (os : List Order) → depth d p os ≤ depth d q os
deeper d p q keener [] = omega arith
deeper d p q keener (o ∷ os) = let rest = deeper d p q keener os in let more = keener o.price in grind (arith, nat_tests)

demand_falls : (os : List Order) (p q : ℕ) → p ≤ q → depth Buy q os ≤ depth Buy p os
demand_falls os p q h = deeper Buy q p (λ x w. grind (arith, nat_tests)) os

supply_rises : (os : List Order) (p q : ℕ) → p ≤ q → depth Sell p os ≤ depth Sell q os
supply_rises os p q h = deeper Sell p q (λ x w. grind (arith, nat_tests)) os

-- D and S at three rising prices: where the outer two are level and the middle one trades no more, it trades as much,
-- and its surplus is no larger
middle : (d₁ d₂ d₃ s₁ s₂ s₃ : ℕ) → d₂ ≤ d₁ → d₃ ≤ d₂ → s₁ ≤ s₂ → s₂ ≤ s₃ → min d₁ s₁ ≡ min d₃ s₃ → min d₂ s₂ ≤ min d₁ s₁ → apart d₁ s₁ ≡ apart d₃ s₃
    → (min d₂ s₂ ≡ min d₁ s₁) × (apart d₂ s₂ ≤ apart d₁ s₁)
middle d₁ d₂ d₃ s₁ s₂ s₃ a b c e m g s = omega arith

module _ (r lo hi : ℕ) (b : Book) (l : lo ≤ r) (k : r ≤ hi) where
  not_two : (p q : ℕ) → BestBySteps r lo hi b p → BestBySteps r lo hi b q → p < q → ⊥
  not_two p q f g lt =
      let v : tradable b p ≡ tradable b q = omega (arith, f.greatest q g.low g.high, g.greatest p f.low f.high) in
      let s : surplus b p ≡ surplus b q = omega (arith, f.smallest q g.low g.high (sym v), g.smallest p f.low f.high v) in
      let n : apart p r ≡ apart q r = omega (arith, f.nearest q g.low g.high (sym v) (sym s), g.nearest p f.low f.high v s) in
      let x : p ≤ r = omega arith in
      let y : r ≤ q = omega arith in
      let m = middle (demand b p) (demand b r) (demand b q) (supply b p) (supply b r) (supply b q)
      (demand_falls b.buys p r x) (demand_falls b.buys r q y) (supply_rises b.sells p r x) (supply_rises b.sells r q y)
      v (f.greatest r l k) s in
      let t : surplus b r ≡ surplus b p = omega (arith, m.1, f.smallest r l k m.0) in
      omega (arith, f.nearest r l k m.0 t, lt)

pub one_price : OnePrice
one_price r lo hi b l k p q f g = elim (cases_order p q) [
  | inl e ↦ e
  | inr (inl h) ↦ absurd (not_two r lo hi b l k p q f g h)
  | inr (inr h) ↦ absurd (not_two r lo hi b l k q p g f h)
]

-- The three steps decide -----------------------------------------------------------------------------------------------

volume_le : (a c : Candidate) → preferable a c ≡ false → a.volume ≤ c.volume
volume_le a c h = grind (arith, nat_tests)

surplus_le : (a c : Candidate) → preferable a c ≡ false → a.volume ≡ c.volume → c.surplus ≤ a.surplus
surplus_le a c h v = grind (arith, nat_tests)

distance_le : (a c : Candidate) → preferable a c ≡ false → a.volume ≡ c.volume → a.surplus ≡ c.surplus → c.distance ≤ a.distance
distance_le a c h v s = grind (arith, nat_tests)

-- where something trades at c, and where nothing does
priced_some : (c : Candidate) → 0 < c.volume → priced c ≡ Some c
priced_some c h = grind (arith, nat_tests)

priced_is : (c d : Candidate) → priced c ≡ Some d → (c ≡ d) × (0 < c.volume)
priced_is c d e = grind (arith, nat_tests)

priced_none : (c : Candidate) → priced c ≡ None → c.volume ≡ 0
priced_none c e = grind (arith, nat_tests)

priced_zero : (c : Candidate) → c.volume ≡ 0 → priced c ≡ None
priced_zero c e = grind (arith, nat_tests)

module _ (r lo hi : ℕ) (b : Book) (l : lo ≤ r) (k : r ≤ hi) where
  the_best : Candidate
  the_best = best_price r b lo (hi - lo)

  best : Best r lo hi b the_best
  unfolding the_best
  best = band_best r lo hi b (omega arith)

  -- the best price with its figures written out
  is : the_best ≡ candidate r b the_best.price
  is = best.is

  beats : (q : ℕ) → lo ≤ q → q ≤ hi → preferable (candidate r b q) (candidate r b the_best.price) ≡ false
  beats q x y = subst (λ c. preferable (candidate r b q) c ≡ false) is (best.beats q tt x y)

  best_by_steps : BestBySteps r lo hi b the_best.price
  best_by_steps =
      let p = the_best.price in
      record {
        low = best.low;
        high = best.high;
        greatest = λ q x y. volume_le (candidate r b q) (candidate r b p) (beats q x y);
        smallest = λ q x y v. surplus_le (candidate r b q) (candidate r b p) (beats q x y) v;
        nearest = λ q x y v s. distance_le (candidate r b q) (candidate r b p) (beats q x y) v s;
      }

  volume_is : the_best.volume ≡ tradable b the_best.price
  volume_is = ap (λ (c : Candidate). c.volume) is

  decided : (p : ℕ) → fixing r lo hi b ≡ Some (candidate r b p) → BestBySteps r lo hi b p × (0 < tradable b p)
  unfolding the_best
  decided p e =
      let h = priced_is the_best (candidate r b p) e in
      let same : the_best.price ≡ p = ap (λ (c : Candidate). c.price) h.0 in
      (subst (BestBySteps r lo hi b) same best_by_steps, subst (λ n. 0 < tradable b n) same (omega (arith, h.1, volume_is)))

  deciding : (p : ℕ) → BestBySteps r lo hi b p × (0 < tradable b p) → fixing r lo hi b ≡ Some (candidate r b p)
  unfolding the_best
  deciding p (s, t) =
      let same : the_best.price ≡ p = one_price r lo hi b l k the_best.price p best_by_steps s in
      let whole : the_best ≡ candidate r b p = is ∙ ap (candidate r b) same in
      ap priced whole ∙ priced_some (candidate r b p) t

  trades_most : TradesMost r lo hi b the_best
  trades_most = record {
    low = best.low;
    high = best.high;
    figures = is;
    most = λ p t x y a. omega (arith, allotment_bound b p t a, best_by_steps.greatest p x y, volume_is);
    attained = subst (Allotment b the_best.price) (sym volume_is) (allotment_most b the_best.price);
  }

  greatest : Greatest r lo hi b (fixing r lo hi b)
  unfolding the_best
  greatest = record {
    some = λ c e. subst (TradesMost r lo hi b) (priced_is the_best c e).0 trades_most;
    nothing = λ e p t x y a. omega (arith, trades_most.most p t x y a, priced_none the_best e);
    none = λ idle. priced_zero the_best (idle the_best.price the_best.volume best.low best.high trades_most.attained);
  }

pub decided_by_steps : DecidedBySteps
decided_by_steps r lo hi b l k p = (decided r lo hi b l k p, deciding r lo hi b l k p)

pub fixing_trades_the_most : FixingTradesTheMost
fixing_trades_the_most r lo hi b l k = greatest r lo hi b l k

pub greatest_under : (t : Terms) (b : Book) (found : Option Candidate) → found ≡ fixing_under t b → GreatestUnder t b found
greatest_under t b found e = subst (GreatestUnder t b) (sym e) (greatest t.reference t.lo t.hi b t.low t.high)

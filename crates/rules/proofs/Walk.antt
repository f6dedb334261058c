-- From any price toward the reference, the curve stays level up to the reference or to a price beside an order's.
use Rattle.std.proofs.Common.{◌≡◌, ℕ, zero, suc, ◌+◌, ◌-◌, ◌<◌, ◌≤◌, ◌⊎◌, List, [], ◌∷◌, sym, refl, ap, ◌∙◌, subst, ap₂, inl, inr, All, Contains, arith}
use Rattle.std.specs.List.{Any}
use Rattle.std.proofs.lemmas.List.Elements.{All-head, All-tail}
use Rattle.std.proofs.lemmas.Bool.{cases_eq, cases_lt}
use Rattle.std.proofs.lemmas.Bool.Decides.{nat_tests}
use Rattle.rules.specs.Book.{Book, side}
use Rattle.rules.specs.Curve.{offered, depth, apart, Covers}
use Rattle.rules.specs.declared.order.Direction.{Direction}
use Rattle.rules.specs.declared.order.Direction.TheVariants.{Buy, Sell}
use Rattle.rules.specs.declared.order.Order.{Order}

-- p is q or its neighbour
abbrev pub Touches : ℕ → ℕ → Type 0
Touches q p = (p ≡ q) ⊎ ((p ≡ q + 1) ⊎ (p + 1 ≡ q))

-- p is an order's price or its neighbour
abbrev pub Beside : List Order → ℕ → Type 0
Beside os p = Any (λ o. Touches o.price p) os

beside : (os : List Order) (o : Order) (p : ℕ) → Contains os o → Touches o.price p → Beside os p
beside os o p m t = (m.0, o, m.1, m.2, t)

offered_flat : (d : Direction) (o : Order) (p : ℕ) → (o.price ≡ p → ⊥) → (o.price ≡ p + 1 → ⊥) → offered d p o ≡ offered d (p + 1) o
offered_flat Buy o p h k = grind (arith, nat_tests)
offered_flat Sell o p h k = grind (arith, nat_tests)

-- a price on the way from p to r at which the curve is as at p, and which the search tries
pub record Reached (r : ℕ) (os : List Order) (b : Book) (p : ℕ) : Type 0 where
  pub at : ℕ
  pub tried : (at ≡ r) ⊎ Beside os at
  pub on_the_way : apart p at + apart at r ≡ apart p r
  pub level : (d : Direction) → depth d at (side d b) ≡ depth d p (side d b)

module _ (r : ℕ) (os : List Order) (b : Book) (covers : Covers os b) where
  -- the search tries p and p + 1
  abbrev Both : ℕ → Type 0
  Both p = Beside os p × Beside os (p + 1)

  abbrev Flat : ℕ → Type 0
  Flat p = (d : Direction) → depth d p (side d b) ≡ depth d (p + 1) (side d b)

  flat_side : (d : Direction) (xs : List Order) (p : ℕ) → All (Contains os) xs → Both p ⊎ (depth d p xs ≡ depth d (p + 1) xs)
  flat_side d [] p m = inr refl
  flat_side d (o ∷ xs) p m = go (cases_eq o.price p) (cases_eq o.price (p + 1)) (flat_side d xs p (All-tail (Contains os) o xs m))
    where
      here : Contains os o
      here = All-head (Contains os) o xs m

      go : (o.price ≡ p) ⊎ (o.price ≡ p → ⊥) → (o.price ≡ p + 1) ⊎ (o.price ≡ p + 1 → ⊥) → Both p ⊎ (depth d p xs ≡ depth d (p + 1) xs)
          → Both p ⊎ (depth d p (o ∷ xs) ≡ depth d (p + 1) (o ∷ xs))
      go (inl e) k f = inl (beside os o p here (inl (omega arith)), beside os o (p + 1) here (inr (inl (omega arith))))
      go (inr h) (inl e) f = inl (beside os o p here (inr (inr (omega arith))), beside os o (p + 1) here (inl (omega arith)))
      go (inr h) (inr k) (inl f) = inl f
      go (inr h) (inr k) (inr f) = inr (ap₂ ◌+◌ (offered_flat d o p h k) f)

  flat : (p : ℕ) → Both p ⊎ Flat p
  flat p = go (flat_side Buy b.buys p (covers Buy)) (flat_side Sell b.sells p (covers Sell))
    where
      level : depth Buy p b.buys ≡ depth Buy (p + 1) b.buys → depth Sell p b.sells ≡ depth Sell (p + 1) b.sells → Flat p
      level e f Buy = e
      level e f Sell = f

      go : Both p ⊎ (depth Buy p b.buys ≡ depth Buy (p + 1) b.buys) → Both p ⊎ (depth Sell p b.sells ≡ depth Sell (p + 1) b.sells) → Both p ⊎ Flat p
      go (inl h) k = inl h
      go (inr e) (inl k) = inl k
      go (inr e) (inr f) = inr (level e f)

  -- the next price on the way from p to r: p itself is tried, or the curve is the same there
  record Next (p : ℕ) : Type 0 where
    to : ℕ
    nearer : apart p to + apart to r ≡ apart p r
    step : apart to r + 1 ≡ apart p r
    stop : Beside os p ⊎ ((d : Direction) → depth d to (side d b) ≡ depth d p (side d b))

  next : (p : ℕ) → 0 < apart p r → Next p
  next p far = go (cases_lt p r)
    where
      go : (p < r) ⊎ (r ≤ p) → Next p
      go (inl h) = record {
        to = p + 1;
        nearer = omega arith;
        step = omega arith;
        stop = elim (flat p) [ inl both ↦ inl both.0 | inr f ↦ inr (λ d. sym (f d)) ];
      }
      go (inr h) =
          let e : p - 1 + 1 ≡ p = omega arith in
          record {
            to = p - 1;
            nearer = omega arith;
            step = omega arith;
            stop = elim (flat (p - 1)) [
              | inl both ↦ inl (subst (Beside os) e both.1)
              | inr f ↦ inr (λ d. f d ∙ ap (λ n. depth d n (side d b)) e)
            ];
          }

  -- what is reached from the next price is reached from p
  onward : (p : ℕ) (n : Next p) → Reached r os b n.to → Reached r os b p
  onward p n g = elim n.stop [
    | inl h ↦ record { at = p; tried = inr h; on_the_way = omega arith; level = λ d. refl }
    | inr f ↦ record {
      at = g.at;
      tried = g.tried;
      on_the_way = omega (arith, g.on_the_way, n.nearer);
      level = λ d. g.level d ∙ f d;
    }
  ]

  walk : (k p : ℕ) → apart p r ≡ k → Reached r os b p
  walk zero p e = record { at = p; tried = inl (omega arith); on_the_way = omega arith; level = λ d. refl }
  walk (suc k) p e = let n = next p (omega arith) in onward p n (walk k n.to (omega (arith, n.step)))

  pub reach : (p : ℕ) → Reached r os b p
  reach p = walk (apart p r) p refl

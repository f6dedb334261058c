-- The reference price and the prices at and beside the orders' hold the best price of the band.
use Rattle.std.proofs.Common.{◌≡◌, ℕ, zero, suc, ◌+◌, ◌-◌, ◌<◌, ◌≤◌, min, Bool, true, false, cond, ◌⊎◌, List, [], ◌∷◌, length, get_or, take, fold, sym, refl, ap, ◌∙◌, subst, ap₂, inl, inr, arith, take_all}
use Rattle.std.specs.List.{slice_get, Any}
use Rattle.std.proofs.lemmas.Option.{slice_get-get_or}
use Rattle.std.proofs.lemmas.List.Sums.{fold_more}
use Rattle.std.proofs.lemmas.Bool.{cases_lt, cases_eq}
use Rattle.std.proofs.lemmas.Bool.Decides.{nat_tests}
use Rattle.rules.specs.Book.{Book, no_order}
use Rattle.rules.specs.Curve.{apart, candidate, Covers}
use Rattle.rules.specs.Fixing.{best_price}
use Rattle.rules.specs.Rank.{preferable}
use Rattle.rules.specs.Search.{clamped, tried, tried_beside, tried_at, searched}
use Rattle.rules.specs.declared.candidate.Candidate.{Candidate}
use Rattle.rules.specs.declared.order.Direction.TheVariants.{Buy, Sell}
use Rattle.rules.specs.declared.order.Order.{Order}
use Rattle.rules.proofs.Choosing.{strict}
use Rattle.rules.specs.Keys.{candidates}
use Rattle.rules.proofs.Walk.{Touches, Beside, Reached, reach}

no_better : (a b : Candidate) → a.volume ≡ b.volume → a.surplus ≡ b.surplus → (b.distance < a.distance) ⊎ ((a.distance ≡ b.distance) × (b.price ≤ a.price)) → preferable a b ≡ false
no_better a b v s d = grind (arith, nat_tests)

-- a price on the way from p to r is nearer to r, or p itself
nearer : (r p q : ℕ) → apart p q + apart q r ≡ apart p r → (apart q r < apart p r) ⊎ ((apart p r ≡ apart q r) × (q ≤ p))
nearer r p q h = elim (cases_eq p q) [ inl e ↦ inr (omega arith) | inr n ↦ inl (omega arith) ]

-- of a list, either the first passes or one of the rest
any_cases : (P : Order → Type 0) (o : Order) (os : List Order) → Any P (o ∷ os) → P o ⊎ Any P os
any_cases P o os (zero, x, k, e, h) = inl (subst P (sym e) h)
any_cases P o os (suc k, x, l, e, h) = inr (k, x, omega arith, e, h)

module _ (r lo hi : ℕ) (b : Book) where
  -- h is the best of the prices of the band that T names
  pub record Held (T : ℕ → Type 0) (h : Candidate) : Type 0 where
    pub is : h ≡ candidate r b h.price
    pub low : lo ≤ h.price
    pub high : h.price ≤ hi
    pub beats : (p : ℕ) → T p → lo ≤ p → p ≤ hi → preferable (candidate r b p) h ≡ false

module _ (r lo hi : ℕ) (b : Book) where
  held_at : (q : ℕ) → lo ≤ q → q ≤ hi → Held r lo hi b (λ p. p ≡ q) (candidate r b q)
  held_at q l h = record {
    is = refl;
    low = l;
    high = h;
    beats = λ p e _ _.
        subst (λ x. preferable (candidate r b x) (candidate r b q) ≡ false) (sym e)
        (strict preferable candidates.ranks (candidate r b q));
  }

  held_like : (T U : ℕ → Type 0) (h : Candidate) → ((p : ℕ) → lo ≤ p → p ≤ hi → U p → T p) → Held r lo hi b T h → Held r lo hi b U h
  held_like T U h f s = record { is = s.is; low = s.low; high = s.high; beats = λ p u l k. s.beats p (f p l k u) l k }

  -- one price more
  held_tried : (T : ℕ → Type 0) (h : Candidate) (q : ℕ) → lo ≤ q → q ≤ hi → Held r lo hi b T h → Held r lo hi b (λ p. T p ⊎ (p ≡ q)) (tried r b h q)
  held_tried T h q l k s = go (preferable (candidate r b q) h) refl
    where
      go : (t : Bool) → preferable (candidate r b q) h ≡ t → Held r lo hi b (λ p. T p ⊎ (p ≡ q)) (cond t (candidate r b q) h)
      go true e = record {
        is = refl;
        low = l;
        high = k;
        beats = λ p t x y. elim t [
          | inl u ↦ candidates.ranks.chain (candidate r b p) h (candidate r b q) (s.beats p u x y) (candidates.ranks.one_way (candidate r b q) h e)
          | inr u ↦ (held_at q l k).beats p u x y
        ];
      }
      go false e = record {
        is = s.is;
        low = s.low;
        high = s.high;
        beats = λ p t x y. elim t [
          | inl u ↦ s.beats p u x y
          | inr u ↦ subst (λ z. preferable (candidate r b z) h ≡ false) (sym u) e
        ];
      }

  -- The search over the whole band ------------------------------------------------------------------------------------

  held_band : (n : ℕ) → lo + n ≤ hi → Held r lo hi b (λ p. p ≤ lo + n) (best_price r b lo n)
  held_band zero k = held_like (λ p. p ≡ lo) _ _ (λ p l _ u. omega arith) (held_at lo (omega arith) (omega arith))
  held_band (suc n) k =
      held_like (λ p. (p ≤ lo + n) ⊎ (p ≡ lo + suc n)) _ _
      (λ p l _ u. elim (cases_eq p (lo + suc n)) [ inl e ↦ inr e | inr e ↦ inl (omega arith) ])
      (held_tried (λ p. p ≤ lo + n) (best_price r b lo n) (lo + suc n) (omega arith) (omega arith) (held_band n (omega arith)))

  -- h is the best of all prices of the band
  abbrev pub Best : Candidate → Type 0
  Best h = Held r lo hi b (λ p. Unit {0}) h

  pub band_best : lo ≤ hi → Best (best_price r b lo (hi - lo))
  band_best l = held_like (λ p. p ≤ lo + (hi - lo)) _ _ (λ p _ k _. omega arith) (held_band (hi - lo) (omega arith))

  -- there is only one
  pub one_best : (g h : Candidate) → Best g → Best h → g ≡ h
  one_best g h x y =
      let gh : preferable g h ≡ false = subst (λ c. preferable c h ≡ false) (sym x.is) (y.beats g.price tt x.low x.high) in
      let hg : preferable h g ≡ false = subst (λ c. preferable c g ≡ false) (sym y.is) (x.beats h.price tt y.low y.high) in
      x.is ∙ ap (candidate r b) (candidates.same g h gh hg).1.1.1.0 ∙ sym y.is

  -- The search at and beside the orders' prices -----------------------------------------------------------------------

  -- a price of the band beside q is one of the three that are tried
  three : (q p : ℕ) → lo ≤ p → p ≤ hi → Touches q p
      → ((p ≡ clamped lo hi q) ⊎ (p ≡ clamped lo hi (clamped lo hi q - 1))) ⊎ (p ≡ clamped lo hi (clamped lo hi q + 1))
  three q p l k (inl e) = inl (inl (omega arith))
  three q p l k (inr (inl e)) = elim (cases_lt q lo) [ inl h ↦ inl (inl (omega arith)) | inr h ↦ inr (omega arith) ]
  three q p l k (inr (inr e)) = elim (cases_lt hi q) [ inl h ↦ inl (inl (omega arith)) | inr h ↦ inl (inr (omega arith)) ]

  held_beside : lo ≤ hi → (T : ℕ → Type 0) (h : Candidate) (q : ℕ) → Held r lo hi b T h → Held r lo hi b (λ p. T p ⊎ Touches q p) (tried_beside r lo hi b h q)
  held_beside w T h q s =
      let at = clamped lo hi q in
      let one = held_tried T h at (omega arith) (omega arith) s in
      let two = held_tried _ _ (clamped lo hi (at - 1)) (omega arith) (omega arith) one in
      let last = held_tried _ _ (clamped lo hi (at + 1)) (omega arith) (omega arith) two in
      held_like (λ p. ((T p ⊎ (p ≡ at)) ⊎ (p ≡ clamped lo hi (at - 1))) ⊎ (p ≡ clamped lo hi (at + 1))) _ _
      (λ p x y t. elim t [
        | inl u ↦ inl (inl (inl u))
        | inr u ↦ elim (three q p x y u) [ inl z ↦ inl (elim z [ inl e ↦ inl (inr e) | inr e ↦ inr e ]) | inr e ↦ inr e ]
      ])
      last

  held_all : lo ≤ hi → (T : ℕ → Type 0) (h : Candidate) (os : List Order) → Held r lo hi b T h
      → Held r lo hi b (λ p. T p ⊎ Beside os p) (fold (λ c o. tried_beside r lo hi b c o.price) h os)
  held_all w T h [] s = held_like T _ h (λ p _ _ t. elim t [ inl x ↦ x | inr e ↦ absurd (omega (arith, e.2)) ]) s
  held_all w T h (o ∷ os) s =
      held_like (λ p. (T p ⊎ Touches o.price p) ⊎ Beside os p) _ _
      (λ p _ _ t. elim t [ inl x ↦ inl (inl x) | inr y ↦ elim (any_cases _ o os y) [ inl u ↦ inl (inr u) | inr v ↦ inr v ] ])
      (held_all w (λ p. T p ⊎ Touches o.price p) (tried_beside r lo hi b h o.price) os (held_beside w T h o.price s))

  -- where the curve is as at p, and the reference is no farther, nothing is lost
  toward : (os : List Order) (p : ℕ) (g : Reached r os b p) → preferable (candidate r b p) (candidate r b g.at) ≡ false
  toward os p g =
      no_better (candidate r b p) (candidate r b g.at)
      (ap₂ min (sym (g.level Buy)) (sym (g.level Sell)))
      (ap₂ apart (sym (g.level Buy)) (sym (g.level Sell)))
      (nearer r p g.at g.on_the_way)

  -- of orders that cover the book, the search finds what the search over the whole band finds
  found : lo ≤ r → r ≤ hi → (os : List Order) → Covers os b
      → searched r lo hi b os ≡ best_price r b lo (hi - lo)
  found l k os covers =
      let h = searched r lo hi b os in
      let s = held_all (omega arith) (λ p. p ≡ r) (candidate r b r) os (held_at r l k) in
      let all : Best h =
      record {
        is = s.is;
        low = s.low;
        high = s.high;
        beats = λ p _ x y.
            let g = reach r os b covers p in
            candidates.ranks.chain (candidate r b p) (candidate r b g.at) h (toward os p g)
            (s.beats g.at g.tried (omega (arith, g.on_the_way)) (omega (arith, g.on_the_way)));
      } in
      one_best h (best_price r b lo (hi - lo)) all (band_best (omega arith))

  -- the step of a loop over the orders
  pub searched_more : (os : List Order) (i : ℕ) → i < length os
      → searched r lo hi b (take (i + 1) os) ≡ tried_at r lo hi b (searched r lo hi b (take i os)) (slice_get os i)
  searched_more os i l =
      let o = get_or os i no_order in
      fold_more (λ c x. tried_beside r lo hi b c x.price) (candidate r b r) os i no_order l
      ∙ sym (ap (tried_at r lo hi b (searched r lo hi b (take i os))) (slice_get-get_or os i no_order l))

  -- the end of it
  pub searched_all : (os : List Order) (i : ℕ) → length os ≤ i → lo ≤ r → r ≤ hi → Covers os b
      → searched r lo hi b (take i os) ≡ best_price r b lo (hi - lo)
  searched_all os i end l k covers = ap (searched r lo hi b) (take_all i os end) ∙ found l k os covers

-- The fixing: what trades at the price found is the greatest that can trade, and what is left does not trade.
use Rattle.std.proofs.Common.{◌≡◌, ℕ, zero, suc, ◌+◌, ◌-◌, ◌<◌, ◌≤◌, min, true, false, cond, ◌&&◌, leb, List, [], ◌∷◌, length, Some, None, Option, sym, refl, ap, ◌∙◌, inl, inr, ⊎_elim, arith}
use Rattle.std.proofs.lemmas.Bool.{cond_both, cond-true, cond-false, leb-true, leb-false, le-leb, and_parts, and_cases, cases_lt}
use Rattle.std.proofs.lemmas.Bool.Decides.{nat_tests}
use Rattle.rules.specs.declared.order.Direction.{Direction}
use Rattle.rules.specs.declared.order.Direction.TheVariants.{Buy, Sell}
use Rattle.rules.specs.declared.order.Order.{Order}
use Rattle.book.specs.declared.slip.Slip.TheVariants.{Trade}
use Rattle.rules.specs.declared.terms.Terms.{Terms}
use Rattle.book.proofs.Ranks.{InRank}
use Rattle.book.specs.Exactly.{Before}
use Rattle.book.specs.Ledger.{traded}
use Rattle.book.specs.Calls.{limit_orders, trade_then, fixing_price, with_first_less, Pairing, pair, match_at}
use Rattle.book.proofs.Members.{Member}
use Rattle.rules.specs.Side.{willing}
use Rattle.tables.specs.Listing.{with_volume}
use Rattle.std.specs.Option.{option_map}
use Rattle.rules.specs.Allotment.{Greatest}
use Rattle.rules.specs.Book.{Book}
use Rattle.rules.specs.Curve.{depth, tradable}
use Rattle.rules.specs.Fixing.{BestBySteps, fixing_under}
use Rattle.rules.specs.declared.candidate.Candidate.{Candidate}
use Rattle.rules.proofs.Allots.{allotment_most}
use Rattle.rules.proofs.Steps.{decided_by_steps, fixing_trades_the_most}
use Rattle.tables.specs.Meaning.{book_of}
use Rattle.book.proofs.Ranks.{InRank, ahead_of, rest_in, in_rank_from, no_worse}
use Rattle.book.proofs.Trades.{unwilling_after}

-- One side ------------------------------------------------------------------------------------------------------------------------

abbrev pub Positive : List Order → Type 0
Positive xs = (x : Order) → Member x xs → 0 < x.volume

-- rest is what is left of xs after T has traded, the first first
pub record Side (d : Direction) (xs rest : List Order) (T : ℕ) : Type 0 where
  pub kept : (x : Order) → Member x rest → (z : Order) × Member z xs × (z.price ≡ x.price)
  pub positive : Positive rest
  -- all that has traded came from orders as good as those that are left
  pub sum : (x : Order) (q : ℕ) → Member x rest → willing d x.price q ≡ true → depth d q xs ≡ T + depth d q rest

pub side_none : (d : Direction) (xs : List Order) → Positive xs → Side d xs xs 0
side_none d xs h = record { kept = λ x m. (x, m, refl); positive = h; sum = λ x q m w. omega arith }

willing_before : (d : Direction) (o y : Order) (q : ℕ) → Before d o y → willing d y.price q ≡ true → willing d o.price q ≡ true
willing_before Buy o y q b h = let k = no_worse Buy o y b in grind (arith, nat_tests)
willing_before Sell o y q b h = let k = no_worse Sell o y b in grind (arith, nat_tests)

module _ (d : Direction) (o : Order) (os : List Order) (v : ℕ) where
  less_in : (z : Order) → Member z (with_first_less v o os) → (y : Order) × Member y (o ∷ os) × (y.price ≡ z.price)
  less_in z m =
      cond_both (leb o.volume v) os (with_volume (o.volume - v) o ∷ os)
      (λ l. Member z l → (y : Order) × Member y (o ∷ os) × (y.price ≡ z.price))
      (λ _ k. (z, inr k, refl))
      (λ _ k. ⊎_elim (λ e. (o, inl refl, sym (ap (λ (x : Order). x.price) e))) (λ j. (z, inr j, refl)) k) m

  pub less_sorted : InRank d (o ∷ os) → InRank d (with_first_less v o os)
  less_sorted s =
      cond_both (leb o.volume v) os (with_volume (o.volume - v) o ∷ os) (InRank d) (λ _. rest_in d o os s)
      (λ _. in_rank_from d (with_volume (o.volume - v) o) os (ahead_of d o os s) (rest_in d o os s))

  pub less_positive : Positive (o ∷ os) → Positive (with_first_less v o os)
  less_positive h =
      cond_both (leb o.volume v) os (with_volume (o.volume - v) o ∷ os) Positive (λ _ x m. h x (inr m))
      (λ e x m.
      ⊎_elim
      (λ q. let k : x.volume ≡ o.volume - v = ap (λ (z : Order). z.volume) q in omega (arith, leb-false o.volume v e))
      (λ j. h x (inr j)) m)

  pub less_length : length (with_first_less v o os) ≤ suc (length os)
  less_length =
      cond_both (leb o.volume v) os (with_volume (o.volume - v) o ∷ os) (λ l. length l ≤ suc (length os))
      (λ _. omega arith) (λ _. omega arith)

  pub less_shorter : o.volume ≤ v → length (with_first_less v o os) ≡ length os
  less_shorter h = ap length (cond-true (leb o.volume v) os (with_volume (o.volume - v) o ∷ os) (le-leb o.volume v h))

  pub volume_less :
      (q : ℕ) → willing d o.price q ≡ true → v ≤ o.volume → depth d q (o ∷ os) ≡ v + depth d q (with_first_less v o os)
  volume_less q w h =
      let a : cond (willing d o.price q) o.volume 0 ≡ o.volume = cond-true (willing d o.price q) o.volume 0 w in
      let c : cond (willing d o.price q) (o.volume - v) 0 ≡ o.volume - v =
      cond-true (willing d o.price q) (o.volume - v) 0 w
      in
      cond_both (leb o.volume v) os (with_volume (o.volume - v) o ∷ os)
      (λ l. depth d q (o ∷ os) ≡ v + depth d q l)
      (λ e. omega (arith, leb-true o.volume v e)) (λ e. omega (arith, leb-false o.volume v e))

  pub side_more : (rest : List Order) (T : ℕ) → InRank d (o ∷ os) → v ≤ o.volume → Side d (with_first_less v o os) rest T → Side d (o ∷ os) rest (v + T)
  side_more rest T s h r =
      record {
        kept = λ x m. let k = r.kept x m in let j = less_in k.0 k.1 in (j.0, j.1, j.2 ∙ k.2);
        positive = r.positive;
        sum =
            λ x q m w.
            let k = r.kept x m in
            let j = less_in k.0 k.1 in
            let y : Order = j.0 in
            let wy : willing d y.price q ≡ true = ap (λ p. willing d p q) (j.2 ∙ k.2) ∙ w in
            let wo : willing d o.price q ≡ true =
            ⊎_elim (λ e. sym (ap (λ (z : Order). willing d z.price q) e) ∙ wy)
            (λ i. willing_before d o y q (ahead_of d o os s y i) wy) j.1
            in
            omega (arith, volume_less q wo h, r.sum x q m w);
      }

-- where the first is not willing, none is
pub volume_none : (d : Direction) (p : ℕ) (xs : List Order) → ((x : Order) → Member x xs → willing d x.price p ≡ false) → depth d p xs ≡ 0
volume_none d p [] h = refl
volume_none d p (x ∷ xs) h =
    omega (arith, cond-false (willing d x.price p) x.volume 0 (h x (inl refl)), volume_none d p xs (λ y m. h y (inr m)))

pub volume_first : (d : Direction) (p : ℕ) (o : Order) (os : List Order) → InRank d (o ∷ os) → willing d o.price p ≡ false → depth d p (o ∷ os) ≡ 0
volume_first d p o os s h =
    volume_none d p (o ∷ os)
    (λ x m.
    ⊎_elim (λ e. ap (λ (z : Order). willing d z.price p) e ∙ h)
    (λ k. unwilling_after d o x p h (ahead_of d o os s x k)) m)

-- a willing order counts
pub volume_has : (d : Direction) (p : ℕ) (xs : List Order) (o : Order) → Member o xs → willing d o.price p ≡ true → o.volume ≤ depth d p xs
volume_has d p [] o m w = absurd m
volume_has d p (x ∷ xs) o (inl e) w =
    let a : cond (willing d x.price p) x.volume 0 ≡ x.volume =
    cond-true (willing d x.price p) x.volume 0 (sym (ap (λ (z : Order). willing d z.price p) e) ∙ w)
    in
    let k : o.volume ≡ x.volume = ap (λ (z : Order). z.volume) e in
    omega arith
volume_has d p (x ∷ xs) o (inr m) w = omega (arith, volume_has d p xs o m w)

-- The pairing ----------------------------------------------------------------------------------------------------------------------

pub record Pairs (p : ℕ) (bs ss : List Order) (r : Pairing) : Type 0 where
  pub buy_side : Side Buy bs r.buys (traded r.slips)
  pub sell_side : Side Sell ss r.sells (traded r.slips)
  pub most : tradable (book_of bs ss) p ≤ traded r.slips

pairs_none :
    (p : ℕ) (bs ss : List Order) → Positive bs → Positive ss → tradable (book_of bs ss) p ≡ 0 → Pairs p bs ss (record { slips = []; buys = bs; sells = ss })
pairs_none p bs ss pb ps e =
    record { buy_side = side_none Buy bs pb; sell_side = side_none Sell ss ps; most = omega arith }

pub pairs :
    (p n : ℕ) (bs ss : List Order) → InRank Buy bs → InRank Sell ss → Positive bs → Positive ss → length bs + length ss ≤ n →
    Pairs p bs ss (pair p n bs ss)
pairs p zero [] ss sb ss' pb ps h = pairs_none p [] ss pb ps (omega arith)
pairs p zero (b ∷ bs) ss sb ss' pb ps h = absurd (omega arith)
pairs p (suc n) [] ss sb ss' pb ps h = pairs_none p [] ss pb ps (omega arith)
pairs p (suc n) (b ∷ bs) [] sb ss' pb ps h = pairs_none p (b ∷ bs) [] pb ps (omega arith)
pairs p (suc n) (b ∷ bs) (s ∷ ss) sb ss' pb ps h =
    let v : ℕ = min b.volume s.volume in
    let hb : v ≤ b.volume = omega arith in
    let hs : v ≤ s.volume = omega arith in
    let shorter : length (with_first_less v b bs) + length (with_first_less v s ss) ≤ n =
    ⊎_elim
    (λ k. omega (arith, less_shorter Buy b bs v (omega arith), less_length Sell s ss v))
    (λ k. omega (arith, less_shorter Sell s ss v (omega arith), less_length Buy b bs v))
    (cases_lt b.volume s.volume)
    in
    let r : Pairing = pair p n (with_first_less v b bs) (with_first_less v s ss) in
    let ih : Pairs p (with_first_less v b bs) (with_first_less v s ss) r =
    pairs p n (with_first_less v b bs) (with_first_less v s ss) (less_sorted Buy b bs v sb) (less_sorted Sell s ss v ss')
    (less_positive Buy b bs v pb) (less_positive Sell s ss v ps) shorter
    in
    cond_both _ _ _ (Pairs p (b ∷ bs) (s ∷ ss))
    (λ e.
    let w = and_parts (willing Buy b.price p) (willing Sell s.price p) e in
    record {
      buy_side = side_more Buy b bs v r.buys (traded r.slips) sb hb ih.buy_side;
      sell_side = side_more Sell s ss v r.sells (traded r.slips) ss' hs ih.sell_side;
      most =
          let x = volume_less Buy b bs v p w.0 hb in
          let y = volume_less Sell s ss v p w.1 hs in
          let z = ih.most in
          omega arith;
    })
    (λ e.
    pairs_none p (b ∷ bs) (s ∷ ss) pb ps
    (⊎_elim (λ k. let x = volume_first Buy p b bs sb k in omega arith)
    (λ k. let x = volume_first Sell p s ss ss' k in omega arith)
    (and_cases (willing Buy b.price p) (willing Sell s.price p) e)))

-- no side grows
pub pair_short : (p n : ℕ) (bs ss : List Order) → (length (pair p n bs ss).buys ≤ length bs) × (length (pair p n bs ss).sells ≤ length ss)
pair_short p zero bs ss = (omega arith, omega arith)
pair_short p (suc n) [] ss = (omega arith, omega arith)
pair_short p (suc n) (b ∷ bs) [] = (omega arith, omega arith)
pair_short p (suc n) (b ∷ bs) (s ∷ ss) =
    let v : ℕ = min b.volume s.volume in
    let ih = pair_short p n (with_first_less v b bs) (with_first_less v s ss) in
    cond_both (willing Buy b.price p && willing Sell s.price p)
    (trade_then (Trade b.number s.number p v) (pair p n (with_first_less v b bs) (with_first_less v s ss)))
    (record { slips = []; buys = b ∷ bs; sells = s ∷ ss })
    (λ (r : Pairing). (length r.buys ≤ suc (length bs)) × (length r.sells ≤ suc (length ss)))
    (λ _. (omega (arith, ih.0, less_length Buy b bs v), omega (arith, ih.1, less_length Sell s ss v)))
    (λ _. (omega arith, omega arith))

pub match_short : (price : Option ℕ) (bs ss : List Order) → (length (match_at price bs ss).buys ≤ length bs) × (length (match_at price bs ss).sells ≤ length ss)
match_short None bs ss = (omega arith, omega arith)
match_short (Some p) bs ss = pair_short p (length bs + length ss) bs ss

pub limit_orders_short : (xs : List Order) → length (limit_orders xs) ≤ length xs
limit_orders_short [] = omega arith
limit_orders_short (o ∷ xs) =
    let h = limit_orders_short xs in
    cond_both o.market (limit_orders xs) (o ∷ limit_orders xs) (λ l. length l ≤ suc (length xs)) (λ _. omega arith) (λ _. omega arith)

-- The price ------------------------------------------------------------------------------------------------------------------------

-- a price that the three steps leave and at which something trades, or none where nothing does
abbrev pub Price : Terms → Book → Option ℕ → Type 0
Price t b None = (q : ℕ) → t.lo ≤ q → q ≤ t.hi → tradable b q ≡ 0
Price t b (Some p) = BestBySteps t.reference t.lo t.hi b p × (0 < tradable b p)

pub fixing_right : (t : Terms) (b : Book) → Price t b (fixing_price t b)
fixing_right t b = go (fixing_under t b) refl
  where
    most : Greatest t.reference t.lo t.hi b (fixing_under t b)
    most = fixing_trades_the_most t.reference t.lo t.hi b t.low t.high

    go : (found : Option Candidate) → fixing_under t b ≡ found → Price t b (option_map (λ c. c.price) found)
    go None e = λ q lo hi. most.nothing e q (tradable b q) lo hi (allotment_most b q)
    go (Some c) e = (decided_by_steps t.reference t.lo t.hi b t.low t.high c.price).0 (e ∙ ap Some (most.some c e).figures)

-- The whole --------------------------------------------------------------------------------------------------------------------------

-- an order whose price is one of the band and whose volume is not 0
pub record Sane (t : Terms) (o : Order) : Type 0 where
  pub low : t.lo ≤ o.price
  pub high : o.price ≤ t.hi
  pub volume : 0 < o.volume

module _ (t : Terms) (bs ss : List Order) (sb : InRank Buy bs) (ss' : InRank Sell ss)
    (ab : (x : Order) → Member x bs → Sane t x) (sn : (x : Order) → Member x ss → Sane t x) where
  positive_buys : Positive bs
  positive_buys x m = (ab x m).volume

  positive_sells : Positive ss
  positive_sells x m = (sn x m).volume

  -- what was traded at a price, and what is left
  abbrev After : Pairing → Type 0
  After r =
      Side Buy bs r.buys (traded r.slips) × Side Sell ss r.sells (traded r.slips) ×
      ((q : ℕ) → t.lo ≤ q → q ≤ t.hi → tradable (book_of bs ss) q ≤ traded r.slips)

  match_after : (price : Option ℕ) → Price t (book_of bs ss) price → After (match_at price bs ss)
  match_after None h =
      (side_none Buy bs positive_buys, side_none Sell ss positive_sells, λ q lo hi. omega (arith, h q lo hi))
  match_after (Some p) h =
      let k : Pairs p bs ss (pair p (length bs + length ss) bs ss) =
      pairs p (length bs + length ss) bs ss sb ss' positive_buys positive_sells (omega arith)
      in
      (k.buy_side, k.sell_side, λ q lo hi. omega (arith, h.0.greatest q lo hi, k.most))

  after_apart : (r : Pairing) → After r → (b s : Order) → Member b r.buys → Member s r.sells → b.price < s.price
  after_apart r h b s mb ms =
      ⊎_elim (λ k. k)
      (λ k.
      let z = h.0.kept b mb in
      let sane : Sane t z.0 = ab z.0 z.1 in
      let e : z.0.price ≡ b.price = z.2 in
      let wb : willing Buy b.price b.price ≡ true = le-leb b.price b.price (omega arith) in
      let ws : willing Sell s.price b.price ≡ true = le-leb s.price b.price k in
      let lo : t.lo ≤ b.price = omega (arith, sane.low, e) in
      let hi : b.price ≤ t.hi = omega (arith, sane.high, e) in
      let top-q = h.2 b.price lo hi in
      let x = h.0.sum b b.price mb wb in
      let y = h.1.sum s b.price ms ws in
      let vb = volume_has Buy b.price r.buys b mb wb in
      let vs = volume_has Sell b.price r.sells s ms ws in
      let pb : 0 < b.volume = h.0.positive b mb in
      let ps : 0 < s.volume = h.1.positive s ms in
      absurd (omega arith))
      (cases_lt b.price s.price)

  -- what trades is the greatest that any price of the band could trade
  pub most_traded : (p : ℕ) → t.lo ≤ p → p ≤ t.hi → tradable (book_of bs ss) p ≤ traded (match_at (fixing_price t (book_of bs ss)) bs ss).slips
  most_traded = (match_after (fixing_price t (book_of bs ss)) (fixing_right t (book_of bs ss))).2

  -- what is left does not trade
  pub left_apart :
      (b s : Order) → Member b (match_at (fixing_price t (book_of bs ss)) bs ss).buys →
      Member s (match_at (fixing_price t (book_of bs ss)) bs ss).sells → b.price < s.price
  left_apart =
      after_apart (match_at (fixing_price t (book_of bs ss)) bs ss)
      (match_after (fixing_price t (book_of bs ss)) (fixing_right t (book_of bs ss)))

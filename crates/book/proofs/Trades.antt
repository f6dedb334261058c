-- Trades, one by one, and the sweep of Open.
use Rattle.std.proofs.Common.{length, cond, ◌≡◌, ℕ, ◌+◌, ◌-◌, ◌<◌, ◌≤◌, min, true, false, not, ◌||◌, eqb, leb, List, [], ◌∷◌, Some, sym, refl, ap, ◌∙◌, subst, inl, inr, ⊎_elim, arith}
use Rattle.std.proofs.lemmas.Bool.{cond_both, cond-true, cond-false, eqb-true, eqb-false, eq-eqb, ne_eqb, leb-true, leb-false, le-leb, lt-leb, or_parts, or_cases, not-true, not-false}
use Rattle.std.proofs.lemmas.Bool.Decides.{nat_tests}
use Rattle.rules.specs.declared.order.Direction.{Direction}
use Rattle.rules.specs.declared.order.Direction.TheVariants.{Buy, Sell}
use Rattle.rules.specs.declared.order.Order.{Order}
use Rattle.book.specs.declared.slip.Slip.{Slip}
use Rattle.book.specs.declared.slip.Slip.TheVariants.{Trade}
use Rattle.book.specs.Exactly.{Before}
use Rattle.book.specs.Ledger.{Ledger, Live, First, post, post_all, Along, traded}
use Rattle.book.specs.Calls.{with_first_less, trade, Sweep, slip_then, sweep}
use Rattle.book.specs.Law.{continuous, Entering, SlipRight}
use Rattle.book.proofs.Members.{Exactly, Member}
use Rattle.rules.specs.Rank.{before}
use Rattle.rules.specs.Side.{opposite, willing}
use Rattle.tables.specs.Listing.{insert, with_volume}
use Rattle.book.proofs.Ranks.{ahead_of, insert_first, better_first, no_worse}
use Rattle.book.proofs.Accounts.{down, down_at, down_off, down_own, down_against, live_same, not_both}

-- side d of the table lists what is live there
abbrev pub Listed : Direction → Ledger → List Order → Type 0
Listed d L xs = Exactly d (Live d L) xs

pub first_of : (d : Direction) (L : Ledger) (o : Order) (xs : List Order) → Listed d L (o ∷ xs) → First d L o
first_of d L o xs ex =
    record {
      live = ex.sound o (inl refl);
      first = λ x l. ⊎_elim inl (λ m. inr (ahead_of d o xs ex.sorted x m)) (ex.complete x l);
    }

pub trade_step :
    (L : Ledger) (b : Order) (bs : List Order) (s : Order) (ss : List Order) (q v : ℕ) →
    Listed Buy L (b ∷ bs) →
    Listed Sell L (s ∷ ss) →
    v ≤ b.volume →
    v ≤ s.volume →
    Listed Buy (post (Trade b.number s.number q v) L) (with_first_less v b bs) ×
    Listed Sell (post (Trade b.number s.number q v) L) (with_first_less v s ss)
trade_step L b bs s ss q v eb es hb hs =
    let M : Ledger = down b.number v L in
    let mb : Listed Buy M (with_first_less v b bs) = down_own Buy v L b bs eb hb in
    let ms : Listed Sell M (s ∷ ss) = down_against Buy v L b (s ∷ ss) (eb.sound b (inl refl)) es in
    (down_against Sell v M s (with_first_less v b bs) (ms.sound s (inl refl)) mb, down_own Sell v M s ss ms hs)

-- the same, by the side of one of the two
pub trade_both :
    (d : Direction) (L : Ledger) (e : Order) (es : List Order) (o : Order) (os : List Order) (q v : ℕ) →
    Listed d L (e ∷ es) →
    Listed (opposite d) L (o ∷ os) →
    v ≤ e.volume →
    v ≤ o.volume →
    Listed d (post (trade d e.number o.number q v) L) (with_first_less v e es) ×
    Listed (opposite d) (post (trade d e.number o.number q v) L) (with_first_less v o os)
trade_both Buy L e es o os q v le lo he ho = trade_step L e es o os q v le lo he ho
trade_both Sell L e es o os q v le lo he ho =
    let r = trade_step L o os e es q v lo le ho he in
    (r.1, r.0)

-- each is willing at its own price
pub willing_self : (d : Direction) (o : Order) → willing d o.price o.price ≡ true
willing_self Buy o = le-leb o.price o.price (omega arith)
willing_self Sell o = le-leb o.price o.price (omega arith)

pub willing_back : (d : Direction) (p q : ℕ) → willing (opposite d) q p ≡ true → willing d p q ≡ true
willing_back Buy p q h = h
willing_back Sell p q h = h

-- a slip of the sweep is right
pub sweep_slip :
    (d : Direction) (L : Ledger) (e o : Order) (v : ℕ) →
    Entering L e →
    First d L e →
    First (opposite d) L o →
    willing d e.price o.price ≡ true →
    v ≡ min e.volume o.volume →
    SlipRight continuous L (trade d e.number o.number o.price v)
sweep_slip Buy L e o v brings fe fo we hv =
    record {
      buy = e;
      sell = o;
      buy_number = refl;
      sell_number = refl;
      buy_first = fe;
      sell_first = fo;
      volume = hv;
      buy_willing = we;
      sell_willing = willing_self Sell o;
      price = inl (brings, refl);
    }
sweep_slip Sell L e o v brings fe fo we hv =
    record {
      buy = o;
      sell = e;
      buy_number = refl;
      sell_number = refl;
      buy_first = fo;
      sell_first = fe;
      volume = omega arith;
      buy_willing = willing_self Buy o;
      sell_willing = we;
      price = inr (brings, refl);
    }

-- the account of the entering order after a trade
pub trade_account :
    (d : Direction) (L : Ledger) (e o : Order) (q v : ℕ) →
    L.accounts e.number ≡ Some e →
    (e.number ≡ o.number → ⊥) →
    (post (trade d e.number o.number q v) L).accounts e.number ≡ Some (with_volume (e.volume - v) e)
trade_account Buy L e o q v h k =
    down_off o.number v (down e.number v L) e.number k ∙ down_at e.number v L e h
trade_account Sell L e o q v h k =
    down_at e.number v (down o.number v L) e (down_off o.number v L e.number k ∙ h)

pub trade_tally : (d : Direction) (L : Ledger) (n m q v : ℕ) → (post (trade d n m q v) L).tally ≡ L.tally
trade_tally Buy L n m q v = refl
trade_tally Sell L n m q v = refl

pub trade_sum : (d : Direction) (n m q v : ℕ) (ss : List Slip) → traded (trade d n m q v ∷ ss) ≡ v + traded ss
trade_sum Buy n m q v ss = refl
trade_sum Sell n m q v ss = refl

-- an order that is willing to trade with one that x is not willing to trade with ranks before x
pub outranks :
    (d : Direction) (e x : Order) (q : ℕ) →
    willing (opposite d) q e.price ≡ true →
    willing (opposite d) q x.price ≡ false →
    Before d e x
outranks Buy e x q h k = better_first Buy e x (grind (arith, nat_tests))
outranks Sell e x q h k = better_first Sell e x (grind (arith, nat_tests))

-- where an order is not willing, none that ranks behind it is
pub unwilling_after :
    (d : Direction) (o y : Order) (p : ℕ) →
    willing d o.price p ≡ false →
    Before d o y →
    willing d y.price p ≡ false
unwilling_after Buy o y p h b = let k = no_worse Buy o y b in grind (arith, nat_tests)
unwilling_after Sell o y p h b = let k = no_worse Sell o y b in grind (arith, nat_tests)

pub pos : (v : ℕ) → (v ≡ 0 → ⊥) → 0 < v
pos v h = omega arith

pub zero_not : (v : ℕ) → v ≡ 0 → 0 < v → ⊥
zero_not v e h = omega arith

-- a volume has no rank
pub before_volume : (d : Direction) (e x : Order) (v : ℕ) → Before d e x → Before d (with_volume v e) x
before_volume d e x v b = b

-- a side with what is left of an entering order at its rank
abbrev pub stand : Direction → Order → ℕ → List Order → List Order
stand d e v own = cond (eqb v 0) own (insert (before d) (with_volume v e) own)

pub stand_some :
    (d : Direction) (e : Order) (v : ℕ) (own : List Order) →
    0 < v →
    ((x : Order) → Member x own → Before d e x) →
    stand d e v own ≡ with_volume v e ∷ own
stand_some d e v own h b =
    cond-false (eqb v 0) own (insert (before d) (with_volume v e) own) (ne_eqb v 0 (λ k. omega arith)) ∙
    insert_first d (with_volume v e) own
    (λ x m. before_volume d e x v (b x m))

pub stand_none : (d : Direction) (e : Order) (v : ℕ) (own : List Order) → v ≡ 0 → stand d e v own ≡ own
stand_none d e v own h = cond-true (eqb v 0) own (insert (before d) (with_volume v e) own) (eq-eqb v 0 h)

pub less_stand :
    (d : Direction) (e : Order) (v w : ℕ) (own : List Order) →
    ((x : Order) → Member x own → Before d e x) →
    with_first_less w (with_volume v e) own ≡ stand d e (v - w) own
less_stand d e v w own b =
    cond_both (leb v w) own (with_volume (v - w) e ∷ own) (λ l. l ≡ stand d e (v - w) own)
    (λ h. sym (stand_none d e (v - w) own (omega (arith, leb-true v w h))))
    (λ h. sym (stand_some d e (v - w) own (omega (arith, leb-false v w h)) b))

module _ (d : Direction) (e : Order) (own : List Order) where
  -- what the sweep does, from the ledger L on, with v to trade
  pub record SweptRight (L : Ledger) (opp : List Order) (v : ℕ) (s : Sweep) : Type 0 where
    pub along : Along (SlipRight continuous) L s.slips
    pub sum : traded s.slips + s.left ≡ v
    pub account : (post_all s.slips L).accounts e.number ≡ Some (with_volume s.left e)
    pub own_side : Listed d (post_all s.slips L) (stand d e s.left own)
    pub against : Listed (opposite d) (post_all s.slips L) s.rest
    pub apart : 0 < s.left → (y : Order) → Member y s.rest → willing (opposite d) y.price e.price ≡ false
    pub short : length s.rest ≤ length opp
    pub kept : (y : Order) → Member y s.rest → (z : Order) × Member z opp × (z.price ≡ y.price) × (z.market ≡ y.market)

  -- own holds nothing that would trade with the other side
  abbrev pub Clear : List Order → Type 0
  Clear opp = (x y : Order) → Member x own → Member y opp → willing (opposite d) y.price x.price ≡ false

  pub swept_none :
      (L : Ledger) (opp : List Order) (v : ℕ) →
      Listed d L (stand d e v own) →
      Listed (opposite d) L opp →
      L.accounts e.number ≡ Some (with_volume v e) →
      (0 < v → (y : Order) → Member y opp → willing (opposite d) y.price e.price ≡ false) →
      SweptRight L opp v (record { slips = []; rest = opp; left = v })
  swept_none L opp v le lo ac h =
      record {
        along = tt;
        sum = omega arith;
        account = ac;
        own_side = le;
        against = lo;
        apart = h;
        short = omega arith;
        kept = λ y m. (y, m, refl, refl);
      }

  module _ (L : Ledger) (o : Order) (os : List Order) (v : ℕ) (le : Listed d L (stand d e v own))
      (lo : Listed (opposite d) L (o ∷ os)) (ac : L.accounts e.number ≡ Some (with_volume v e))
      (last : Entering L e) (clear : Clear (o ∷ os)) (some : 0 < v)
      (will : willing (opposite d) o.price e.price ≡ true) where
    ahead : (x : Order) → Member x own → Before d e x
    ahead x m = outranks d e x o.price will (clear x o m (inl refl))

    stands : Listed d L (with_volume v e ∷ own)
    stands = rw (← stand_some d e v own some ahead) le

    -- the resting order trades whole
    whole_step :
        o.volume ≤ v →
        Listed d (post (trade d e.number o.number o.price o.volume) L) (stand d e (v - o.volume) own) ×
        Listed (opposite d) (post (trade d e.number o.number o.price o.volume) L) os
    whole_step fits =
        let M : Ledger = post (trade d e.number o.number o.price o.volume) L in
        let r : Listed d M (with_first_less o.volume (with_volume v e) own) × Listed (opposite d) M (with_first_less o.volume o os) =
        trade_both d L (with_volume v e) own o os o.price o.volume stands lo fits (omega arith)
        in (
          subst (Listed d M) (less_stand d e v o.volume own ahead) r.0,
          subst (Listed (opposite d) M)
              (cond-true (leb o.volume o.volume) os (with_volume (o.volume - o.volume) o ∷ os)
              (le-leb o.volume o.volume (omega arith))) r.1,
        )

    slip_right : (w : ℕ) → w ≡ min v o.volume → SlipRight continuous L (trade d e.number o.number o.price w)
    slip_right w h =
        sweep_slip d L (with_volume v e) o w last
        (first_of d L (with_volume v e) own stands) (first_of (opposite d) L o os lo)
        (willing_back d e.price o.price will) h

    -- the two have different numbers
    two : e.number ≡ o.number → ⊥
    two q =
        let x : Live d L (with_volume v e) = stands.sound (with_volume v e) (inl refl) in
        let y : Live (opposite d) L o = lo.sound o (inl refl) in
        not_both d (sym x.side ∙ (ap (λ (z : Order). z.direction) (live_same d (opposite d) L (with_volume v e) o x y q) ∙ y.side))

    account_after :
        (w : ℕ) → (post (trade d e.number o.number o.price w) L).accounts e.number ≡ Some (with_volume (v - w) e)
    account_after w = trade_account d L (with_volume v e) o o.price w ac two

    swept_more :
        o.volume ≤ v →
        (s : Sweep) →
        SweptRight (post (trade d e.number o.number o.price o.volume) L) os (v - o.volume) s →
        SweptRight L (o ∷ os) v (slip_then (trade d e.number o.number o.price o.volume) s)
    swept_more fits s r =
        record {
          along = (slip_right o.volume (omega arith), r.along);
          sum = omega (arith, r.sum, trade_sum d e.number o.number o.price o.volume s.slips);
          account = r.account;
          own_side = r.own_side;
          against = r.against;
          apart = r.apart;
          short = let k = r.short in omega arith;
          kept = λ y m. let k = r.kept y m in (k.0, inr k.1, k.2, k.3);
        }

    -- the entering order trades whole
    swept_part :
        v < o.volume →
        SweptRight L (o ∷ os) v
        (record {
          slips = trade d e.number o.number o.price v ∷ [];
          rest = with_volume (o.volume - v) o ∷ os;
          left = 0;
        })
    swept_part fits =
        let M : Ledger = post (trade d e.number o.number o.price v) L in
        let r : Listed d M (with_first_less v (with_volume v e) own) × Listed (opposite d) M (with_first_less v o os) =
        trade_both d L (with_volume v e) own o os o.price v stands lo (omega arith) (omega arith)
        in
        record {
          along = (slip_right v (omega arith), tt);
          sum = omega (arith, trade_sum d e.number o.number o.price v []);
          account = account_after v ∙ ap (λ w. Some (with_volume w e)) (omega arith);
          own_side =
              subst (Listed d M) (cond-true (leb v v) own (with_volume (v - v) e ∷ own) (le-leb v v (omega arith))) r.0;
          against =
              subst (Listed (opposite d) M)
              (cond-false (leb o.volume v) os (with_volume (o.volume - v) o ∷ os) (lt-leb o.volume v fits)) r.1;
          apart = λ h. absurd (omega arith);
          short = omega arith;
          kept = λ y m. ⊎_elim
              (λ q. (o, inl refl, sym (ap (λ (z : Order). z.price) q), sym (ap (λ (z : Order). z.market) q)))
              (λ k. (y, inr k, refl, refl)) m;
        }

  swept_stop :
      (L : Ledger) (o : Order) (os : List Order) (v : ℕ) →
      Listed d L (stand d e v own) →
      Listed (opposite d) L (o ∷ os) →
      L.accounts e.number ≡ Some (with_volume v e) →
      (eqb v 0 || not (willing (opposite d) o.price e.price)) ≡ true →
      SweptRight L (o ∷ os) v (record { slips = []; rest = o ∷ os; left = v })
  swept_stop L o os v le lo ac h =
      swept_none L (o ∷ os) v le lo ac
      (λ some y m.
      ⊎_elim (λ k. absurd (zero_not v (eqb-true v 0 k) some))
      (λ k.
      let no-will : willing (opposite d) o.price e.price ≡ false = not-true (willing (opposite d) o.price e.price) k in
      ⊎_elim (λ q. subst (λ (z : Order). willing (opposite d) z.price e.price ≡ false) (sym q) no-will)
      (λ n. unwilling_after (opposite d) o y e.price no-will (ahead_of (opposite d) o os lo.sorted y n)) m)
      (or_cases (eqb v 0) (not (willing (opposite d) o.price e.price)) h))

  pub sweep_right :
      (opp : List Order) (v : ℕ) (L : Ledger) →
      Listed d L (stand d e v own) →
      Listed (opposite d) L opp →
      L.accounts e.number ≡ Some (with_volume v e) →
      Entering L e →
      Clear opp →
      SweptRight L opp v (sweep d e.number e.price opp v)
  sweep_right [] v L le lo ac last clear = swept_none L [] v le lo ac (λ _ y m. absurd m)
  sweep_right (o ∷ os) v L le lo ac last clear =
      cond_both _ _ _ (SweptRight L (o ∷ os) v)
      (λ h. swept_stop L o os v le lo ac h)
      (λ h.
      let k = or_parts (eqb v 0) (not (willing (opposite d) o.price e.price)) h in
      let some : 0 < v = pos v (eqb-false v 0 k.0) in
      let will : willing (opposite d) o.price e.price ≡ true = not-false (willing (opposite d) o.price e.price) k.1 in
      cond_both _ _ _ (SweptRight L (o ∷ os) v)
      (λ g.
      let fits : o.volume ≤ v = leb-true o.volume v g in
      let r = whole_step L o os v le lo ac last clear some will fits in
      swept_more L o os v le lo ac last clear some will fits
      (sweep d e.number e.price os (v - o.volume))
      (sweep_right os (v - o.volume) (post (trade d e.number o.number o.price o.volume) L) r.0 r.1
      (account_after L o os v le lo ac last clear some will o.volume)
      (last ∙ sym (trade_tally d L e.number o.number o.price o.volume))
      (λ x y m n. clear x y m (inr n))))
      (λ g. swept_part L o os v le lo ac last clear some will (leb-false o.volume v g)))

-- The strike: trades at one price, then the market orders that are left lapse.
use Rattle.std.proofs.Common.{◌≡◌, ℕ, zero, suc, ◌+◌, ◌-◌, ◌<◌, ◌≤◌, min, Bool, true, false, cond, ◌⊎◌, List, [], ◌∷◌, ◌++◌, length, Some, None, Option, sym, refl, ap, ◌∙◌, subst, inl, inr, ⊎_elim, arith}
use Rattle.std.proofs.lemmas.Bool.{cond_both, cases_eq, and_parts, both_ways}
use Rattle.rules.specs.declared.order.Direction.{Direction}
use Rattle.rules.specs.declared.order.Direction.TheVariants.{Buy, Sell}
use Rattle.rules.specs.declared.order.Order.{Order}
use Rattle.book.specs.declared.slip.Slip.{Slip}
use Rattle.book.specs.declared.slip.Slip.TheVariants.{Trade, Lapse}
use Rattle.book.proofs.Ranks.{InRank}
use Rattle.book.specs.Exactly.{Before}
use Rattle.book.specs.Ledger.{Ledger, Live, Uncrossed, post, post_all, Along, traded}
use Rattle.book.specs.Calls.{turnover, with_first_less, Pairing, trade_then, pair, match_at, lapses, limit_orders}
use Rattle.book.specs.Law.{fixing_at, SlipRight, InTurn, IsMarket}
use Rattle.book.proofs.Members.{Member}
use Rattle.rules.specs.Side.{opposite, willing}
use Rattle.book.proofs.Ranks.{InRank, ahead_of, rest_in, in_rank_from, before_irrefl}
use Rattle.book.proofs.Accounts.{live_same, live_off, down, down_off, down_live, down_against, uncrossed_down, SellTurn, turn_down}
use Rattle.book.proofs.Trades.{Listed, first_of, trade_step}

module _ (price : Option ℕ) where
  pub record PairedRight (L : Ledger) (r : Pairing) : Type 0 where
    pub along : Along (SlipRight (fixing_at price)) L r.slips
    pub buy_side : Listed Buy (post_all r.slips L) r.buys
    pub sell_side : Listed Sell (post_all r.slips L) r.sells

  paired_none : (L : Ledger) (bs ss : List Order) → Listed Buy L bs → Listed Sell L ss → PairedRight L (record { slips = []; buys = bs; sells = ss })
  paired_none L bs ss lb ls = record { along = tt; buy_side = lb; sell_side = ls }

  paired_more :
      (p : ℕ) → price ≡ Some p →
      (L : Ledger) (b : Order) (bs : List Order) (s : Order) (ss : List Order) (v : ℕ) →
      v ≡ min b.volume s.volume →
      willing Buy b.price p ≡ true →
      willing Sell s.price p ≡ true →
      Listed Buy L (b ∷ bs) → Listed Sell L (s ∷ ss) →
      (r : Pairing) →
      PairedRight (post (Trade b.number s.number p v) L) r →
      PairedRight L (trade_then (Trade b.number s.number p v) r)
  paired_more p e L b bs s ss v hv wb ws lb ls r k =
      record {
        along = (
          record {
            buy = b;
            sell = s;
            buy_number = refl;
            sell_number = refl;
            buy_first = first_of Buy L b bs lb;
            sell_first = first_of Sell L s ss ls;
            volume = hv;
            buy_willing = wb;
            sell_willing = ws;
            price = e;
          },
          k.along,
        );
        buy_side = k.buy_side;
        sell_side = k.sell_side;
      }

  pub pair_right :
      (p : ℕ) → price ≡ Some p → (n : ℕ) (bs ss : List Order) (L : Ledger) →
      Listed Buy L bs → Listed Sell L ss → PairedRight L (pair p n bs ss)
  pair_right p e zero bs ss L lb ls = paired_none L bs ss lb ls
  pair_right p e (suc n) [] ss L lb ls = paired_none L [] ss lb ls
  pair_right p e (suc n) (b ∷ bs) [] L lb ls = paired_none L (b ∷ bs) [] lb ls
  pair_right p e (suc n) (b ∷ bs) (s ∷ ss) L lb ls =
      let v : ℕ = min b.volume s.volume in
      let hb : v ≤ b.volume = omega arith in
      let hs : v ≤ s.volume = omega arith in
      let k = trade_step L b bs s ss p v lb ls hb hs in
      cond_both _ _ _ (PairedRight L)
      (λ w.
      let ws = and_parts (willing Buy b.price p) (willing Sell s.price p) w in
      paired_more p e L b bs s ss v refl ws.0 ws.1 lb ls (pair p n (with_first_less v b bs) (with_first_less v s ss))
      (pair_right p e n (with_first_less v b bs) (with_first_less v s ss) (post (Trade b.number s.number p v) L) k.0 k.1))
      (λ _. paired_none L (b ∷ bs) (s ∷ ss) lb ls)

  pub match_right :
      (q : Option ℕ) → price ≡ q → (bs ss : List Order) (L : Ledger) →
      Listed Buy L bs → Listed Sell L ss → PairedRight L (match_at q bs ss)
  match_right None e bs ss L lb ls = paired_none L bs ss lb ls
  match_right (Some p) e bs ss L lb ls = pair_right p e (length bs + length ss) bs ss L lb ls

  -- Lapses ---------------------------------------------------------------------------------------------------------------------

  -- of side d, xs are still to be looked at, and K are those that stay
  pub record Split (d : Direction) (L : Ledger) (xs : List Order) (K : Order → Type 0) : Type 0 where
    pub sorted : InRank d xs
    pub sound : (x : Order) → Member x xs → Live d L x
    pub stays : (x : Order) → K x → Live d L x
    pub complete : (x : Order) → Live d L x → Member x xs ⊎ K x
    pub apart : (x y : Order) → Member x xs → K y → y.number ≡ x.number → ⊥
    pub limit : (x : Order) → K x → x.market ≡ false

  pub record Lapsed (d : Direction) (L : Ledger) (rest ys : List Order) (K : Order → Type 0) (slips : List Slip) : Type 0 where
    pub along : Along (SlipRight (fixing_at price)) L slips
    pub against : Listed (opposite d) (post_all slips L) ys
    pub sound : (x : Order) → Member x rest ⊎ K x → Live d (post_all slips L) x
    pub complete : (x : Order) → Live d (post_all slips L) x → Member x rest ⊎ K x

  module _ (d : Direction) (L : Ledger) (o : Order) (xs : List Order) (K : Order → Type 0) (sp : Split d L (o ∷ xs) K) where
    other_number : (x : Order) → Member x xs → x.number ≡ o.number → ⊥
    other_number x m q =
        before_irrefl d o
        (subst (Before d o) (live_same d d L x o (sp.sound x (inr m)) (sp.sound o (inl refl)) q)
        (ahead_of d o xs sp.sorted x m))

    own_turn : SellTurn d L → InTurn IsMarket d L o
    own_turn h =
        record {
          ranks =
              λ x l mk.
              ⊎_elim (λ m. ⊎_elim inl (λ n. inr (ahead_of d o xs sp.sorted x n)) m)
              (λ k. absurd (both_ways x.market (sp.limit x k) mk)) (sp.complete x l);
          buys_first = λ q x l mk. absurd (both_ways x.market (h q x l) mk);
        }

    split_keep : o.market ≡ false → Split d L xs (λ x. (x ≡ o) ⊎ K x)
    split_keep lim =
        record {
          sorted = rest_in d o xs sp.sorted;
          sound = λ x m. sp.sound x (inr m);
          stays = λ x k. ⊎_elim (λ q. sp.sound x (inl q)) (sp.stays x) k;
          complete =
              λ x l. ⊎_elim (λ m. ⊎_elim (λ q. inr (inl q)) inl m) (λ k. inr (inr k)) (sp.complete x l);
          apart =
              λ x y m k q.
              ⊎_elim (λ e. other_number x m (sym q ∙ ap (λ (z : Order). z.number) e)) (λ j. sp.apart x y (inr m) j q) k;
          limit = λ x k. ⊎_elim (λ q. ap (λ (z : Order). z.market) q ∙ lim) (sp.limit x) k;
        }

    split_drop : Split d (down o.number o.volume L) xs K
    split_drop =
        let n : ℕ = o.number in
        let M : Ledger = down n o.volume L in
        record {
          sorted = rest_in d o xs sp.sorted;
          sound = λ x m. live_off n L M (down_off n o.volume L) d x (other_number x m) (sp.sound x (inr m));
          stays = λ x k. live_off n L M (down_off n o.volume L) d x (sp.apart o x (inl refl) k) (sp.stays x k);
          complete =
              λ x l.
              ⊎_elim
              (λ q.
              let v : x.volume ≡ o.volume - o.volume =
              ap (λ (z : Order). z.volume) (down_live d d o.volume L o x (sp.sound o (inl refl)) l q)
              in
              let b : 0 < x.volume = l.balance in
              absurd (omega arith))
              (λ q.
              ⊎_elim (λ m. ⊎_elim (λ e. absurd (q (ap (λ (z : Order). z.number) e))) inl m) inr
              (sp.complete x (live_off n M L (λ m k. sym (down_off n o.volume L m k)) d x q l)))
              (cases_eq x.number n);
          apart = λ x y m. sp.apart x y (inr m);
          limit = sp.limit;
        }

  regroup : (x o : Order) (A K : Type 0) → A ⊎ ((x ≡ o) ⊎ K) → ((x ≡ o) ⊎ A) ⊎ K
  regroup x o A K (inl m) = inl (inr m)
  regroup x o A K (inr (inl e)) = inl (inl e)
  regroup x o A K (inr (inr k)) = inr k

  ungroup : (x o : Order) (A K : Type 0) → ((x ≡ o) ⊎ A) ⊎ K → A ⊎ ((x ≡ o) ⊎ K)
  ungroup x o A K (inl (inl e)) = inr (inl e)
  ungroup x o A K (inl (inr m)) = inl m
  ungroup x o A K (inr k) = inr (inr k)

  lapse_on :
      (d : Direction) (o : Order) (xs ys : List Order) (L : Ledger) (K : Order → Type 0) →
      Live d L o →
      Uncrossed L →
      InTurn IsMarket d L o →
      Lapsed d (down o.number o.volume L) (limit_orders xs) ys K (lapses xs) →
      (o.market ≡ false → Lapsed d L (limit_orders xs) ys (λ x. (x ≡ o) ⊎ K x) (lapses xs)) →
      (m : Bool) →
      o.market ≡ m →
      Lapsed d L (cond m (limit_orders xs) (o ∷ limit_orders xs)) ys K (cond m (Lapse o.number o.volume ∷ lapses xs) (lapses xs))
  lapse_on d o xs ys L K l un turn drop keep true e =
      record {
        along = (
          record {
            order = o;
            number = refl;
            live = record { account = l.account; balance = l.balance; side = refl };
            market = e;
            whole = refl;
            stuck = un;
            turn = subst (λ z. InTurn IsMarket z L o) (sym l.side) turn;
            may = tt;
          },
          drop.along,
        );
        against = drop.against;
        sound = drop.sound;
        complete = drop.complete;
      }
  lapse_on d o xs ys L K l un turn drop keep false e =
      let kept = keep e in
      record {
        along = kept.along;
        against = kept.against;
        sound = λ x k. kept.sound x (ungroup x o (Member x (limit_orders xs)) (K x) k);
        complete = λ x l. regroup x o (Member x (limit_orders xs)) (K x) (kept.complete x l);
      }

  pub lapse_right :
      (d : Direction) (xs ys : List Order) (L : Ledger) (K : Order → Type 0) →
      Split d L xs K → Listed (opposite d) L ys → Uncrossed L → SellTurn d L →
      Lapsed d L (limit_orders xs) ys K (lapses xs)
  lapse_right d [] ys L K sp la un st =
      record {
        along = tt;
        against = la;
        sound = λ x k. ⊎_elim (λ m. absurd m) (sp.stays x) k;
        complete = sp.complete;
      }
  lapse_right d (o ∷ xs) ys L K sp la un st =
      let l : Live d L o = sp.sound o (inl refl) in
      lapse_on d o xs ys L K l un (own_turn d L o xs K sp st)
      (lapse_right d xs ys (down o.number o.volume L) K (split_drop d L o xs K sp) (down_against d o.volume L o ys l la)
      (uncrossed_down o.number o.volume L un) (turn_down d o.number o.volume L st))
      (λ lim. lapse_right d xs ys L (λ x. (x ≡ o) ⊎ K x) (split_keep d L o xs K sp lim) la un st) o.market refl

  pub limits_in : (xs : List Order) (x : Order) → Member x (limit_orders xs) → Member x xs
  limits_in [] x m = m
  limits_in (o ∷ xs) x m =
      cond_both o.market (limit_orders xs) (o ∷ limit_orders xs) (λ l. Member x l → Member x (o ∷ xs))
      (λ _ k. inr (limits_in xs x k))
      (λ _ k. ⊎_elim inl (λ j. inr (limits_in xs x j)) k) m

  pub limit_orders_limit : (xs : List Order) (x : Order) → Member x (limit_orders xs) → x.market ≡ false
  limit_orders_limit [] x m = absurd m
  limit_orders_limit (o ∷ xs) x m =
      cond_both o.market (limit_orders xs) (o ∷ limit_orders xs) (λ l. Member x l → x.market ≡ false)
      (λ _ k. limit_orders_limit xs x k)
      (λ e k. ⊎_elim (λ q. ap (λ (z : Order). z.market) q ∙ e) (λ j. limit_orders_limit xs x j) k) m

  limits_sorted : (d : Direction) (xs : List Order) → InRank d xs → InRank d (limit_orders xs)
  limits_sorted d [] s = refl
  limits_sorted d (o ∷ xs) s =
      cond_both o.market (limit_orders xs) (o ∷ limit_orders xs) (InRank d)
      (λ _. limits_sorted d xs (rest_in d o xs s))
      (λ _. in_rank_from d o (limit_orders xs) (λ x m. ahead_of d o xs s x (limits_in xs x m)) (limits_sorted d xs (rest_in d o xs s)))

  pub record Limited (d : Direction) (L : Ledger) (xs ys : List Order) : Type 0 where
    pub along : Along (SlipRight (fixing_at price)) L (lapses xs)
    pub own_side : Listed d (post_all (lapses xs) L) (limit_orders xs)
    pub against : Listed (opposite d) (post_all (lapses xs) L) ys

  -- the market orders of one side lapse
  pub side_lapses : (d : Direction) (xs ys : List Order) (L : Ledger) → Listed d L xs → Listed (opposite d) L ys → Uncrossed L → SellTurn d L →
      Limited d L xs ys
  side_lapses d xs ys L lx ly un st =
      let r =
      lapse_right d xs ys L (λ _. ⊥)
      (record {
        sorted = lx.sorted;
        sound = lx.sound;
        stays = λ x k. absurd k;
        complete = λ x l. inl (lx.complete x l);
        apart = λ x y m k. absurd k;
        limit = λ x k. absurd k;
      }) ly un st
      in
      record {
        along = r.along;
        own_side =
            record {
              sorted = limits_sorted d xs lx.sorted;
              sound = λ x m. r.sound x (inl m);
              complete = λ x l. ⊎_elim (λ m. m) (λ k. absurd k) (r.complete x l);
            };
        against = r.against;
      }

-- Sums --------------------------------------------------------------------------------------------------------------------------

pub traded_append : (xs ys : List Slip) → traded (xs ++ ys) ≡ traded xs + traded ys
traded_append [] ys = omega arith
traded_append (x ∷ xs) ys = let h = traded_append xs ys in omega arith

pub traded-lapses : (xs : List Order) → traded (lapses xs) ≡ 0
traded-lapses [] = refl
traded-lapses (o ∷ xs) =
    cond_both o.market (Lapse o.number o.volume ∷ lapses xs) (lapses xs) (λ l. traded l ≡ 0)
    (λ _. let h = traded-lapses xs in omega arith) (λ _. traded-lapses xs)

-- the model's sum is the ledger's
pub turnover-traded : (ss : List Slip) → turnover ss ≡ traded ss
turnover-traded [] = refl
turnover-traded (Trade b s q v ∷ ss) = ap (λ n. v + n) (turnover-traded ss)
turnover-traded (Lapse n v ∷ ss) = omega (arith, turnover-traded ss)

-- after lapses nothing trades still
pub uncrossed_lapses : (xs : List Order) (L : Ledger) → Uncrossed L → Uncrossed (post_all (lapses xs) L)
uncrossed_lapses [] L h = h
uncrossed_lapses (o ∷ xs) L h =
    cond_both o.market (Lapse o.number o.volume ∷ lapses xs) (lapses xs) (λ l. Uncrossed (post_all l L))
    (λ _. uncrossed_lapses xs (down o.number o.volume L) (uncrossed_down o.number o.volume L h))
    (λ _. uncrossed_lapses xs L h)

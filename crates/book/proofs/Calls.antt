-- Call by call: withdraw, enter and alter.
use Rattle.std.proofs.Common.{◌&&◌, is_some, ◌≡◌, ℕ, suc, ◌-◌, ◌<◌, ◌≤◌, Bool, true, false, cond, not, ◌||◌, eqb, ltb, List, [], ◌∷◌, ◌++◌, length, Some, None, Option, sym, refl, ap, ◌∙◌, subst, inl, inr, ⊎_elim, arith, append-nil}
use Rattle.std.proofs.lemmas.Bool.{cases_Bool, cond_both, cond-false, cond-true, cases_eq, eqb-true, eqb-false, ne_eqb, eq-eqb, and_parts, and_cases, not-false, both_ways}
use Rattle.std.proofs.lemmas.Bool.Decides.{nat_tests}
use Rattle.rules.specs.declared.order.Direction.{Direction}
use Rattle.rules.specs.declared.order.Direction.TheVariants.{Buy, Sell}
use Rattle.book.specs.declared.stage.Stage.{Stage}
use Rattle.book.specs.declared.stage.Stage.TheVariants.{PreOpen, Open, PreClose, Closed}
use Rattle.rules.specs.declared.order.Order.{Order}
use Rattle.rules.specs.declared.terms.Terms.{Terms}
use Rattle.book.specs.declared.slip.Slip.{Slip}
use Rattle.book.specs.declared.slip.Slip.TheVariants.{Lapse}
use Rattle.book.specs.declared.call.Alteration.{Alteration}
use Rattle.book.specs.declared.call.Call.{Call}
use Rattle.book.specs.declared.call.Call.TheVariants.{Enter, Alter, Withdraw}
use Rattle.book.specs.declared.call.NewOrder.{NewOrder}
use Rattle.book.specs.declared.call.Withdrawal.{Withdrawal}
use Rattle.book.specs.declared.answer.Answer.{Answer}
use Rattle.book.specs.declared.answer.Told.{Told}
use Rattle.book.specs.Counts.{with_count}
use Rattle.book.specs.Ledger.{Ledger, Live, put, balance, opening, renews, renew, keep, rewritten, alter_account, feed, post_all, Along, traded}
use Rattle.book.specs.Stages.{is_open}
use Rattle.book.specs.Rows.{beyond_band, order_named}
use Rattle.book.specs.Calls.{limit_price, order_of, takes_new_arrival, alter_tally, altered_order, Outcome, refused_by, done, outcome_of, withdraw, enter_order, enter, alter, Telling, enter_reply, alter_reply, Execution, made_by_entry, entry_trading, after_sweep, entry_resting, entry_of, trades_again, with_left, with_rest, Sweep, sweep}
use Rattle.book.specs.Law.{Mode, continuous, mode, entry_mode, price_of, feed_of, due_answer, SlipRight, InTurn, IsMarket, FixingRight, Entering, IsSettled, Shown, Upheld}
use Rattle.book.specs.declared.answer.Told.TheVariants.{Withdrawn}
use Rattle.book.proofs.Ranks.{InRank, without_in, insert_in, in_insert, none_numbered}
use Rattle.book.proofs.Members.{listing, Exactly, Member}
use Rattle.rules.specs.Rank.{before}
use Rattle.rules.specs.Side.{opposite, willing}
use Rattle.tables.specs.Listing.{insert, with_volume, without}
use Rattle.rules.specs.Book.{side}
use Rattle.rules.specs.Band.{within}
use Rattle.rules.specs.Entry.{is_volume}
use Rattle.tables.specs.Meaning.{Contents, Fits, held, takes, added, removed, holding}
use Rattle.tables.proofs.Numbers.{without_none}
use Rattle.tables.proofs.Ranking.{length-insert}
use Rattle.book.proofs.Gate.{Enters, Alters}
use Rattle.book.proofs.Ranks.{InRank, without_in, insert_in, in_insert, none_numbered}
use Rattle.book.proofs.Accounts.{put_same, put_other, live_same, Off, Dead, Besides, besides_without, besides_none, besides_close, besides_insert, down, down_off, down_at, down_live, down_against, not_both}
use Rattle.book.proofs.Trades.{Listed, SweptRight, sweep_right, pos, stand}
use Rattle.book.proofs.Strike.{traded_append}
use Rattle.book.proofs.Sided.{sided, table_of, side_against, sided_same, fits_sided, NoneHas, takes_sided, added_sided, with_rest_table, removed_sided, times_some, length-without}
use Rattle.book.proofs.Kept.{Opened, AllOpened, Inv, day_at, Kept, Good, post_stage, post_tally, post_append, along_append, opened_put, opened_lower, opened_more, opened_post, Apart, apart_of, shown_of, unsettled, is_open_true, settled_open, found_live, limit_of, Limit, uncrossed_of}

-- Withdraw ----------------------------------------------------------------------------------------------------------------

-- an order that gives its whole balance leaves its side
pub gone :
    (d : Direction) (L : Ledger) (o : Order) (xs : List Order) →
    Live d L o →
    Listed d L xs →
    Listed d (down o.number o.volume L) (without o.number xs)
gone d L o xs l ex =
    besides_close o.number L (down o.number o.volume L) (down_off o.number o.volume L) d
    (without o.number xs) (besides_without o.number d L xs ex)
    (λ x k q.
    let same : x.volume ≡ o.volume - o.volume = ap (λ (z : Order). z.volume) (down_live d d o.volume L o x l k q) in
    let b : 0 < x.volume = k.balance in
    omega arith)

-- an order of one side is not on the other
pub one_side : (L : Ledger) (d : Direction) (o : Order) → Live d L o → Dead o.number (opposite d) L
one_side L d o l x k q =
    not_both d (sym l.side ∙ (sym (ap (λ (z : Order). z.direction) (live_same (opposite d) d L x o k l q)) ∙ k.side))

module _ (t : Terms) (L : Ledger) (tab : Contents) (inv : Inv t L tab) where
  pub not_against : (d : Direction) (o : Order) → Live d L o → NoneHas o.number (side (opposite d) tab.book)
  not_against d o l x m q = one_side L d o l x ((listing (inv.shown.sides (opposite d))).sound x m) q

  pub removed_is :
      (o : Order) → Live o.direction L o → held o.number tab.book ≡ true →
      removed o.number tab ≡ table_of tab o.direction (without o.number (side o.direction tab.book)) (side (opposite o.direction) tab.book)
  removed_is o l h =
      removed_sided tab o.direction o.number h
      (without_none o.number (side (opposite o.direction) tab.book)
      (none_numbered o.number (side (opposite o.direction) tab.book) (not_against o.direction o l)))

  withdraw_kept :
      (w : Withdrawal) (o : Order) → w.number ≡ o.number →
      Live o.direction L o →
      held o.number tab.book ≡ true →
      Good t L (Withdraw w) (outcome_of (withdraw (day_at L tab) o))
  withdraw_kept w o same l h =
      let d : Direction = o.direction in
      let n : ℕ = o.number in
      let x : Withdrawal = record w { number = n } in
      let M : Ledger = down n o.volume L in
      let old : List Order = side d tab.book in
      let own : List Order = without n old in
      let against : List Order = side (opposite d) tab.book in
      subst (λ i. Good t L (Withdraw (record w { number = i })) (outcome_of (withdraw (day_at L tab) o))) (sym same)
      (subst
      (λ (T : Contents).
      Kept t L (Withdraw x) (with_count (Withdrawn (record { volume = o.volume })) []) M []
      (record { stage = L.stage; tally = L.tally; table = T }))
      (sym (removed_is o l h))
      (record {
        upheld = record {
          each = tt;
          fixing = tt;
          answer = sym (ap (λ a. with_count (Withdrawn (record { volume = balance a })) []) l.account);
          shown =
              shown_of M d own against (gone d L o old l (listing (inv.shown.sides d)))
              (down_against d o.volume L o against l (listing (inv.shown.sides (opposite d))))
              (λ k x y m i. apart_of L tab.book inv.shown k d x y (without_in n old x m).0 i)
              (λ k x m. limit_of L tab.book inv.shown k d x (without_in n old x m).0)
              (λ k. limit_of L tab.book inv.shown k (opposite d));
        };
        opened = opened_lower t L.tally L.accounts inv.opened n o.volume;
        stage = refl;
        tally = refl;
        fits = fits_sided tab d own against (omega (arith, length-without n old, inv.fits d)) (inv.fits (opposite d));
      }))

  pub withdraw_good :
      (w : Withdrawal) (o : Order) → order_named w.number (day_at L tab) ≡ Some o →
      Good t L (Withdraw w) (outcome_of (withdraw (day_at L tab) o))
  withdraw_good w o e =
      let f = found_live L tab.book inv.shown w.number o e in
      let there : held o.number tab.book ≡ true = ap (λ k. held k tab.book) f.1 ∙ ap is_some e in
      withdraw_kept w o (sym f.1) f.0 there

-- An order that enters in Open ---------------------------------------------------------------------------------------------

-- like Good, for a ledger M after the call
abbrev pub GoodAt : Terms → Ledger → Call → Ledger → Outcome → Type 0
GoodAt t L c M (refused_by n) = Unit {0}
GoodAt t L c M (done day a slips) = Kept t L c a M slips day

pub good_from :
    (t : Terms) (L : Ledger) (c : Call) (M : Ledger) → ((a : Answer Told) → M ≡ feed t (feed_of c a) L) →
    (out : Outcome) → GoodAt t L c M out → Good t L c out
good_from t L c M e (refused_by n) h = tt
good_from t L c M e (done day a slips) h = subst (λ N. Kept t L c a N slips day) (e a) h

-- take an order out again
pub uninsert :
    (d : Direction) (L : Ledger) (o : Order) (own : List Order) →
    InRank d own →
    ((x : Order) → Member x own → x.number ≡ o.number → ⊥) →
    Listed d L (insert (before d) o own) →
    Exactly d (Besides o.number d L) own
uninsert d L o own s h ex =
    record {
      sorted = s;
      sound = λ x m. (ex.sound x (in_insert d o own x (inr m)), h x m);
      complete =
          λ x b.
          ⊎_elim (λ e. absurd (b.1 (ap (λ (z : Order). z.number) e))) (λ m. m)
          (insert_in d o own x (ex.complete x b.0));
    }

-- the order after its sweep, by whether it is a market order
after_sweep_as :
    (e : Order) (T : Contents) (s : Sweep) →
    after_sweep e T s ≡
    cond e.market
    (record {
      slips = s.slips ++ cond (eqb s.left 0) [] (Lapse e.number s.left ∷ []);
      traded = e.volume - s.left;
      held = 0;
      table = with_rest e.direction s.rest T;
    })
    (record { slips = s.slips; traded = e.volume - s.left; held = s.left; table = with_left e s.left (with_rest e.direction s.rest T) })
after_sweep_as e T s = go e.market (eqb s.left 0)
  where
    go :
        (m z : Bool) →
        ◌≡◌ {A = Execution}
        (record {
          slips = s.slips ++ cond (m && not z) (Lapse e.number s.left ∷ []) [];
          traded = e.volume - s.left;
          held = cond m 0 s.left;
          table = cond m (with_rest e.direction s.rest T) (with_left e s.left (with_rest e.direction s.rest T));
        })
        (cond m
        (record {
          slips = s.slips ++ cond z [] (Lapse e.number s.left ∷ []);
          traded = e.volume - s.left;
          held = 0;
          table = with_rest e.direction s.rest T;
        })
        (record { slips = s.slips; traded = e.volume - s.left; held = s.left; table = with_left e s.left (with_rest e.direction s.rest T) }))
    go true true = refl
    go true false = refl
    go false z =
        ap
        (λ (l : List Slip). record {
          slips = l;
          traded = e.volume - s.left;
          held = s.left;
          table = with_left e s.left (with_rest e.direction s.rest T);
        })
        (append-nil s.slips)

-- what is right of an order with the number n that entered, whatever call brought it: M is the ledger with its account and
-- before its slips
pub record Fair (m : Mode) (M : Ledger) (n : ℕ) (x : Execution) : Type 0 where
  pub each : Along (SlipRight m) M x.slips
  pub traded : x.traded ≡ traded x.slips
  pub held : x.held ≡ balance ((post_all x.slips M).accounts n)
  pub shown : Shown (post_all x.slips M) x.table.book
  pub fits : Fits x.table

module _ (M : Ledger) (tab : Contents) (e : Order) (own opp : List Order) (last : Entering M e)
    (sorted : InRank e.direction own) (new : NoneHas e.number own)
    (clear : (x y : Order) → Member x own → Member y opp → Apart e.direction x y)
    (own-limit : Limit own) (opp-limit : Limit opp)
    (room : length own < tab.capacity.places) (opp-fits : length opp ≤ tab.capacity.places) where
  abbrev d : Direction
  d = e.direction

  module _ (s : Sweep) (sw : SweptRight d e own M opp e.volume s) where
    -- what is left of the other side would not trade with the own side
    own_apart : (x y : Order) → Member x own → Member y s.rest → Apart d x y
    own_apart x y m n =
        let k = sw.kept y n in
        subst (λ p. willing (opposite d) p x.price ≡ false) k.2 (clear x k.0 m k.1)

    rest_limit : Limit s.rest
    rest_limit y n = let k = sw.kept y n in sym k.3 ∙ opp-limit k.0 k.1

    e_apart : 0 < s.left → (x y : Order) → Member x (insert (before d) (with_volume s.left e) own) → Member y s.rest → Apart d x y
    e_apart some x y i n =
        ⊎_elim (λ q. subst (λ (w : Order). Apart d w y) (sym q) (sw.apart some y n))
        (λ k. own_apart x y k n) (insert_in d (with_volume s.left e) own x i)

    stand_apart : (x y : Order) → Member x (stand d e s.left own) → Member y s.rest → Apart d x y
    stand_apart x y m n =
        cond_both _ _ _ (λ l. Member x l → Apart d x y)
        (λ _ i. own_apart x y i n)
        (λ z i. e_apart (pos s.left (eqb-false s.left 0 z)) x y i n) m

    stand_limit : e.market ≡ false → Limit (stand d e s.left own)
    stand_limit h x m =
        cond_both _ _ _ (λ l. Member x l → x.market ≡ false)
        (λ _ i. own-limit x i)
        (λ _ i.
        ⊎_elim (λ q. ap (λ (z : Order). z.market) q ∙ h) (λ k. own-limit x k) (insert_in d (with_volume s.left e) own x i)) m

    sum_left : e.volume - s.left ≡ traded s.slips
    sum_left = omega (arith, sw.sum)

    rest_fits : length s.rest ≤ tab.capacity.places
    rest_fits = omega (arith, sw.short, opp-fits)

    stand_fits : length (stand d e s.left own) ≤ tab.capacity.places
    stand_fits =
        cond_both (eqb s.left 0) own (insert (before d) (with_volume s.left e) own) (λ l. length l ≤ tab.capacity.places)
        (λ _. omega (arith, room))
        (λ _. omega (arith, room, length-insert (before d) (with_volume s.left e) own))

    -- the entering order's number is on neither side
    rest_new : eqb s.left 0 ≡ false → NoneHas e.number s.rest
    rest_new z y m q =
        let K : Ledger = post_all s.slips M in
        let o : Order = with_volume s.left e in
        let le : Listed d K (insert (before d) o own) =
        subst (Listed d K) (cond-false (eqb s.left 0) own (insert (before d) o own) z) sw.own_side
        in
        one_side K d o (le.sound o (in_insert d o own o (inl refl))) y (sw.against.sound y m) q

    -- the table with what is left of the entering order
    placed_is : with_left e s.left (with_rest e.direction s.rest (table_of tab e.direction own opp)) ≡ table_of tab e.direction (stand d e s.left own) s.rest
    placed_is =
        ap (with_left e s.left) (with_rest_table tab e.direction own opp s.rest) ∙
        ⊎_elim
        (λ z.
        cond-true (eqb s.left 0) (table_of tab e.direction own s.rest)
        (added (with_volume s.left e) (table_of tab e.direction own s.rest)) z ∙
        ap (λ xs. table_of tab e.direction xs s.rest)
        (sym (cond-true (eqb s.left 0) own (insert (before d) (with_volume s.left e) own) z)))
        (λ z.
        cond-false (eqb s.left 0) (table_of tab e.direction own s.rest)
        (added (with_volume s.left e) (table_of tab e.direction own s.rest)) z ∙
        (added_sided tab (with_volume s.left e) own s.rest
        (takes_sided tab (with_volume s.left e) own s.rest room new (rest_new z)) ∙
        ap (λ xs. table_of tab e.direction xs s.rest)
        (sym (cond-false (eqb s.left 0) own (insert (before d) (with_volume s.left e) own) z))))
        (cases_Bool (eqb s.left 0))

    limit_fair :
        e.market ≡ false →
        Fair continuous M e.number
        (record { slips = s.slips; traded = e.volume - s.left; held = s.left; table = table_of tab d (stand d e s.left own) s.rest })
    limit_fair h =
        record {
          each = sw.along;
          traded = sum_left;
          held = sym (ap balance sw.account);
          shown =
              shown_of (post_all s.slips M) d (stand d e s.left own) s.rest sw.own_side sw.against
              (λ _. stand_apart) (λ _. stand_limit h) (λ _. rest_limit);
          fits = fits_sided tab d (stand d e s.left own) s.rest stand_fits rest_fits;
        }

    more_fair :
        (ys : List Slip) →
        traded ys ≡ 0 →
        Along (SlipRight continuous) (post_all s.slips M) ys →
        Listed d (post_all ys (post_all s.slips M)) own →
        Listed (opposite d) (post_all ys (post_all s.slips M)) s.rest →
        balance ((post_all ys (post_all s.slips M)).accounts e.number) ≡ 0 →
        Fair continuous M e.number
        (record { slips = s.slips ++ ys; traded = e.volume - s.left; held = 0; table = table_of tab d own s.rest })
    more_fair ys none al lo la spent =
        record {
          each = along_append (SlipRight continuous) s.slips ys M sw.along al;
          traded = omega (arith, sum_left, traded_append s.slips ys, none);
          held = sym (ap (λ (K : Ledger). balance (K.accounts e.number)) (post_append s.slips ys M) ∙ spent);
          shown =
              subst (λ K. Shown K (sided d own s.rest)) (sym (post_append s.slips ys M))
              (shown_of (post_all ys (post_all s.slips M)) d own s.rest lo la
              (λ _. own_apart) (λ _. own-limit) (λ _. rest_limit));
          fits = fits_sided tab d own s.rest (omega (arith, room)) rest_fits;
        }

    -- nothing but the entering order is a market order
    e_turn :
        (K : Ledger) → Listed d K (insert (before d) (with_volume s.left e) own) → Listed (opposite d) K s.rest →
        InTurn IsMarket d K (with_volume s.left e)
    e_turn K lo la =
        record {
          ranks =
              λ x l mk.
              ⊎_elim inl (λ m. absurd (both_ways x.market (own-limit x m) mk))
              (insert_in d (with_volume s.left e) own x (lo.complete x l));
          buys_first =
              λ q x l mk. absurd (both_ways x.market (rest_limit x (la.complete x (subst (λ z. Live (opposite z) K x) (sym q) l))) mk);
        }

    lapse_fair :
        e.market ≡ true →
        0 < s.left →
        Listed d (post_all s.slips M) (insert (before d) (with_volume s.left e) own) →
        Fair continuous M e.number
        (record {
          slips = s.slips ++ (Lapse e.number s.left ∷ []);
          traded = e.volume - s.left;
          held = 0;
          table = table_of tab d own s.rest;
        })
    lapse_fair mk some le =
        let K : Ledger = post_all s.slips M in
        let o : Order = with_volume s.left e in
        let l : Live d K o = le.sound o (in_insert d o own o (inl refl)) in
        more_fair (Lapse e.number s.left ∷ []) (omega arith) (
          record {
            order = o;
            number = refl;
            live = record { account = l.account; balance = l.balance; side = refl };
            market = mk;
            whole = refl;
            stuck = uncrossed_of K d (insert (before d) o own) s.rest le sw.against (e_apart some);
            turn = subst (λ z. InTurn IsMarket z K o) (sym l.side) (e_turn K le sw.against);
            may = last ∙ sym (post_tally s.slips M);
          },
          tt,
        )
        (besides_close e.number K (down e.number s.left K) (down_off e.number s.left K) d own
        (uninsert d K o own sorted new le)
        (λ x k q.
        let v : x.volume ≡ s.left - s.left = ap (λ (z : Order). z.volume) (down_live d d s.left K o x l k q) in
        let b : 0 < x.volume = k.balance in
        omega arith))
        (down_against d s.left K o s.rest l sw.against)
        (ap balance (down_at e.number s.left K o l.account) ∙ omega arith)

    market_fair :
        e.market ≡ true →
        Fair continuous M e.number
        (record {
          slips = s.slips ++ cond (eqb s.left 0) [] (Lapse e.number s.left ∷ []);
          traded = e.volume - s.left;
          held = 0;
          table = table_of tab d own s.rest;
        })
    market_fair mk =
        cond_both _ _ _
        (λ ys.
        Fair continuous M e.number
        (record { slips = s.slips ++ ys; traded = e.volume - s.left; held = 0; table = table_of tab d own s.rest }))
        (λ z.
        more_fair [] refl tt
        (subst (Listed d (post_all s.slips M)) (cond-true (eqb s.left 0) own (insert (before d) (with_volume s.left e) own) z) sw.own_side)
        sw.against
        (ap balance sw.account ∙ eqb-true s.left 0 z))
        (λ z.
        lapse_fair mk (pos s.left (eqb-false s.left 0 z))
        (subst (Listed d (post_all s.slips M)) (cond-false (eqb s.left 0) own (insert (before d) (with_volume s.left e) own) z) sw.own_side))

  -- where orders trade
  pub trading_fair :
      0 < e.volume →
      M.accounts e.number ≡ Some e →
      Listed e.direction M (insert (before e.direction) e own) →
      Listed (opposite e.direction) M opp →
      Fair continuous M e.number (entry_trading e (table_of tab e.direction own opp))
  trading_fair some ac lo la =
      let s : Sweep = sweep d e.number e.price opp e.volume in
      let T : Contents = table_of tab d own opp in
      let start : Listed d M (stand d e e.volume own) =
      subst (Listed d M) (sym (cond-false (eqb e.volume 0) own (insert (before d) e own) (ne_eqb e.volume 0 (λ k. omega arith)))) lo
      in
      let sw : SweptRight d e own M opp e.volume s =
      sweep_right d e own opp e.volume M start la ac last clear
      in
      subst (λ xs. Fair continuous M e.number (after_sweep e T (sweep d e.number e.price xs e.volume))) (sym (side_against d own opp))
      (subst (Fair continuous M e.number) (sym (after_sweep_as e T s))
      (cond_both _ _ _ (Fair continuous M e.number)
      (λ mk.
      let more : List Slip = s.slips ++ cond (eqb s.left 0) [] (Lapse e.number s.left ∷ []) in
      subst
      (λ (X : Contents). Fair continuous M e.number (record { slips = more; traded = e.volume - s.left; held = 0; table = X }))
      (sym (with_rest_table tab e.direction own opp s.rest)) (market_fair s sw mk))
      (λ mk.
      subst
      (λ (X : Contents). Fair continuous M e.number (record { slips = s.slips; traded = e.volume - s.left; held = s.left; table = X }))
      (sym (placed_is s sw)) (limit_fair s sw mk))))

-- where nothing trades
resting_fair :
    (m : Mode) (M : Ledger) (tab : Contents) (e : Order) (own opp : List Order) →
    M.accounts e.number ≡ Some e →
    Listed e.direction M (insert (before e.direction) e own) →
    Listed (opposite e.direction) M opp →
    (IsSettled M.stage → (x y : Order) → Member x (insert (before e.direction) e own) → Member y opp → Apart e.direction x y) →
    (IsSettled M.stage → Limit (insert (before e.direction) e own)) →
    (IsSettled M.stage → Limit opp) →
    takes (table_of tab e.direction own opp) e ≡ true →
    length own < tab.capacity.places →
    length opp ≤ tab.capacity.places →
    Fair m M e.number (entry_resting e (table_of tab e.direction own opp))
resting_fair m M tab e own opp ac lo la gap f g taken room opp-fits =
    let d : Direction = e.direction in
    subst (λ (X : Contents). Fair m M e.number (record { slips = []; traded = 0; held = e.volume; table = X }))
    (sym (added_sided tab e own opp taken))
    (record {
      each = tt;
      traded = refl;
      held = sym (ap balance ac);
      shown = shown_of M d (insert (before d) e own) opp lo la gap f g;
      fits = fits_sided tab d (insert (before d) e own) opp (omega (arith, room, length-insert (before d) e own)) opp-fits;
    })

-- A call by which an order enters ------------------------------------------------------------------------------------------------

-- a reply is the answer that is due
abbrev pub Due : Ledger → Call → Ledger → ℕ → Telling → Type 0
Due L c M n reply =
    (m : Mode) (slips : List Slip) (sum held : ℕ) → sum ≡ traded slips → held ≡ balance ((post_all slips M).accounts n) →
    with_count (reply sum held) slips ≡ due_answer c m L slips (post_all slips M)

-- of the call c, after which M is the ledger
module _ (t : Terms) (L : Ledger) (c : Call) (M : Ledger) (n : ℕ) (reply : Telling) (owed : Due L c M n reply)
    (same : M.stage ≡ L.stage) (opened : AllOpened t M.tally M.accounts) where
  entry_kept :
      (m : Mode) (x : Execution) → mode L.stage c (price_of (with_count (reply x.traded x.held) x.slips)) ≡ m →
      FixingRight t L m x.slips → Fair m M n x →
      Kept t L c (with_count (reply x.traded x.held) x.slips) M x.slips
      (record { stage = L.stage; tally = M.tally; table = x.table })
  entry_kept m x at no-fixing f =
      let a : Answer Told = with_count (reply x.traded x.held) x.slips in
      record {
        upheld =
            subst (λ k. Upheld t L c a k M x.slips x.table.book) (sym at)
            (record {
              each = f.each;
              fixing = no-fixing;
              answer = owed m x.slips x.traded x.held f.traded f.held;
              shown = f.shown;
            });
        opened = opened_post t x.slips M opened;
        stage = sym (post_stage x.slips M ∙ same);
        tally = sym (post_tally x.slips M);
        fits = f.fits;
      }

-- dealing is no fixing
pub entry_mode_none : (t : Terms) (L : Ledger) (s : Stage) (slips : List Slip) → FixingRight t L (entry_mode s) slips
entry_mode_none t L PreOpen slips = tt
entry_mode_none t L Open slips = tt
entry_mode_none t L PreClose slips = tt
entry_mode_none t L Closed slips = tt

-- The ledger's words and the model's -----------------------------------------------------------------------------------------------

pub opening_is : (t : Terms) (n : ℕ) (e : NewOrder) → order_of t n e ≡ opening t n e
opening_is t n e = go e.direction e.limit
  where
    go :
        (d : Direction) (limit : Option ℕ) →
        order_of t n (record e { direction = d; limit = limit }) ≡ opening t n (record e { direction = d; limit = limit })
    go Buy None = refl
    go Sell None = refl
    go Buy (Some p) = refl
    go Sell (Some p) = refl

eqb_swap : (a b : ℕ) → eqb a b ≡ eqb b a
eqb_swap a b =
    ⊎_elim (λ e. eq-eqb a b e ∙ sym (eq-eqb b a (sym e))) (λ e. ne_eqb a b e ∙ sym (ne_eqb b a (λ k. e (sym k)))) (cases_eq a b)

renews_is : (a b : Bool) → (not a || b) ≡ cond a b true
renews_is true b = refl
renews_is false b = refl

pub takes_new_arrival_is : (a : Alteration) (o : Order) → takes_new_arrival a o ≡ renews a o
takes_new_arrival_is a o =
    ap (λ b. not b || ltb o.volume a.volume) (eqb_swap a.price o.price) ∙
    renews_is (eqb o.price a.price) (ltb o.volume a.volume)

-- what the model makes of an alter
abbrev pub alter_ledger : Alteration → Order → Ledger → Ledger
alter_ledger a o L =
    record {
      stage = L.stage;
      tally = alter_tally L.tally a o;
      accounts = put a.number (Some (altered_order L.tally a o)) L.accounts;
    }

alter_on :
    (a : Alteration) (o : Order) (L : Ledger) (b : Bool) → takes_new_arrival a o ≡ b →
    alter_ledger a o L ≡ cond b (renew a o L) (keep a o L)
alter_on a o L b e =
    ap
    (λ k.
    record {
      stage = L.stage;
      tally = cond k (suc L.tally) L.tally;
      accounts = put a.number (Some (rewritten a.price a.volume (cond k (suc L.tally) o.arrival) o)) L.accounts;
    }) e ∙
    at b
  where
    at :
        (k : Bool) →
        ◌≡◌ {A = Ledger}
        (record {
          stage = L.stage;
          tally = cond k (suc L.tally) L.tally;
          accounts = put a.number (Some (rewritten a.price a.volume (cond k (suc L.tally) o.arrival) o)) L.accounts;
        })
        (cond k (renew a o L) (keep a o L))
    at true = refl
    at false = refl

pub alter_is : (a : Alteration) (o : Order) (L : Ledger) → alter_ledger a o L ≡ alter_account a (Some o) L
alter_is a o L = alter_on a o L (renews a o) (takes_new_arrival_is a o)

-- Enter ------------------------------------------------------------------------------------------------------------------------

pub in_band : (t : Terms) (p : ℕ) → within t.lo t.hi p ≡ true → (t.lo ≤ p) × (p ≤ t.hi)
in_band t p e = (grind (arith, nat_tests), grind (arith, nat_tests))

pub band_price :
    (t : Terms) (d : Direction) (limit : Option ℕ) → beyond_band t limit ≡ false →
    (t.lo ≤ limit_price t d limit) × (limit_price t d limit ≤ t.hi)
band_price t Buy None e = (omega (arith, t.low, t.high), omega arith)
band_price t Sell None e = (omega arith, omega (arith, t.low, t.high))
band_price t Buy (Some p) e = in_band t p (not-false (within t.lo t.hi p) e)
band_price t Sell (Some p) e = in_band t p (not-false (within t.lo t.hi p) e)

pub some_volume : (block v : ℕ) → is_volume block v ≡ true → 0 < v
some_volume block v e = grind (arith, nat_tests)

module _ (t : Terms) (L : Ledger) (tab : Contents) (inv : Inv t L tab) where
  -- one account set, on one side
  module _ (M : Ledger) (d : Direction) (e : Order) (off : Off e.number L M) (l : Live d M e)
      (against-old : Dead e.number (opposite d) L) where
    put_own : Listed d M (insert (before d) e (without e.number (side d tab.book)))
    put_own =
        besides_insert e.number L M off d (without e.number (side d tab.book))
        (besides_without e.number d L (side d tab.book) (listing (inv.shown.sides d))) e l refl

    put_new : Dead e.number d L → Listed d M (insert (before d) e (side d tab.book))
    put_new h =
        besides_insert e.number L M off d (side d tab.book)
        (besides_none e.number d L (side d tab.book) h (listing (inv.shown.sides d))) e l refl

    put_against : Listed (opposite d) M (side (opposite d) tab.book)
    put_against =
        besides_close e.number L M off (opposite d) (side (opposite d) tab.book)
        (besides_none e.number (opposite d) L (side (opposite d) tab.book) against-old (listing (inv.shown.sides (opposite d))))
        (one_side M d e l)

  pub none_next : (d : Direction) → Dead (suc L.tally) d L
  none_next d x l q = let b : x.number ≤ L.tally = (inv.opened x.number x l.account).below in omega arith

  pub enter_good :
      (e : NewOrder) (room : ℕ) → Enters t (day_at L tab) e room → Good t L (Enter e) (outcome_of (enter t (day_at L tab) e))
  enter_good new room k =
      let c : Call = Enter new in
      let n : ℕ = suc L.tally in
      let e : Order = order_of t n new in
      let d : Direction = e.direction in
      let M : Ledger = record { stage = L.stage; tally = n; accounts = put n (Some e) L.accounts } in
      let own : List Order = side d tab.book in
      let opp : List Order = side (opposite d) tab.book in
      let T : Contents = table_of tab d own opp in
      let whole : T ≡ tab = ap (holding tab) (sided_same d tab.book) in
      let place : length own < tab.capacity.places = k.place in
      let taken : takes T e ≡ true =
      takes_sided tab e own opp place
      (λ x m. none_next d x ((listing (inv.shown.sides d)).sound x m))
      (λ x m. none_next (opposite d) x ((listing (inv.shown.sides (opposite d))).sound x m))
      in
      let off : Off n L M = λ m k. put_other n (Some e) L.accounts m k in
      let some : 0 < e.volume = some_volume t.block new.volume k.whole in
      let l : Live d M e = record { account = put_same n (Some e) L.accounts; balance = some; side = refl } in
      let lo : Listed d M (insert (before d) e own) = put_new M d e off l (none_next (opposite d)) (none_next d) in
      let la : Listed (opposite d) M opp = put_against M d e off l (none_next (opposite d)) in
      let op : AllOpened t n M.accounts =
      opened_put t n L.accounts (opened_more t L.tally L.accounts inv.opened n (omega arith)) n (Some e)
      (λ o q.
      let r : e ≡ o = cc in
      let bp = band_price t d new.limit k.inside in
      subst (Opened t n n) r (record { number = refl; above = omega arith; below = omega arith; low = bp.0; high = bp.1 }))
      in
      let ac : M.accounts n ≡ Some e = put_same n (Some e) L.accounts in
      let owed : Due L c M n (enter_reply n) = λ m slips sum kept p q i. with_count (enter_reply n (p i) (q i)) slips in
      let kept = entry_kept t L c M n (enter_reply n) owed refl op in
      good_from t L c M
      (λ a i. record { stage = L.stage; tally = n; accounts = put n (Some (opening_is t n new i)) L.accounts })
      (outcome_of (enter t (day_at L tab) new))
      (subst (λ (X : Contents). GoodAt t L c M (outcome_of (enter_order (day_at L X) e))) whole
      (cond_both _ _ _
      (λ (a : Execution). GoodAt t L c M (outcome_of (made_by_entry (day_at L T) n (enter_reply n) a)))
      (λ is-o.
      let trading : L.stage ≡ Open = is_open_true L.stage is-o in
      let calm : IsSettled L.stage = settled_open L.stage trading in
      kept continuous (entry_trading e T) (ap entry_mode trading) tt
      (trading_fair M tab e own opp refl (listing (inv.shown.sides d)).sorted
      (λ x m. none_next d x ((listing (inv.shown.sides d)).sound x m))
      (apart_of L tab.book inv.shown calm d) (limit_of L tab.book inv.shown calm d)
      (limit_of L tab.book inv.shown calm (opposite d)) place (inv.fits (opposite d)) some ac lo la))
      (λ not-o.
      kept (entry_mode L.stage) (entry_resting e T) refl (entry_mode_none t L L.stage [])
      (resting_fair (entry_mode L.stage) M tab e own opp ac lo la
      (λ h. absurd (unsettled L.stage not-o k.closed h)) (λ h. absurd (unsettled L.stage not-o k.closed h))
      (λ h. absurd (unsettled L.stage not-o k.closed h)) taken place (inv.fits (opposite d))))))

  -- Alter ------------------------------------------------------------------------------------------------------------------------

  alter_kept :
      (a : Alteration) (o : Order) (room : ℕ) →
      a.number ≡ o.number →
      Live o.direction L o →
      held o.number tab.book ≡ true →
      Alters t (day_at L tab) a room o →
      Good t L (Alter a) (outcome_of (alter (day_at L tab) a o))
  alter_kept a o room named-so l there rows =
      let n : ℕ = o.number in
      let x : Alteration = record a { number = n } in
      let c : Call = Alter x in
      let d : Direction = o.direction in
      let tally : ℕ = alter_tally L.tally a o in
      let e : Order = altered_order L.tally a o in
      let M : Ledger = alter_ledger x o L in
      let old : List Order = side d tab.book in
      let own : List Order = without n old in
      let opp : List Order = side (opposite d) tab.book in
      let T : Contents = table_of tab d own opp in
      let off : Off n L M = λ m k. put_other n (Some e) L.accounts m k in
      let some : 0 < e.volume = some_volume t.block a.volume rows.whole in
      let le : Live d M e = record { account = put_same n (Some e) L.accounts; balance = some; side = refl } in
      let lo : Listed d M (insert (before d) e own) = put_own M d e off le (one_side L d o l) in
      let la : Listed (opposite d) M opp = put_against M d e off le (one_side L d o l) in
      let more : L.tally ≤ tally =
      cond_both (takes_new_arrival a o) (suc L.tally) L.tally (λ k. L.tally ≤ k) (λ _. omega arith) (λ _. omega arith)
      in
      let op : AllOpened t tally M.accounts =
      opened_put t tally L.accounts (opened_more t L.tally L.accounts inv.opened tally more) n (Some e)
      (λ y q.
      let r : e ≡ y = cc in
      let k : Opened t L.tally n o = inv.opened n o l.account in
      let bp = band_price t d (Some a.price) rows.inside in
      subst (Opened t tally n) r (record { number = refl; above = k.above; below = omega (arith, more, k.below); low = bp.0; high = bp.1 }))
      in
      let place : length own < tab.capacity.places =
      omega (arith, length-without n old, times_some n old o ((listing (inv.shown.sides d)).complete o l) refl, inv.fits d)
      in
      let fresh : NoneHas n own = λ y m. (without_in n old y m).1 in
      let taken : takes T e ≡ true = takes_sided tab e own opp place fresh (not_against t L tab inv d o l) in
      let clear : IsSettled L.stage → (y z : Order) → Member y own → Member z opp → Apart d y z =
      λ k y z m i. apart_of L tab.book inv.shown k d y z (without_in n old y m).0 i
      in
      let limits : IsSettled L.stage → Limit own =
      λ k y m. limit_of L tab.book inv.shown k d y (without_in n old y m).0
      in
      let ac : M.accounts n ≡ Some e = put_same n (Some e) L.accounts in
      let owed : Due L c M n alter_reply = λ m slips sum kept p q i. with_count (alter_reply (p i) (q i)) slips in
      let kept = entry_kept t L c M n alter_reply owed refl op in
      subst (λ i. Good t L (Alter (record a { number = i })) (outcome_of (alter (day_at L tab) a o))) (sym named-so)
      (good_from t L c M (λ _. alter_is x o L ∙ sym (ap (λ y. alter_account x y L) l.account))
      (outcome_of (alter (day_at L tab) a o))
      (subst
      (λ (X : Contents).
      GoodAt t L c M
      (outcome_of (made_by_entry (day_at L tab) tally alter_reply (entry_of (trades_again L.stage a o) e X))))
      (sym (removed_is t L tab inv o l there))
      (cond_both _ _ _
      (λ (y : Execution). GoodAt t L c M (outcome_of (made_by_entry (day_at L tab) tally alter_reply y)))
      (λ h.
      let both = and_parts (is_open L.stage) (not (eqb a.price o.price)) h in
      let trading : L.stage ≡ Open = is_open_true L.stage both.0 in
      let calm : IsSettled L.stage = settled_open L.stage trading in
      let moved : takes_new_arrival a o ≡ true = ap (λ b. b || ltb o.volume a.volume) both.1 in
      let last : Entering M e =
      ap (λ b. cond b (suc L.tally) o.arrival) moved ∙ sym (ap (λ b. cond b (suc L.tally) L.tally) moved)
      in
      kept continuous (entry_trading e T) (ap entry_mode trading) tt
      (trading_fair M tab e own opp last
      (besides_without n d L old (listing (inv.shown.sides d))).sorted fresh
      (clear calm) (limits calm) (limit_of L tab.book inv.shown calm (opposite d)) place (inv.fits (opposite d))
      some ac lo la))
      (λ h.
      kept (entry_mode L.stage) (entry_resting e T) refl (entry_mode_none t L L.stage [])
      (resting_fair (entry_mode L.stage) M tab e own opp ac lo la
      (λ k y z m i.
      ⊎_elim
      (λ q.
      ⊎_elim (λ not-o. absurd (unsettled L.stage not-o rows.closed k))
      (λ same.
      let p : a.price ≡ o.price = eqb-true a.price o.price (not-false (eqb a.price o.price) same) in
      subst (λ (w : Order). Apart d w z) (sym q)
      (subst (λ v. willing (opposite d) z.price v ≡ false) (sym p)
      (apart_of L tab.book inv.shown k d o z ((listing (inv.shown.sides d)).complete o l) i)))
      (and_cases (is_open L.stage) (not (eqb a.price o.price)) h))
      (λ j. clear k y z j i) (insert_in d e own y m))
      (λ k y m. ⊎_elim (λ q. ap (λ (z : Order). z.market) q ∙ rows.limit) (λ j. limits k y j) (insert_in d e own y m))
      (λ k. limit_of L tab.book inv.shown k (opposite d)) taken place (inv.fits (opposite d)))))))

  pub alter_good :
      (a : Alteration) (o : Order) (room : ℕ) → Alters t (day_at L tab) a room o →
      Good t L (Alter a) (outcome_of (alter (day_at L tab) a o))
  alter_good a o room k =
      let f = found_live L tab.book inv.shown a.number o k.found in
      let there : held o.number tab.book ≡ true = ap (λ i. held i tab.book) f.1 ∙ ap is_some k.found in
      alter_kept a o room (sym f.1) f.0 there k

-- Advance, and the law.
use Rattle.std.proofs.Common.{◌≡◌, ℕ, ◌≤◌, List, [], ◌∷◌, ◌++◌, Some, None, Option, sym, refl, ap, ◌∙◌, subst, arith, true, false}
use Rattle.std.proofs.lemmas.Bool.{cond-true, cond-false, both_ways}
use Rattle.rules.specs.declared.order.Direction.{Direction}
use Rattle.rules.specs.declared.order.Direction.TheVariants.{Buy, Sell}
use Rattle.book.specs.declared.stage.Stage.{Stage}
use Rattle.book.specs.declared.stage.Stage.TheVariants.{PreOpen, Open, PreClose, Closed}
use Rattle.rules.specs.declared.order.Order.{Order}
use Rattle.rules.specs.declared.terms.Terms.{Terms}
use Rattle.book.specs.declared.slip.Slip.{Slip}
use Rattle.book.specs.declared.call.Call.{Call}
use Rattle.book.specs.declared.call.Call.TheVariants.{Advance}
use Rattle.book.specs.declared.answer.Answer.{Answer}
use Rattle.book.specs.declared.answer.Told.{Told}
use Rattle.book.specs.Counts.{with_count}
use Rattle.book.specs.Stages.{next, is_closed, strikes}
use Rattle.book.specs.Ledger.{Ledger, following, new_ledger, Live, Uncrossed, live_book, at_stage, post_all, traded}
use Rattle.book.specs.Calls.{refused_by, done, turnover, Outcome, step, outcome_of, advance, pass_on, strike, fixing_price, match_at, Pairing, lapses, limit_orders}
use Rattle.book.specs.Day.{Day, new_day}
use Rattle.book.specs.Law.{fixing_at, strike_mode, SlipRight, GreatestFixing, PriceRight, IsSettled, Shown, Upheld, Try, book_keeping, ledger, Lawful, Law}
use Rattle.book.specs.Model.{day_after, result, day_after_tries, model}
use Rattle.book.specs.declared.answer.Told.TheVariants.{Advanced}
use Rattle.rules.specs.Book.{side}
use Rattle.tables.specs.Meaning.{Capacity, Contents, Fits, book_of, empty}
use Rattle.book.proofs.Gate.{of_step}
use Rattle.book.proofs.Members.{listing, listed, Member, Exactly}
use Rattle.book.proofs.Ranks.{exactly_as}
use Rattle.book.proofs.Trades.{Listed}
use Rattle.book.proofs.Accounts.{not_both}
use Rattle.book.proofs.Sided.{fits_sided}
use Rattle.book.proofs.Kept.{sides_of, Opened, Inv, day_at, Good, limit_live, post_stage, post_tally, post_append, along_append, opened_post}
use Rattle.book.proofs.Calls.{withdraw_good, enter_good, alter_good}
use Rattle.book.proofs.Strike.{PairedRight, match_right, Limited, side_lapses, limit_orders_limit, turnover-traded, uncrossed_lapses, traded_append, traded-lapses}
use Rattle.rules.specs.Allotment.{Allotment, Idle}
use Rattle.rules.specs.Curve.{tradable, surplus}
use Rattle.rules.proofs.Allots.{allotment_bound, allotment_most}
use Rattle.book.proofs.Depths.{tradable_is, surplus_is}
use Rattle.book.proofs.Fixing.{match_short, limit_orders_short, Price, Sane, fixing_right, most_traded, left_apart}

-- the accounts are the same
pub live_as : (d : Direction) (L M : Ledger) → M.accounts ≡ L.accounts → (o : Order) → Live d L o → Live d M o
live_as d L M e o l =
    record { account = ap (λ f. f o.number) e ∙ l.account; balance = l.balance; side = l.side }

pub listed_as : (d : Direction) (L M : Ledger) → M.accounts ≡ L.accounts → (xs : List Order) → Listed d L xs → Listed d M xs
listed_as d L M e xs ex = exactly_as d (Live d L) xs ex (Live d M) (live_as d L M e) (live_as d M L (sym e))

-- the ledger's stages are the model's
next_is : (s : Stage) → next s ≡ following s
next_is PreOpen = refl
next_is Open = refl
next_is PreClose = refl
next_is Closed = refl

module _ (t : Terms) (L : Ledger) (tab : Contents) (inv : Inv t L tab) where
  abbrev buys : List Order
  buys = tab.book.buys

  abbrev sells : List Order
  sells = tab.book.sells

  sane : (d : Direction) (xs : List Order) → Listed d L xs → (x : Order) → Member x xs → Sane t x
  sane d xs ex x m =
      let l : Live d L x = ex.sound x m in
      let k : Opened t L.tally x.number x = inv.opened x.number x l.account in
      record { low = k.low; high = k.high; volume = l.balance }

  slips : List Slip
  slips =
      (match_at (fixing_price t tab.book) buys sells).slips ++
      (lapses (match_at (fixing_price t tab.book) buys sells).buys ++
      lapses (match_at (fixing_price t tab.book) buys sells).sells)

  slips_traded : traded slips ≡ traded (match_at (fixing_price t tab.book) buys sells).slips
  unfolding slips
  slips_traded =
      let p : Pairing = match_at (fixing_price t tab.book) buys sells in
      omega (
        arith,
        traded_append p.slips (lapses p.buys ++ lapses p.sells),
        traded_append (lapses p.buys) (lapses p.sells),
        traded-lapses p.buys,
        traded-lapses p.sells,
      )

  -- the ledger's live orders and the lists can trade the same
  same_tradable : (p : ℕ) → tradable (live_book L) p ≡ tradable tab.book p
  same_tradable = tradable_is t L inv.opened buys sells (listing (inv.shown.sides Buy)) (listing (inv.shown.sides Sell))

  same_surplus : (p : ℕ) → surplus (live_book L) p ≡ surplus tab.book p
  same_surplus = surplus_is t L inv.opened buys sells (listing (inv.shown.sides Buy)) (listing (inv.shown.sides Sell))

  most : (p v : ℕ) → t.lo ≤ p → p ≤ t.hi → Allotment (live_book L) p v → v ≤ traded slips
  most p v lo hi a =
      let x = allotment_bound (live_book L) p v a in
      let y =
      most_traded t buys sells (listing (inv.shown.sides Buy)).sorted (listing (inv.shown.sides Sell)).sorted (sane Buy buys (listing (inv.shown.sides Buy)))
      (sane Sell sells (listing (inv.shown.sides Sell))) p lo hi
      in
      omega (arith, x, y, same_tradable p, slips_traded)

  greatest : GreatestFixing t L (fixing_price t tab.book) slips
  greatest =
      record {
        most = most;
        nothing =
            λ e p v lo hi a.
            let z : traded (match_at (fixing_price t tab.book) buys sells).slips ≡ 0 =
            ap (λ q. traded (match_at q buys sells).slips) e
            in
            omega (arith, most p v lo hi a, slips_traded);
        without = λ h. on h (fixing_price t tab.book) (fixing_right t tab.book);
      }
    where
      on : Idle t.lo t.hi (live_book L) → (q : Option ℕ) → Price t tab.book q → q ≡ None
      on h None k = refl
      on h (Some p) k =
          let a = h p (tradable (live_book L) p) k.0.low k.0.high (allotment_most (live_book L) p) in
          absurd (omega (arith, k.1, a, same_tradable p))

  price_right : (q : Option ℕ) → Price t tab.book q → PriceRight t L q
  price_right None k = tt
  price_right (Some P) k =
      record {
        low = k.0.low;
        high = k.0.high;
        greatest = λ q lo hi. omega (arith, same_tradable q, same_tradable P, k.0.greatest q lo hi);
        smallest =
            λ q lo hi same.
            omega (arith, same_surplus q, same_surplus P, k.0.smallest q lo hi (sym (same_tradable q) ∙ (same ∙ same_tradable P)));
        nearest =
            λ q lo hi same also.
            k.0.nearest q lo hi (sym (same_tradable q) ∙ (same ∙ same_tradable P)) (sym (same_surplus q) ∙ (also ∙ same_surplus P));
      }

  strike_kept :
      ((price : Option ℕ) → strike_mode L.stage price ≡ fixing_at price) → Good t L Advance (outcome_of (strike t (day_at L tab)))
  unfolding slips
  strike_kept st =
      let price : Option ℕ = fixing_price t tab.book in
      let p : Pairing = match_at price buys sells in
      let c : Call = Advance in
      let a : Answer Told = with_count (Advanced (record { stage = next L.stage; price = price; traded = turnover slips })) slips in
      let M : Ledger = at_stage (following L.stage) L in
      let pr : PairedRight price M p =
      match_right price price refl buys sells M (listed_as Buy L M refl buys (listing (inv.shown.sides Buy)))
      (listed_as Sell L M refl sells (listing (inv.shown.sides Sell)))
      in
      let N : Ledger = post_all p.slips M in
      let un : Uncrossed N =
      λ b s x y.
      left_apart t buys sells (listing (inv.shown.sides Buy)).sorted (listing (inv.shown.sides Sell)).sorted (sane Buy buys (listing (inv.shown.sides Buy)))
      (sane Sell sells (listing (inv.shown.sides Sell))) b s (pr.buy_side.complete b x) (pr.sell_side.complete s y)
      in
      let lb : Limited price Buy N p.buys p.sells =
      side_lapses price Buy p.buys p.sells N pr.buy_side pr.sell_side un (λ e. absurd (not_both Buy e))
      in
      let O : Ledger = post_all (lapses p.buys) N in
      let ls : Limited price Sell O p.sells (limit_orders p.buys) =
      side_lapses price Sell p.sells (limit_orders p.buys) O lb.against lb.own_side (uncrossed_lapses p.buys N un)
      (λ _ x l. limit_orders_limit price p.buys x (lb.own_side.complete x l))
      in
      let Q : Ledger = post_all (lapses p.sells) O in
      let end : post_all slips M ≡ Q =
      post_append p.slips (lapses p.buys ++ lapses p.sells) M ∙ post_append (lapses p.buys) (lapses p.sells) N
      in
      record {
        upheld =
            subst (λ m. Upheld t L c a m M slips (book_of (limit_orders p.buys) (limit_orders p.sells))) (sym (st price))
            (record {
              each =
                  along_append (SlipRight (fixing_at price)) p.slips (lapses p.buys ++ lapses p.sells) M pr.along
                  (along_append (SlipRight (fixing_at price)) (lapses p.buys) (lapses p.sells) N lb.along ls.along);
              fixing = (greatest, price_right price (fixing_right t tab.book));
              answer =
                  ap (λ s. with_count (Advanced (record { stage = s; price = price; traded = turnover slips })) slips) (next_is L.stage) ∙
                  ap (λ v. with_count (Advanced (record { stage = following L.stage; price = price; traded = v })) slips)
                  (turnover-traded slips);
              shown =
                  subst (λ K. Shown K (book_of (limit_orders p.buys) (limit_orders p.sells))) (sym end)
                  (record {
                    sides = λ e. listed (sides_of Q Buy (limit_orders p.buys) (limit_orders p.sells) ls.against ls.own_side e);
                    gap = λ _. uncrossed_lapses p.sells O (uncrossed_lapses p.buys N un);
                    limit =
                        λ _.
                        limit_live Q Buy (limit_orders p.buys) (limit_orders p.sells) ls.against ls.own_side
                        (limit_orders_limit price p.buys) (limit_orders_limit price p.sells);
                  });
            });
        opened = opened_post t slips M inv.opened;
        stage = next_is L.stage ∙ sym (post_stage slips M);
        tally = sym (post_tally slips M);
        fits =
            (let k = match_short price buys sells in
            fits_sided tab Buy (limit_orders p.buys) (limit_orders p.sells) (omega (arith, k.0, limit_orders_short p.buys, inv.fits Buy))
            (omega (arith, k.1, limit_orders_short p.sells, inv.fits Sell)));
      }

-- Each call, each history -------------------------------------------------------------------------------------------------------

-- with no strike only the stage moves
passed_on : (t : Terms) (L : Ledger) → L.stage ≡ Open → (tab : Contents) → Inv t L tab → Good t L Advance (outcome_of (pass_on (day_at L tab)))
passed_on t L e tab inv =
    let M : Ledger = at_stage (following L.stage) L in
    let at : following L.stage ≡ PreClose = ap following e in
    let a : Answer Told = with_count (Advanced (record { stage = next L.stage; price = None; traded = 0 })) [] in
    record {
      upheld =
          subst (λ m. Upheld t L Advance a m M [] tab.book) (sym (ap (λ s. strike_mode s None) e))
          (record {
            each = tt;
            fixing = tt;
            answer = ap (λ s. with_count (Advanced (record { stage = s; price = None; traded = 0 })) []) (next_is L.stage);
            shown =
                record {
                  sides = λ d. listed (listed_as d L M refl (side d tab.book) (listing (inv.shown.sides d)));
                  gap = λ k. absurd (subst IsSettled at k);
                  limit = λ k. absurd (subst IsSettled at k);
                };
          });
      opened = inv.opened;
      stage = next_is L.stage;
      tally = refl;
      fits = inv.fits;
    }

advance_good : (t : Terms) (L : Ledger) (tab : Contents) → Inv t L tab → is_closed L.stage ≡ false → Good t L Advance (outcome_of (advance t (day_at L tab)))
advance_good t L tab inv not-closed = on L.stage refl not-closed
  where
    struck_on : (s : Stage) → L.stage ≡ s → strikes s ≡ true → ((price : Option ℕ) → strike_mode s price ≡ fixing_at price) → Good t L Advance (outcome_of (advance t (day_at L tab)))
    struck_on s e h st =
        subst (λ m. Good t L Advance (outcome_of m)) (sym (cond-true (strikes L.stage) _ _ (ap strikes e ∙ h)))
        (strike_kept t L tab inv (λ price. ap (λ s. strike_mode s price) e ∙ st price))

    on : (s : Stage) → L.stage ≡ s → is_closed L.stage ≡ false → Good t L Advance (outcome_of (advance t (day_at L tab)))
    on PreOpen e h = struck_on PreOpen e refl (λ price. refl)
    on Open e h =
        subst (λ m. Good t L Advance (outcome_of m)) (sym (cond-false (strikes L.stage) _ _ (ap strikes e))) (passed_on t L e tab inv)
    on PreClose e h = struck_on PreClose e refl (λ price. refl)
    on Closed e h = absurd (both_ways (is_closed L.stage) h (ap is_closed e))

pub step_good :
    (t : Terms) (L : Ledger) (tab : Contents) → Inv t L tab → (c : Call) (room : ℕ) →
    Good t L c (step t (day_at L tab) c room)
step_good t L tab inv c room =
    of_step t (day_at L tab) room (Good t L)
    (record {
      refused = λ c n. tt;
      enters = λ e k. enter_good t L tab inv e room k;
      alters = λ a o k. alter_good t L tab inv a o room k;
      withdraws = λ w o e. withdraw_good t L tab inv w o e;
      advances = λ k. advance_good t L tab inv k.closed;
    }) c

-- the session and its ledger agree
pub record Agrees (t : Terms) (L : Ledger) (day : Day) : Type 0 where
  pub day_is : day ≡ day_at L day.table
  pub inv : Inv t L day.table

pub start_agrees : (t : Terms) (cap : Capacity) → Agrees t new_ledger (new_day cap)
start_agrees t cap =
    record {
      day_is = refl;
      inv =
          record {
            shown =
                record {
                  sides = λ d. listed (nothing d);
                  gap = λ k. absurd k;
                  limit = λ k. absurd k;
                };
            opened = λ n o e. absurd (none_some o e);
            fits = none;
          };
    }
  where
    none_some : (o : Order) → ◌≡◌ {A = Option Order} None (Some o) → ⊥
    none_some o e = let z : ◌≡◌ {A = ℕ} 0 1 = cc in omega arith

    never : {d : Direction} {o : Order} → Live d new_ledger o → ⊥
    never {d} {o} l = none_some o l.account

    nothing : (d : Direction) → Exactly d (Live d new_ledger) (side d empty)
    nothing Buy = record { sorted = refl; sound = λ o m. absurd m; complete = λ o l. never l }
    nothing Sell = record { sorted = refl; sound = λ o m. absurd m; complete = λ o l. never l }

    none : Fits (new_day cap).table
    none Buy = omega arith
    none Sell = omega arith

module _ (t : Terms) where
  pub good : (L : Ledger) (day : Day) → Agrees t L day → (c : Call) (room : ℕ) → Good t L c (step t day c room)
  good L day g c room =
      subst (λ d. Good t L c (step t d c room)) (sym g.day_is) (step_good t L day.table g.inv c room)

  pub after_agrees :
      (L : Ledger) (day : Day) (c : Call) (out : Outcome) → Agrees t L day → Good t L c out →
      Agrees t (book_keeping t c (result out) L) (day_after day out)
  after_agrees L day c (refused_by n) g h = g
  after_agrees L day c (done after a ss) g h =
      record {
        day_is = λ i. record { stage = h.stage i; tally = h.tally i; table = after.table };
        inv = record { shown = h.upheld.shown; opened = h.opened; fits = h.fits };
      }

  pub lawful :
      (L : Ledger) (day : Day) (c : Call) (out : Outcome) → Agrees t L day → Good t L c out →
      Lawful t L c (result out) (day_after day out).table.book
  lawful L day c (refused_by n) g h = g.inv.shown
  lawful L day c (done after a ss) g h = h.upheld

  pub history_agrees : (cap : Capacity) (past : List Try) → Agrees t (ledger model t cap past) (day_after_tries step t cap past)
  history_agrees cap [] = start_agrees t cap
  history_agrees cap (x ∷ past) =
      let day : Day = day_after_tries step t cap past in
      let L : Ledger = ledger model t cap past in
      let g : Agrees t L day = history_agrees cap past in
      after_agrees L day x.call (step t day x.call x.room) g (good L day g x.call x.room)

pub law : Law model
law t cap past x =
    let day : Day = day_after_tries step t cap past in
    let L : Ledger = ledger model t cap past in
    let g : Agrees t L day = history_agrees t cap past in
    lawful t L day x.call (step t day x.call x.room) g (good t L day g x.call x.room)

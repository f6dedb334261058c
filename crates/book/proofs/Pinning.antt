-- Two lawful engines that refuse the same tries answer the same.
use Rattle.std.proofs.Common.{◌≡◌, ℕ, false, ◌⊎◌, List, [], ◌∷◌, Some, None, Option, sym, refl, ap, ◌∙◌, subst, inl, inr, ⊎_elim, arith}
use Rattle.std.proofs.lemmas.Bool.{leb-true, both_ways}
use Rattle.rules.specs.declared.order.Direction.{Direction}
use Rattle.rules.specs.declared.order.Direction.TheVariants.{Buy, Sell}
use Rattle.book.specs.declared.stage.Stage.{Stage}
use Rattle.book.specs.declared.stage.Stage.TheVariants.{PreOpen, Open, PreClose, Closed}
use Rattle.rules.specs.declared.order.Order.{Order}
use Rattle.rules.specs.declared.terms.Terms.{Terms}
use Rattle.book.specs.declared.slip.Slip.{Slip}
use Rattle.book.specs.declared.slip.Slip.TheVariants.{Trade, Lapse}
use Rattle.book.specs.declared.call.Call.{Call}
use Rattle.book.specs.declared.call.Call.TheVariants.{Enter, Alter, Withdraw, Advance}
use Rattle.book.specs.declared.answer.Answer.{Answer}
use Rattle.book.specs.declared.answer.Told.{Told}
use Rattle.tables.specs.Meaning.{Capacity}
use Rattle.book.specs.Ledger.{live_book, following, Ledger, Live, First, Uncrossed, withdrawal, feed, post, post_all, Along}
use Rattle.rules.proofs.Steps.{one_price}
use Rattle.rules.specs.Book.{Book}
use Rattle.book.specs.Law.{IsMarket, Try, Verdict, refused, accepted, Came, Engine, Law, Lawful, Upheld, Shown, IsSettled, Mode, fixing_at, continuous, quiet, mode, strike_mode, entry_mode, price_of, volume_withdrawn, feed_of, due_answer, book_keeping, ledger, Priced, TradeRight, LapseRight, InTurn, SlipRight, GreatestFixing, PriceRight, FixingRight}
use Rattle.book.specs.Pinned.{refusal, SameRefusals, Pinned}
use Rattle.book.proofs.Members.{listing}
use Rattle.book.proofs.Ranks.{before_irrefl, before_trans}
use Rattle.book.proofs.Accounts.{not_both}
use Rattle.book.proofs.Kept.{post_stage, stage_followed, feed_stage}
use Rattle.book.proofs.Split.{exactly_unique}
use Rattle.book.proofs.Arrivals.{Arrivals, arrivals, arrivals_feed, arrivals_post, arrival_one}

-- The fixing price ------------------------------------------------------------------------------------------------------------

module _ (t : Terms) (L : Ledger) where
  price_one :
      (p q : Option ℕ) (xs ys : List Slip) → GreatestFixing t L p xs → GreatestFixing t L q ys → PriceRight t L p → PriceRight t L q → p ≡ q
  price_one None None xs ys a b f g = refl
  price_one None (Some Q) xs ys a b f g = sym (b.without (a.nothing refl))
  price_one (Some P) None xs ys a b f g = a.without (b.nothing refl)
  price_one (Some P) (Some Q) xs ys a b f g = ap Some (one_price t.reference t.lo t.hi (live_book L) t.low t.high P Q f g)

  strike_mode_one :
      (s : Stage) (p q : Option ℕ) (xs ys : List Slip) → FixingRight t L (strike_mode s p) xs → FixingRight t L (strike_mode s q) ys →
      strike_mode s p ≡ strike_mode s q
  strike_mode_one PreOpen p q xs ys a b = ap fixing_at (price_one p q xs ys a.0 b.0 a.1 b.1)
  strike_mode_one Open p q xs ys a b = refl
  strike_mode_one PreClose p q xs ys a b = ap fixing_at (price_one p q xs ys a.0 b.0 a.1 b.1)
  strike_mode_one Closed p q xs ys a b = refl

  mode_one :
      (c : Call) (p q : Option ℕ) (xs ys : List Slip) → FixingRight t L (mode L.stage c p) xs →
      FixingRight t L (mode L.stage c q) ys → mode L.stage c p ≡ mode L.stage c q
  mode_one Advance p q xs ys a b = strike_mode_one L.stage p q xs ys a b
  mode_one _ p q xs ys a b = refl

-- The slips ---------------------------------------------------------------------------------------------------------------------

first_one : (d : Direction) (L : Ledger) (x y : Order) → First d L x → First d L y → x ≡ y
first_one d L x y f g =
    ⊎_elim (λ e. sym e)
    (λ b. ⊎_elim (λ e. e) (λ c. absurd (before_irrefl d x (before_trans d x y x b c))) (g.first x f.live))
    (f.first y g.live)

-- what trades crosses
crosses : (m : Mode) (L : Ledger) (b s q v : ℕ) → TradeRight m L b s q v → Uncrossed L → ⊥
crosses m L b s q v r un =
    omega (
      arith,
      leb-true q r.buy.price r.buy_willing,
      leb-true r.sell.price q r.sell_willing,
      un r.buy r.sell r.buy_first.live r.sell_first.live,
    )

trade_price :
    (m : Mode) (L : Ledger) → Arrivals L → (b s : Order) (p q : ℕ) → Live Buy L b → Live Sell L s → Priced m L b s p → Priced m L b s q → p ≡ q
trade_price (fixing_at price) L a b s p q lb ls x y = let z : Some p ≡ Some q = sym x ∙ y in cc
trade_price continuous L a b s p q lb ls (inl x) (inl y) = x.1 ∙ sym y.1
trade_price continuous L a b s p q lb ls (inl x) (inr y) =
    absurd (not_both Buy (sym lb.side ∙ (ap (λ (z : Order). z.direction) (arrival_one L a Buy Sell b s lb ls (x.0 ∙ sym y.0)) ∙ ls.side)))
trade_price continuous L a b s p q lb ls (inr x) (inl y) =
    absurd (not_both Buy (sym lb.side ∙ (ap (λ (z : Order). z.direction) (arrival_one L a Buy Sell b s lb ls (y.0 ∙ sym x.0)) ∙ ls.side)))
trade_price continuous L a b s p q lb ls (inr x) (inr y) = x.1 ∙ sym y.1
trade_price quiet L a b s p q lb ls x y = absurd x

trade_one :
    (m : Mode) (L : Ledger) → Arrivals L → (b s q v b' s' q' v' : ℕ) → TradeRight m L b s q v → TradeRight m L b' s' q' v' →
    Trade b s q v ≡ Trade b' s' q' v'
trade_one m L a b s q v b' s' q' v' r k =
    let eb : k.buy ≡ r.buy = first_one Buy L k.buy r.buy k.buy_first r.buy_first in
    let es : k.sell ≡ r.sell = first_one Sell L k.sell r.sell k.sell_first r.sell_first in
    let x : b ≡ b' = sym r.buy_number ∙ (sym (ap (λ (z : Order). z.number) eb) ∙ k.buy_number) in
    let y : s ≡ s' = sym r.sell_number ∙ (sym (ap (λ (z : Order). z.number) es) ∙ k.sell_number) in
    let w : v ≡ v' =
    omega (arith, r.volume, k.volume, ap (λ (z : Order). z.volume) eb, ap (λ (z : Order). z.volume) es)
    in
    let P : Order → Order → Type 0 = λ o z. Priced m L o z q' in
    let p : q ≡ q' =
    trade_price m L a r.buy r.sell q q' r.buy_first.live r.sell_first.live r.price
    (subst (λ z. P r.buy z) es (subst (λ o. P o k.sell) eb k.price))
    in
    λ i. Trade (x i) (y i) (p i) (w i)

-- two that are P, each in its turn, are one
turn_one :
    (P : Order → Type 0) (d e : Direction) (L : Ledger) (x y : Order) → Live d L x → Live e L y → P x → P y →
    InTurn P d L x → InTurn P e L y → x ≡ y
turn_one P Buy Buy L x y lx ly mx my tx ty =
    ⊎_elim (λ q. sym q)
    (λ b. ⊎_elim (λ q. q) (λ c. absurd (before_irrefl Buy x (before_trans Buy x y x b c))) (ty.ranks x lx mx)) (tx.ranks y ly my)
turn_one P Buy Sell L x y lx ly mx my tx ty = absurd (ty.buys_first refl x lx mx)
turn_one P Sell Buy L x y lx ly mx my tx ty = absurd (tx.buys_first refl y ly my)
turn_one P Sell Sell L x y lx ly mx my tx ty =
    ⊎_elim (λ q. sym q)
    (λ b. ⊎_elim (λ q. q) (λ c. absurd (before_irrefl Sell x (before_trans Sell x y x b c))) (ty.ranks x lx mx)) (tx.ranks y ly my)

lapse_one : (m : Mode) (L : Ledger) (n v n' v' : ℕ) → LapseRight m L n v → LapseRight m L n' v' → Lapse n v ≡ Lapse n' v'
lapse_one m L n v n' v' r k =
    let e : r.order ≡ k.order =
    turn_one IsMarket r.order.direction k.order.direction L r.order k.order r.live k.live r.market k.market r.turn k.turn
    in
    let x : n ≡ n' = sym r.number ∙ (ap (λ (z : Order). z.number) e ∙ k.number) in
    let w : v ≡ v' = r.whole ∙ (ap (λ (z : Order). z.volume) e ∙ sym k.whole) in
    λ i. Lapse (x i) (w i)

slip_one : (m : Mode) (L : Ledger) → Arrivals L → (x y : Slip) → SlipRight m L x → SlipRight m L y → x ≡ y
slip_one m L a (Trade b s q v) (Trade b' s' q' v') r k = trade_one m L a b s q v b' s' q' v' r k
slip_one m L a (Trade b s q v) (Lapse n w) r k = absurd (crosses m L b s q v r k.stuck)
slip_one m L a (Lapse n w) (Trade b s q v) r k = absurd (crosses m L b s q v k r.stuck)
slip_one m L a (Lapse n v) (Lapse n' v') r k = lapse_one m L n v n' v' r k

-- nothing is left to do
record DoneWith (L : Ledger) : Type 0 where
  gap : Uncrossed L
  limit : (d : Direction) (o : Order) → Live d L o → o.market ≡ false

no_slip : (m : Mode) (L : Ledger) → DoneWith L → (x : Slip) → SlipRight m L x → ⊥
no_slip m L h (Trade b s q v) r = crosses m L b s q v r h.gap
no_slip m L h (Lapse n v) r = both_ways r.order.market (h.limit r.order.direction r.order r.live) r.market

slips_one :
    (m : Mode) (L : Ledger) → Arrivals L → (xs ys : List Slip) → Along (SlipRight m) L xs → Along (SlipRight m) L ys →
    DoneWith (post_all xs L) → DoneWith (post_all ys L) → xs ≡ ys
slips_one m L a [] [] h k f g = refl
slips_one m L a [] (y ∷ ys) h k f g = absurd (no_slip m L f y k.0)
slips_one m L a (x ∷ xs) [] h k f g = absurd (no_slip m L g x h.0)
slips_one m L a (x ∷ xs) (y ∷ ys) h k f g =
    let e : y ≡ x = slip_one m L a y x k.0 h.0 in
    let ih : xs ≡ ys =
    slips_one m (post x L) (arrivals_post x L a) xs ys h.1 (subst (λ z. Along (SlipRight m) (post z L) ys) e k.1) f
    (subst (λ z. DoneWith (post_all ys (post z L))) e g)
    in
    λ i. sym e i ∷ ih i

quiet_none : (L : Ledger) (xs : List Slip) → Along (SlipRight quiet) L xs → xs ≡ []
quiet_none L [] h = refl
quiet_none L (Trade b s q v ∷ xs) h = absurd h.0.price
quiet_none L (Lapse n v ∷ xs) h = absurd h.0.may

-- One call ------------------------------------------------------------------------------------------------------------------------

entry_mode_busy : (s : Stage) → (entry_mode s ≡ quiet) ⊎ IsSettled s
entry_mode_busy PreOpen = inl refl
entry_mode_busy Open = inr tt
entry_mode_busy PreClose = inl refl
entry_mode_busy Closed = inl refl

strike_mode_busy : (s : Stage) (p : Option ℕ) → (strike_mode s p ≡ quiet) ⊎ IsSettled (following s)
strike_mode_busy PreOpen p = inr tt
strike_mode_busy Open p = inl refl
strike_mode_busy PreClose p = inr tt
strike_mode_busy Closed p = inl refl

-- where slips are written, the stage after them is settled
busy_after : (s : Stage) (c : Call) (p : Option ℕ) → (mode s c p ≡ quiet) ⊎ IsSettled (stage_followed s c)
busy_after s (Enter e) p = entry_mode_busy s
busy_after s (Alter a) p = entry_mode_busy s
busy_after s Advance p = strike_mode_busy s p
busy_after s _ p = inl refl

busy : (t : Terms) (L : Ledger) (c : Call) (a : Answer Told) (p : Option ℕ) → (mode L.stage c p ≡ quiet) ⊎ IsSettled (feed t (feed_of c a) L).stage
busy t L c a p = subst (λ s. (mode L.stage c p ≡ quiet) ⊎ IsSettled s) (sym (feed_stage t c a L)) (busy_after L.stage c p)

fed_one :
    (c : Call) (m m' : Mode) (L : Ledger) (a a' : Answer Told) (xs ys : List Slip) (N N' : Ledger) → a ≡ due_answer c m L xs N → a' ≡ due_answer c m' L ys N' →
    feed_of c a ≡ feed_of c a'
fed_one (Withdraw w) m m' L a a' xs ys N N' e f =
    ap (withdrawal w.number) (ap (λ (x : Answer Told). volume_withdrawn x.told) e ∙ sym (ap (λ (x : Answer Told). volume_withdrawn x.told) f))
fed_one _ m m' L a a' xs ys N N' e f = refl

done_with : (slips : List Slip) (M : Ledger) (b : Book) → IsSettled M.stage → Shown (post_all slips M) b → DoneWith (post_all slips M)
done_with slips M b k s =
    let j : IsSettled (post_all slips M).stage = subst IsSettled (sym (post_stage slips M)) k in
    record { gap = s.gap j; limit = s.limit j }

-- one ledger shows as one book
book_one : (L : Ledger) (b b' : Book) → Shown L b → Shown L b' → b ≡ b'
book_one L b b' s k =
    let x : b.buys ≡ b'.buys = exactly_unique Buy b.buys b'.buys (Live Buy L) (listing (s.sides Buy)) (listing (k.sides Buy)) in
    let y : b.sells ≡ b'.sells = exactly_unique Sell b.sells b'.sells (Live Sell L) (listing (s.sides Sell)) (listing (k.sides Sell)) in
    λ i. record { buys = x i; sells = y i }

-- the same slips, the same answer and the same book
record Same (a a' : Answer Told) (xs ys : List Slip) (b b' : Book) : Type 0 where
  answer : a ≡ a'
  slips : xs ≡ ys
  book : b ≡ b'

same_from :
    (t : Terms) (L : Ledger) (c : Call) (a a' : Answer Told) (m : Mode) (M : Ledger) (xs ys : List Slip) (b b' : Book) →
    xs ≡ ys → Upheld t L c a m M xs b → Upheld t L c a' m M ys b' → Same a a' xs ys b b'
same_from t L c a a' m M xs ys b b' e u w =
    let s : Shown (post_all xs M) b' = subst (λ z. Shown (post_all z M) b') (sym e) w.shown in
    record {
      answer = u.answer ∙ (ap (λ z. due_answer c m L z (post_all z M)) e ∙ sym w.answer);
      slips = e;
      book = book_one (post_all xs M) b b' u.shown s;
    }

call_one :
    (t : Terms) (L : Ledger) → Arrivals L → (c : Call) (a a' : Answer Told) (xs ys : List Slip) (b b' : Book) →
    Lawful t L c (accepted a xs) b → Lawful t L c (accepted a' ys) b' → Same a a' xs ys b b'
call_one t L ar c a a' xs ys b b' u w =
    let m : Mode = mode L.stage c (price_of a) in
    let M : Ledger = feed t (feed_of c a) L in
    let em : mode L.stage c (price_of a') ≡ m = mode_one t L c (price_of a') (price_of a) ys xs w.fixing u.fixing in
    let ef : feed t (feed_of c a') L ≡ M =
    ap (λ f. feed t f L)
    (fed_one c (mode L.stage c (price_of a')) m L a' a ys xs (post_all ys (feed t (feed_of c a') L)) (post_all xs M) w.answer u.answer)
    in
    let w' : Upheld t L c a' m M ys b' =
    subst (λ K. Upheld t L c a' m K ys b') ef (subst (λ z. Upheld t L c a' z (feed t (feed_of c a') L) ys b') em w)
    in
    let e : xs ≡ ys =
    ⊎_elim
    (λ q.
    quiet_none M xs (subst (λ z. Along (SlipRight z) M xs) q u.each) ∙
    sym (quiet_none M ys (subst (λ z. Along (SlipRight z) M ys) q w'.each)))
    (λ k.
    slips_one m M (arrivals_feed t (feed_of c a) L ar) xs ys u.each w'.each (done_with xs M b k u.shown)
    (done_with ys M b' k w'.shown))
    (busy t L c a (price_of a))
    in
    same_from t L c a a' m M xs ys b b' e u w'

-- Engines ---------------------------------------------------------------------------------------------------------------------------

came_one :
    (t : Terms) (L : Ledger) → Arrivals L → (c : Call) (r r' : Verdict) (b b' : Book) → refusal r ≡ refusal r' →
    Lawful t L c r b → Lawful t L c r' b' →
    ◌≡◌ {A = Came} (record { result = r; book = b }) (record { result = r'; book = b' })
came_one t L ar c (refused n) (refused n') b b' e u w =
    let q : n ≡ n' = cc in
    let s : b ≡ b' = book_one L b b' u w in
    λ i. record { result = refused (q i); book = s i }
came_one t L ar c (refused n) (accepted a xs) b b' e u w = let z : ◌≡◌ {A = ℕ} 0 1 = cc in absurd (omega arith)
came_one t L ar c (accepted a xs) (refused n) b b' e u w = let z : ◌≡◌ {A = ℕ} 0 1 = cc in absurd (omega arith)
came_one t L ar c (accepted a xs) (accepted a' ys) b b' e u w =
    let s = call_one t L ar c a a' xs ys b b' u w in
    λ i. record { result = accepted (s.answer i) (s.slips i); book = s.book i }

module _ (e f : Engine) (le : Law e) (lf : Law f) (same : SameRefusals e f) (t : Terms) (cap : Capacity) where
  came_at : (past : List Try) → ledger f t cap past ≡ ledger e t cap past → (x : Try) → e t cap past x ≡ f t cap past x
  came_at past q x =
      let a : Came = e t cap past x in
      let b : Came = f t cap past x in
      came_one t (ledger e t cap past) (arrivals e t cap past) x.call a.result b.result a.book b.book
      (same t cap past x) (le t cap past x)
      (subst (λ L. Lawful t L x.call b.result b.book) q (lf t cap past x))

  ledgers : (past : List Try) → ledger f t cap past ≡ ledger e t cap past
  ledgers [] = refl
  ledgers (x ∷ past) =
      let q : ledger f t cap past ≡ ledger e t cap past = ledgers past in
      let r : e t cap past x ≡ f t cap past x = came_at past q x in
      λ i. book_keeping t x.call (sym r i).result (q i)

pub pinned : Pinned
pinned e f le lf same t cap past x = came_at e f le lf same t cap past (ledgers e f le lf same t cap past) x

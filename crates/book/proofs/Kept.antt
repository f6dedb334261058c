-- What every call keeps.
use Rattle.std.proofs.Common.{◌≡◌, ℕ, ◌-◌, ◌<◌, ◌≤◌, true, false, List, [], ◌∷◌, ◌++◌, Some, None, Option, sym, refl, ap, ◌∙◌, subst, inl, inr, ⊎_elim, arith}
use Rattle.std.proofs.lemmas.Bool.{cond_both, cases_eq, leb-false, lt-leb, eqb-true}
use Rattle.rules.specs.declared.order.Direction.{Direction}
use Rattle.rules.specs.declared.order.Direction.TheVariants.{Buy, Sell}
use Rattle.book.specs.declared.stage.Stage.{Stage}
use Rattle.book.specs.declared.stage.Stage.TheVariants.{PreOpen, Open, PreClose, Closed}
use Rattle.rules.specs.declared.order.Order.{Order}
use Rattle.rules.specs.declared.terms.Terms.{Terms}
use Rattle.book.specs.declared.slip.Slip.{Slip}
use Rattle.book.specs.declared.slip.Slip.TheVariants.{Trade, Lapse}
use Rattle.book.specs.declared.call.Alteration.{Alteration}
use Rattle.book.specs.declared.call.Call.{Call}
use Rattle.book.specs.declared.call.Call.TheVariants.{Alter, Advance}
use Rattle.book.specs.declared.answer.Answer.{Answer}
use Rattle.book.specs.declared.answer.Told.{Told}
use Rattle.book.proofs.Members.{listing, listed, Member}
use Rattle.rules.specs.Side.{opposite, willing}
use Rattle.tables.specs.Listing.{with_volume}
use Rattle.book.specs.Ledger.{Accounts, Ledger, Live, Uncrossed, put, lowered, lower, following, renews, renew, keep, alter_account, feed, post, post_all, Along}
use Rattle.book.specs.Stages.{is_open, is_closed}
use Rattle.book.specs.Day.{Day}
use Rattle.book.specs.Calls.{Outcome, refused_by, done}
use Rattle.book.specs.Law.{mode, price_of, feed_of, IsSettled, Shown, Upheld}
use Rattle.std.specs.List.{find}
use Rattle.std.specs.Option.{option_or}
use Rattle.rules.specs.Book.{Book, side}
use Rattle.tables.specs.Listing.{numbered}
use Rattle.tables.specs.Meaning.{Contents, Fits, lookup}
use Rattle.book.proofs.Sided.{sided}
use Rattle.book.proofs.Accounts.{put_same, put_other}
use Rattle.book.proofs.Trades.{Listed}

-- an account: its number, given before now, and its price, within the band
pub record Opened (t : Terms) (tally n : ℕ) (o : Order) : Type 0 where
  pub number : o.number ≡ n
  pub above : 0 < n
  pub below : n ≤ tally
  pub low : t.lo ≤ o.price
  pub high : o.price ≤ t.hi

abbrev pub AllOpened : Terms → ℕ → Accounts → Type 0
AllOpened t tally f = (n : ℕ) (o : Order) → f n ≡ Some o → Opened t tally n o

-- the invariant: beside the ledger L stands this table
pub record Inv (t : Terms) (L : Ledger) (table : Contents) : Type 0 where
  pub shown : Shown L table.book
  pub opened : AllOpened t L.tally L.accounts
  pub fits : Fits table

-- the session's state, as far as it is the ledger's
abbrev pub day_at : Ledger → Contents → Day
day_at L table = record { stage = L.stage; tally = L.tally; table = table }

-- an accepted call: L is the ledger before it, M that after the call and before its slips
pub record Kept (t : Terms) (L : Ledger) (c : Call) (a : Answer Told) (M : Ledger) (slips : List Slip) (day : Day) : Type 0 where
  pub upheld : Upheld t L c a (mode L.stage c (price_of a)) M slips day.table.book
  pub opened : AllOpened t (post_all slips M).tally (post_all slips M).accounts
  pub stage : day.stage ≡ (post_all slips M).stage
  pub tally : day.tally ≡ (post_all slips M).tally
  pub fits : Fits day.table

abbrev pub Good : Terms → Ledger → Call → Outcome → Type 0
Good t L c (refused_by n) = Unit {0}
Good t L c (done day a slips) = Kept t L c a (feed t (feed_of c a) L) slips day

-- Slips change accounts only ----------------------------------------------------------------------------------------------

pub post_stage : (ss : List Slip) (L : Ledger) → (post_all ss L).stage ≡ L.stage
post_stage [] L = refl
post_stage (Trade b s q v ∷ ss) L = post_stage ss (post (Trade b s q v) L)
post_stage (Lapse n v ∷ ss) L = post_stage ss (post (Lapse n v) L)

-- the stage after an accepted call
abbrev pub stage_followed : Stage → Call → Stage
stage_followed stage Advance = following stage
stage_followed stage _ = stage

alter_stage : (a : Alteration) (x : Option Order) (L : Ledger) → (alter_account a x L).stage ≡ L.stage
alter_stage a None L = refl
alter_stage a (Some o) L = cond_both (renews a o) (renew a o L) (keep a o L) (λ M. M.stage ≡ L.stage) (λ _. refl) (λ _. refl)

pub feed_stage : (t : Terms) (c : Call) (a : Answer Told) (L : Ledger) → (feed t (feed_of c a) L).stage ≡ stage_followed L.stage c
feed_stage t (Alter x) a L = alter_stage x (L.accounts x.number) L
feed_stage t _ a L = refl

pub post_tally : (ss : List Slip) (L : Ledger) → (post_all ss L).tally ≡ L.tally
post_tally [] L = refl
post_tally (Trade b s q v ∷ ss) L = post_tally ss (post (Trade b s q v) L)
post_tally (Lapse n v ∷ ss) L = post_tally ss (post (Lapse n v) L)

pub post_append : (xs ys : List Slip) (L : Ledger) → post_all (xs ++ ys) L ≡ post_all ys (post_all xs L)
post_append [] ys L = refl
post_append (x ∷ xs) ys L = post_append xs ys (post x L)

pub along_append :
    (P : Ledger → Slip → Type 0) (xs ys : List Slip) (L : Ledger) →
    Along P L xs →
    Along P (post_all xs L) ys →
    Along P L (xs ++ ys)
along_append P [] ys L a b = b
along_append P (x ∷ xs) ys L a b = (a.0, along_append P xs ys (post x L) a.1 b)

-- Opened accounts --------------------------------------------------------------------------------------------------------

module _ (t : Terms) (tally : ℕ) (f : Accounts) (h : AllOpened t tally f) where
  pub opened_put : (n : ℕ) (a : Option Order) → ((o : Order) → a ≡ Some o → Opened t tally n o) → AllOpened t tally (put n a f)
  opened_put n a k m o e =
      ⊎_elim
      (λ q.
      let g : a ≡ Some o = sym (put_same n a f) ∙ (ap (put n a f) (sym q) ∙ e) in
      subst (λ i. Opened t tally i o) (sym q) (k o g))
      (λ q. h m o (sym (put_other n a f m q) ∙ e)) (cases_eq m n)

  lowered_opened : (n v : ℕ) (x : Option Order) → f n ≡ x → (o : Order) → lowered v x ≡ Some o → Opened t tally n o
  lowered_opened n v None q o e = let z : ◌≡◌ {A = ℕ} 0 1 = cc in absurd (omega arith)
  lowered_opened n v (Some p) q o e =
      let r : with_volume (p.volume - v) p ≡ o = cc in
      let k : Opened t tally n p = h n p q in
      subst (Opened t tally n) r (record { number = k.number; above = k.above; below = k.below; low = k.low; high = k.high })

  pub opened_lower : (n v : ℕ) → AllOpened t tally (lower n v f)
  opened_lower n v = opened_put n (lowered v (f n)) (lowered_opened n v (f n) refl)

  pub opened_more : (more : ℕ) → tally ≤ more → AllOpened t more f
  opened_more more le n o e =
      let k : Opened t tally n o = h n o e in
      record { number = k.number; above = k.above; below = omega arith; low = k.low; high = k.high }

pub opened_post : (t : Terms) (ss : List Slip) (L : Ledger) → AllOpened t L.tally L.accounts → AllOpened t (post_all ss L).tally (post_all ss L).accounts
opened_post t [] L h = h
opened_post t (Trade b s q v ∷ ss) L h =
    opened_post t ss (post (Trade b s q v) L)
    (opened_lower t L.tally (lower b v L.accounts) (opened_lower t L.tally L.accounts h b v) s v)
opened_post t (Lapse n v ∷ ss) L h = opened_post t ss (post (Lapse n v) L) (opened_lower t L.tally L.accounts h n v)

-- The two sides ----------------------------------------------------------------------------------------------------------

-- orders of two sides that would not trade with each other
abbrev pub Apart : Direction → Order → Order → Type 0
Apart d x y = willing (opposite d) y.price x.price ≡ false

pub apart_of :
    (L : Ledger) (b : Book) → Shown L b → IsSettled L.stage → (d : Direction) (x y : Order) →
    Member x (side d b) → Member y (side (opposite d) b) → Apart d x y
apart_of L b s k Buy x y m n = lt-leb y.price x.price (s.gap k x y ((listing (s.sides Buy)).sound x m) ((listing (s.sides Sell)).sound y n))
apart_of L b s k Sell x y m n = lt-leb x.price y.price (s.gap k y x ((listing (s.sides Buy)).sound y n) ((listing (s.sides Sell)).sound x m))

pub limit_of :
    (L : Ledger) (b : Book) → Shown L b → IsSettled L.stage → (d : Direction) (x : Order) → Member x (side d b) → x.market ≡ false
limit_of L b s k d x m = s.limit k d x ((listing (s.sides d)).sound x m)

pub uncrossed_of :
    (L : Ledger) (d : Direction) (own against : List Order) → Listed d L own → Listed (opposite d) L against →
    ((x y : Order) → Member x own → Member y against → Apart d x y) → Uncrossed L
uncrossed_of L Buy own against lo la h b s x y = leb-false s.price b.price (h b s (lo.complete b x) (la.complete s y))
uncrossed_of L Sell own against lo la h b s x y = leb-false s.price b.price (h s b (lo.complete s y) (la.complete b x))

-- no market order
abbrev pub Limit : List Order → Type 0
Limit xs = (x : Order) → Member x xs → x.market ≡ false

pub limit_live :
    (L : Ledger) (d : Direction) (own against : List Order) → Listed d L own → Listed (opposite d) L against →
    Limit own → Limit against → (e : Direction) (o : Order) → Live e L o → o.market ≡ false
limit_live L Buy own against lo la h k Buy o l = h o (lo.complete o l)
limit_live L Buy own against lo la h k Sell o l = k o (la.complete o l)
limit_live L Sell own against lo la h k Buy o l = k o (la.complete o l)
limit_live L Sell own against lo la h k Sell o l = h o (lo.complete o l)

pub sides_of : (L : Ledger) (d : Direction) (own against : List Order) → Listed d L own → Listed (opposite d) L against → (e : Direction) → Listed e L (side e (sided d own against))
sides_of L Buy own against lo la Buy = lo
sides_of L Buy own against lo la Sell = la
sides_of L Sell own against lo la Buy = la
sides_of L Sell own against lo la Sell = lo

pub shown_of :
    (L : Ledger) (d : Direction) (own against : List Order) →
    Listed d L own →
    Listed (opposite d) L against →
    (IsSettled L.stage → (x y : Order) → Member x own → Member y against → Apart d x y) →
    (IsSettled L.stage → Limit own) →
    (IsSettled L.stage → Limit against) →
    Shown L (sided d own against)
shown_of L d own against lo la h f g =
    record {
      sides = λ e. listed (sides_of L d own against lo la e);
      gap = λ k. uncrossed_of L d own against lo la (h k);
      limit = λ k. limit_live L d own against lo la (f k) (g k);
    }

pub unsettled : (s : Stage) → is_open s ≡ false → is_closed s ≡ false → IsSettled s → ⊥
unsettled PreOpen a b k = k
unsettled Open a b k = let z : ◌≡◌ {A = ℕ} 0 1 = cc in omega arith
unsettled PreClose a b k = k
unsettled Closed a b k = let z : ◌≡◌ {A = ℕ} 0 1 = cc in omega arith

pub is_open_true : (s : Stage) → is_open s ≡ true → s ≡ Open
is_open_true PreOpen e = cc
is_open_true Open e = refl
is_open_true PreClose e = cc
is_open_true Closed e = cc

pub settled_open : (s : Stage) → s ≡ Open → IsSettled s
settled_open s e = subst IsSettled (sym e) tt

-- An order by its number ----------------------------------------------------------------------------------------------------

pub find_in : (n : ℕ) (xs : List Order) (o : Order) → find (numbered n) xs ≡ Some o → Member o xs × (o.number ≡ n)
find_in n [] o e = let z : ◌≡◌ {A = ℕ} 0 1 = cc in absurd (omega arith)
find_in n (x ∷ xs) o e =
    cond_both (numbered n x) (Some x) (find (numbered n) xs) (λ r. r ≡ Some o → Member o (x ∷ xs) × (o.number ≡ n))
    (λ k q.
    let s : x ≡ o = cc in
    (inl (sym s), sym (ap (λ (z : Order). z.number) s) ∙ eqb-true x.number n k))
    (λ k q. let r = find_in n xs o q in (inr r.0, r.1)) e

pub found_live :
    (L : Ledger) (b : Book) → Shown L b → (n : ℕ) (o : Order) → lookup n b ≡ Some o →
    Live o.direction L o × (o.number ≡ n)
found_live L b s n o e = go (find (numbered n) b.buys) refl e
  where
    at : (d : Direction) → Live d L o → Live o.direction L o
    at d l = record { account = l.account; balance = l.balance; side = refl }

    go : (r : Option Order) → find (numbered n) b.buys ≡ r → option_or r (find (numbered n) b.sells) ≡ Some o → Live o.direction L o × (o.number ≡ n)
    go None q k = let r = find_in n b.sells o k in (at Sell ((listing (s.sides Sell)).sound o r.0), r.1)
    go (Some p) q k = let r = find_in n b.buys o (q ∙ k) in (at Buy ((listing (s.sides Buy)).sound o r.0), r.1)

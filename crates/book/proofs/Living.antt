-- The book of the live orders holds exactly the live orders.
use Rattle.std.proofs.Common.{◌≡◌, ℕ, zero, suc, ◌-◌, ◌<◌, ◌≤◌, Bool, true, false, ◌&&◌, ltb, ◌⊎◌, List, [], ◌∷◌, Contains, Some, None, Option, sym, refl, ap, ◌∙◌, subst, inl, inr, ⊎_elim, arith}
use Rattle.std.proofs.lemmas.Bool.{cond_both, cases_eq, ltb-true, lt-ltb}
use Rattle.rules.specs.Book.{side}
use Rattle.rules.specs.Side.{same}
use Rattle.rules.specs.declared.order.Direction.{Direction}
use Rattle.rules.specs.declared.order.Direction.TheVariants.{Buy, Sell}
use Rattle.rules.specs.declared.order.Order.{Order}
use Rattle.rules.specs.declared.terms.Terms.{Terms}
use Rattle.book.specs.declared.call.Alteration.{Alteration}
use Rattle.book.specs.declared.call.Call.{Call}
use Rattle.book.specs.declared.slip.Slip.{Slip}
use Rattle.book.specs.declared.slip.Slip.TheVariants.{Trade, Lapse}
use Rattle.tables.specs.Meaning.{Capacity}
use Rattle.book.specs.Ledger.{Accounts, Ledger, Live, put, lowered, lower, rewritten, renews, renew, keep, opening, alter_account, Feed, entry, alteration, withdrawal, progress, feed, post, post_all, with_live, live_upto, live_book}
use Rattle.book.specs.Law.{Try, Verdict, refused, accepted, Engine, feed_of, book_keeping, ledger}
use Rattle.book.specs.LiveOrders.{LiveBookIsLive}
use Rattle.book.proofs.Arrivals.{put_cases}
use Rattle.book.proofs.Depths.{same_itself}
use Rattle.book.proofs.Members.{Member, member_of, contains_of}

-- Numbers -----------------------------------------------------------------------------------------------------------------

-- an account is an order of its own number, which has been given
record Numbered (tally n : ℕ) (o : Order) : Type 0 where
  number : o.number ≡ n
  above : 0 < n
  below : n ≤ tally

abbrev AllNumbered : ℕ → Accounts → Type 0
AllNumbered tally f = (n : ℕ) (o : Order) → f n ≡ Some o → Numbered tally n o

none_some : (o : Order) → ◌≡◌ {A = Option Order} None (Some o) → ⊥
none_some o e = let z : ◌≡◌ {A = ℕ} 0 1 = cc in omega arith

numbered_put :
    (tally n : ℕ) (a : Option Order) (f : Accounts) → ((o : Order) → a ≡ Some o → Numbered tally n o) → AllNumbered tally f →
    AllNumbered tally (put n a f)
numbered_put tally n a f k h m o e =
    ⊎_elim (λ q. subst (λ i. Numbered tally i o) (sym q.0) (k o q.1)) (λ q. h m o q.1) (put_cases n a f m o e)

numbered_more : (tally more : ℕ) (f : Accounts) → tally ≤ more → AllNumbered tally f → AllNumbered more f
numbered_more tally more f le h n o e =
    let k : Numbered tally n o = h n o e in
    record { number = k.number; above = k.above; below = omega (arith, le, k.below) }

-- an account set to the order with another price, balance and arrival
numbered_rewritten :
    (tally n price volume arrival : ℕ) (p : Order) → Numbered tally n p → (o : Order) →
    ◌≡◌ {A = Option Order} (Some (rewritten price volume arrival p)) (Some o) → Numbered tally n o
numbered_rewritten tally n price volume arrival p k o e =
    let r : rewritten price volume arrival p ≡ o = cc in
    record { number = sym (ap (λ (z : Order). z.number) r) ∙ k.number; above = k.above; below = k.below }

numbered_fall : (tally n v : ℕ) (f : Accounts) → AllNumbered tally f → AllNumbered tally (lower n v f)
numbered_fall tally n v f h = numbered_put tally n (lowered v (f n)) f (at (f n) refl) h
  where
    at : (x : Option Order) → f n ≡ x → (o : Order) → lowered v x ≡ Some o → Numbered tally n o
    at None e o q = absurd (none_some o q)
    at (Some p) e o q = numbered_rewritten tally n p.price (p.volume - v) p.arrival p (h n p e) o q

abbrev Fine : Ledger → Type 0
Fine L = AllNumbered L.tally L.accounts

fine_alter : (a : Alteration) (L : Ledger) (x : Option Order) → L.accounts a.number ≡ x → Fine L → Fine (alter_account a x L)
fine_alter a L None e h = h
fine_alter a L (Some p) e h =
    let more : AllNumbered (suc L.tally) L.accounts = numbered_more L.tally (suc L.tally) L.accounts (omega arith) h in
    cond_both (renews a p) (renew a p L) (keep a p L) Fine
    (λ _.
    numbered_put (suc L.tally) a.number (Some (rewritten a.price a.volume (suc L.tally) p)) L.accounts
    (numbered_rewritten (suc L.tally) a.number a.price a.volume (suc L.tally) p (more a.number p e)) more)
    (λ _.
    numbered_put L.tally a.number (Some (rewritten a.price a.volume p.arrival p)) L.accounts
    (numbered_rewritten L.tally a.number a.price a.volume p.arrival p (h a.number p e)) h)

fine_feed : (t : Terms) (f : Feed) (L : Ledger) → Fine L → Fine (feed t f L)
fine_feed t (entry x) L h =
    let new : Order = opening t (suc L.tally) x in
    numbered_put (suc L.tally) (suc L.tally) (Some new) L.accounts
    (λ o e.
    let r : new ≡ o = cc in
    record {
      number = sym (ap (λ (z : Order). z.number) r);
      above = omega arith;
      below = omega arith;
    })
    (numbered_more L.tally (suc L.tally) L.accounts (omega arith) h)
fine_feed t (alteration a) L h = fine_alter a L (L.accounts a.number) refl h
fine_feed t (withdrawal n v) L h = numbered_fall L.tally n v L.accounts h
fine_feed t progress L h = h

fine_all : (ss : List Slip) (L : Ledger) → Fine L → Fine (post_all ss L)
fine_all [] L h = h
fine_all (Trade b s q v ∷ ss) L h =
    fine_all ss (post (Trade b s q v) L)
    (numbered_fall L.tally s v (lower b v L.accounts) (numbered_fall L.tally b v L.accounts h))
fine_all (Lapse n v ∷ ss) L h = fine_all ss (post (Lapse n v) L) (numbered_fall L.tally n v L.accounts h)

fine_keeping : (t : Terms) (c : Call) (r : Verdict) (L : Ledger) → Fine L → Fine (book_keeping t c r L)
fine_keeping t c (refused n) L h = h
fine_keeping t c (accepted a slips) L h = fine_all slips (feed t (feed_of c a) L) (fine_feed t (feed_of c a) L h)

-- of every history of every engine
fine : (e : Engine) (t : Terms) (cap : Capacity) (past : List Try) → Fine (ledger e t cap past)
fine e t cap [] = λ n o q. absurd (none_some o q)
fine e t cap (x ∷ past) = fine_keeping t x.call (e t cap past x).result (ledger e t cap past) (fine e t cap past)

-- Live orders --------------------------------------------------------------------------------------------------------------

clash : ◌≡◌ {A = Bool} false true → ⊥
clash e = let z : ◌≡◌ {A = ℕ} 0 1 = cc in omega arith

both : (a b : Bool) → (a && b) ≡ true → (a ≡ true) × (b ≡ true)
both true true e = (refl, refl)
both true false e = absurd (clash e)
both false b e = absurd (clash e)

same_is : (d e : Direction) → same d e ≡ true → d ≡ e
same_is Buy Buy q = refl
same_is Buy Sell q = absurd (clash q)
same_is Sell Buy q = absurd (clash q)
same_is Sell Sell q = refl

-- an order of the account is in the list where it is live, and the others stay
in_it : (d : Direction) (a : Option Order) (os : List Order) (o : Order) → Member o (with_live d a os)
    → ((a ≡ Some o) × (0 < o.volume) × (o.direction ≡ d)) ⊎ Member o os
in_it d None os o m = inr m
in_it d (Some x) os o m =
    cond_both (same x.direction d && ltb 0 x.volume) (x ∷ os) os
    (λ ys. Member o ys → ((◌≡◌ {A = Option Order} (Some x) (Some o)) × (0 < o.volume) × (o.direction ≡ d)) ⊎ Member o os)
    (λ c k'.
    let k : (same x.direction d ≡ true) × (ltb 0 x.volume ≡ true) = both (same x.direction d) (ltb 0 x.volume) c in
    ⊎_elim
    (λ q.
    inl (
      ap Some (sym q),
      subst (λ (z : Order). 0 < z.volume) (sym q) (ltb-true 0 x.volume k.1),
      subst (λ (z : Order). z.direction ≡ d) (sym q) (same_is x.direction d k.0),
    ))
    (λ r. inr r) k')
    (λ c k'. inr k') m

still_in : (d : Direction) (a : Option Order) (os : List Order) (o : Order) → Member o os → Member o (with_live d a os)
still_in d None os o m = m
still_in d (Some x) os o m =
    cond_both (same x.direction d && ltb 0 x.volume) (x ∷ os) os (Member o) (λ _. inr m) (λ _. m)

own_in : (d : Direction) (os : List Order) (o : Order) → 0 < o.volume → o.direction ≡ d → Member o (with_live d (Some o) os)
own_in d os o v q =
    cond_both (same o.direction d && ltb 0 o.volume) (o ∷ os) os (Member o) (λ _. inl refl)
    (λ c.
    let s : same o.direction d ≡ true = ap (λ z. same z d) q ∙ same_itself d in
    let b : ltb 0 o.volume ≡ true = lt-ltb 0 o.volume v in
    absurd (clash (sym c ∙ (ap (λ z. z && ltb 0 o.volume) s ∙ b))))

module _ (L : Ledger) (h : Fine L) (d : Direction) where
  sound : (n : ℕ) (o : Order) → Member o (live_upto d L n) → Live d L o
  sound zero o m = absurd m
  sound (suc n) o m =
      ⊎_elim
      (λ k. record { account = ap L.accounts (h (suc n) o k.0).number ∙ k.0; balance = k.1; side = k.2 })
      (sound n o) (in_it d (L.accounts (suc n)) (live_upto d L n) o m)

  complete : (n : ℕ) (o : Order) → Live d L o → o.number ≤ n → Member o (live_upto d L n)
  complete zero o l le =
      let a : 0 < o.number = (h o.number o l.account).above in
      absurd (omega (arith, a, le))
  complete (suc n) o l le =
      ⊎_elim
      (λ q.
      let a : L.accounts (suc n) ≡ Some o = sym (ap L.accounts q) ∙ l.account in
      subst (λ x. Member o (with_live d x (live_upto d L n))) (sym a) (own_in d (live_upto d L n) o l.balance l.side))
      (λ q. still_in d (L.accounts (suc n)) (live_upto d L n) o (complete n o l (omega (arith, le, q))))
      (cases_eq o.number (suc n))

  side_is : live_upto d L L.tally ≡ side d (live_book L)
  side_is = of d
    where
      of : (e : Direction) → live_upto e L L.tally ≡ side e (live_book L)
      of Buy = refl
      of Sell = refl

pub live_book_is_live : LiveBookIsLive
live_book_is_live e t cap past d o =
    let L : Ledger = ledger e t cap past in
    let h = fine e t cap past in
    let q : live_upto d L L.tally ≡ side d (live_book L) = side_is L h d in (
      λ c. sound L h d L.tally o (member_of (live_upto d L L.tally) o (subst (λ xs. Contains xs o) (sym q) c)),
      λ l.
          subst (λ xs. Contains xs o) q
          (contains_of (live_upto d L L.tally) o (complete L h d L.tally o l (h o.number o l.account).below)),
    )

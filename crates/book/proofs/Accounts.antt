-- The ledger's accounts one by one, and a side of the table beside them.
use Rattle.std.proofs.Common.{◌≡◌, ℕ, ◌-◌, ◌<◌, ◌≤◌, false, eqb, ◌⊎◌, List, ◌∷◌, Some, None, Option, sym, refl, ap, ◌∙◌, subst, inl, inr, ⊎_elim, arith}
use Rattle.std.proofs.lemmas.Bool.{cond_both, cond-true, cond-false, eq-eqb, ne_eqb, cases_eq, leb-true, leb-false}
use Rattle.rules.specs.declared.order.Direction.{Direction}
use Rattle.rules.specs.declared.order.Direction.TheVariants.{Buy, Sell}
use Rattle.rules.specs.declared.order.Order.{Order}
use Rattle.book.specs.Exactly.{Before}
use Rattle.book.specs.Ledger.{Accounts, Ledger, Live, Uncrossed, put, lowered, lower, posted}
use Rattle.book.specs.Calls.{with_first_less}
use Rattle.book.proofs.Members.{Exactly, Member}
use Rattle.rules.specs.Rank.{before}
use Rattle.rules.specs.Side.{opposite}
use Rattle.tables.specs.Listing.{insert, with_volume, without}
use Rattle.book.proofs.Ranks.{exactly_as, exactly_insert, exactly_without, exactly_cons, exactly_tail, ahead_of, before_irrefl}

pub put_same : (n : ℕ) (a : Option Order) (f : Accounts) → put n a f n ≡ a
put_same n a f = cond-true (eqb n n) a (f n) (eq-eqb n n refl)

pub put_other : (n : ℕ) (a : Option Order) (f : Accounts) (m : ℕ) → (m ≡ n → ⊥) → put n a f m ≡ f m
put_other n a f m h = cond-false (eqb m n) a (f m) (ne_eqb m n h)

-- one account, one order
pub live_same : (d e : Direction) (L : Ledger) (x o : Order) → Live d L x → Live e L o → x.number ≡ o.number → x ≡ o
live_same d e L x o h k q =
    let p : L.accounts x.number ≡ L.accounts o.number = ap L.accounts q in
    let a = h.account in
    let b = k.account in
    cc

pub live_is : (d : Direction) (L : Ledger) (x o : Order) → Live d L x → L.accounts x.number ≡ Some o → x ≡ o
live_is d L x o h k = let a = h.account in cc

-- L' has the accounts of L but perhaps that of n
abbrev pub Off : ℕ → Ledger → Ledger → Type 0
Off n L L' = (m : ℕ) → (m ≡ n → ⊥) → L'.accounts m ≡ L.accounts m

-- no order of side d with the number n is live
abbrev pub Dead : ℕ → Direction → Ledger → Type 0
Dead n d L = (x : Order) → Live d L x → x.number ≡ n → ⊥

pub live_off : (n : ℕ) (L L' : Ledger) → Off n L L' → (d : Direction) (x : Order) → (x.number ≡ n → ⊥) → Live d L x → Live d L' x
live_off n L L' off d x h l =
    record { account = off x.number h ∙ l.account; balance = l.balance; side = l.side }

-- live, and not n
abbrev pub Besides : ℕ → Direction → Ledger → Order → Type 0
Besides n d L x = Live d L x × (x.number ≡ n → ⊥)

-- a list of side d without the order n, where it comes from
pub besides_without : (n : ℕ) (d : Direction) (L : Ledger) (xs : List Order) → Exactly d (Live d L) xs → Exactly d (Besides n d L) (without n xs)
besides_without n d L xs ex = exactly_without d (Live d L) xs ex n

pub besides_none : (n : ℕ) (d : Direction) (L : Ledger) (xs : List Order) → Dead n d L → Exactly d (Live d L) xs → Exactly d (Besides n d L) xs
besides_none n d L xs h ex = exactly_as d (Live d L) xs ex (Besides n d L) (λ x l. (l, h x l)) (λ x b. b.0)

pub besides_tail : (d : Direction) (L : Ledger) (o : Order) (xs : List Order) → Exactly d (Live d L) (o ∷ xs) → Exactly d (Besides o.number d L) xs
besides_tail d L o xs ex =
    exactly_as d (λ x. Live d L x × Before d o x) xs (exactly_tail d (Live d L) o xs ex) (Besides o.number d L)
    (λ x p. (p.0, λ e. before_irrefl d o (subst (Before d o) (live_same d d L x o p.0 (ex.sound o (inl refl)) e) p.1)))
    (λ x p. (
      p.0,
      ⊎_elim (λ e. absurd (p.1 (ap (λ (z : Order). z.number) e))) (λ m. ahead_of d o xs ex.sorted x m)
          (ex.complete x p.0),
    ))

-- and where it goes to
module _ (n : ℕ) (L L' : Ledger) (off : Off n L L') (d : Direction) (xs : List Order) (ex : Exactly d (Besides n d L) xs) where
  back : (x : Order) → Live d L' x → (x.number ≡ n → ⊥) → Besides n d L x
  back x l h = (live_off n L' L (λ m k. sym (off m k)) d x h l, h)

  pub besides_close : Dead n d L' → Exactly d (Live d L') xs
  besides_close h =
      exactly_as d (Besides n d L) xs ex (Live d L') (λ x b. live_off n L L' off d x b.1 b.0) (λ x l. back x l (h x l))

  put_in : (o : Order) → Live d L' o → o.number ≡ n → (x : Order) → (x ≡ o) ⊎ Besides n d L x → Live d L' x
  put_in o l e x (inl k) = subst (Live d L') (sym k) l
  put_in o l e x (inr b) = live_off n L L' off d x b.1 b.0

  put_out : (o : Order) → Live d L' o → o.number ≡ n → (x : Order) → Live d L' x → (x ≡ o) ⊎ Besides n d L x
  put_out o l e x k =
      ⊎_elim (λ q. inl (live_same d d L' x o k l (q ∙ sym e))) (λ q. inr (back x k q)) (cases_eq x.number n)

  pub besides_insert : (o : Order) → Live d L' o → o.number ≡ n → Exactly d (Live d L') (insert (before d) o xs)
  unfolding put_in put_out
  besides_insert o l e =
      exactly_as d (λ x. (x ≡ o) ⊎ Besides n d L x) (insert (before d) o xs)
      (exactly_insert d (Besides n d L) xs ex o (λ x b q. b.1 (sym q ∙ e)))
      (Live d L') (put_in o l e) (put_out o l e)

  pub besides_cons :
      (o : Order) → Live d L' o → o.number ≡ n → ((x : Order) → Member x xs → Before d o x) → Exactly d (Live d L') (o ∷ xs)
  besides_cons o l e h =
      exactly_as d (λ x. (x ≡ o) ⊎ Besides n d L x) (o ∷ xs)
      (exactly_cons d (Besides n d L) xs ex o (λ x b. h x (ex.complete x b)))
      (Live d L') (put_in o l e) (put_out o l e)

-- One account lowered ----------------------------------------------------------------------------------------------------

abbrev pub down : ℕ → ℕ → Ledger → Ledger
down n v L = posted (lower n v L.accounts) L

pub down_off : (n v : ℕ) (L : Ledger) → Off n L (down n v L)
down_off n v L m h = put_other n (lowered v (L.accounts n)) L.accounts m h

pub down_at : (n v : ℕ) (L : Ledger) (o : Order) → L.accounts n ≡ Some o → (down n v L).accounts n ≡ Some (with_volume (o.volume - v) o)
down_at n v L o h = put_same n (lowered v (L.accounts n)) L.accounts ∙ ap (lowered v) h

-- what is then live under that number is that order, with the volume that is left
pub down_live :
    (d e : Direction) (v : ℕ) (L : Ledger) (o x : Order) →
    Live d L o →
    Live e (down o.number v L) x →
    x.number ≡ o.number →
    x ≡ with_volume (o.volume - v) o
down_live d e v L o x l k q =
    live_is e (down o.number v L) x (with_volume (o.volume - v) o) k
    (ap (down o.number v L).accounts q ∙ down_at o.number v L o l.account)

pub not_both : (d : Direction) → d ≡ opposite d → ⊥
not_both Buy e = let z : ◌≡◌ {A = ℕ} 0 1 = cc in omega arith
not_both Sell e = let z : ◌≡◌ {A = ℕ} 0 1 = cc in omega arith

-- the other side stays
pub down_against :
    (d : Direction) (v : ℕ) (L : Ledger) (o : Order) (ys : List Order) →
    Live d L o →
    Exactly (opposite d) (Live (opposite d) L) ys →
    Exactly (opposite d) (Live (opposite d) (down o.number v L)) ys
down_against d v L o ys l ex =
    besides_close o.number L (down o.number v L) (down_off o.number v L) (opposite d) ys
    (besides_none o.number (opposite d) L ys
    (λ x k q. not_both d (sym l.side ∙ (sym (ap (λ (z : Order). z.direction) (live_same (opposite d) d L x o k l q)) ∙ k.side))) ex)
    (λ x k q. not_both d (sym l.side ∙ (sym (ap (λ (z : Order). z.direction) (down_live d (opposite d) v L o x l k q)) ∙ k.side)))

-- the first of its own side has the rest, or is gone
pub down_own :
    (d : Direction) (v : ℕ) (L : Ledger) (o : Order) (xs : List Order) →
    Exactly d (Live d L) (o ∷ xs) →
    v ≤ o.volume →
    Exactly d (Live d (down o.number v L)) (with_first_less v o xs)
down_own d v L o xs ex h =
    let n : ℕ = o.number in
    let l : Live d L o = ex.sound o (inl refl) in
    let rest : Exactly d (Besides n d L) xs = besides_tail d L o xs ex in
    cond_both _ _ _ (Exactly d (Live d (down n v L)))
    (λ e.
    let g : o.volume ≤ v = leb-true o.volume v e in
    besides_close n L (down n v L) (down_off n v L) d xs rest
    (λ x k q.
    let same : x.volume ≡ o.volume - v = ap (λ (z : Order). z.volume) (down_live d d v L o x l k q) in
    let b : 0 < x.volume = k.balance in
    omega arith))
    (λ e.
    let g : v < o.volume = leb-false o.volume v e in
    besides_cons n L (down n v L) (down_off n v L) d xs rest (with_volume (o.volume - v) o)
    (record { account = down_at n v L o l.account; balance = omega arith; side = l.side }) refl
    (λ x m. ahead_of d o xs ex.sorted x m))

-- what is live after a fall was live before it, at the same price
pub live_before :
    (d : Direction) (n v : ℕ) (L : Ledger) (x : Order) → Live d (down n v L) x →
    (y : Order) × Live d L y × (y.price ≡ x.price) × (y.market ≡ x.market)
live_before d n v L x l = on (cases_eq x.number n)
  where
    at : (a : Option Order) → L.accounts x.number ≡ a → lowered v a ≡ Some x → (y : Order) × Live d L y × (y.price ≡ x.price) × (y.market ≡ x.market)
    at None e q = let z : ◌≡◌ {A = ℕ} 0 1 = cc in absurd (omega arith)
    at (Some o) e q =
        let r : with_volume (o.volume - v) o ≡ x = cc in
        let number : o.number ≡ x.number = ap (λ (z : Order). z.number) r in
        let volume : o.volume - v ≡ x.volume = ap (λ (z : Order). z.volume) r in
        let some : 0 < x.volume = l.balance in (
          o,
          record {
            account = ap L.accounts number ∙ e;
            balance = omega arith;
            side = ap (λ (z : Order). z.direction) r ∙ l.side;
          },
          ap (λ (z : Order). z.price) r,
          ap (λ (z : Order). z.market) r,
        )

    on : (x.number ≡ n) ⊎ (x.number ≡ n → ⊥) → (y : Order) × Live d L y × (y.price ≡ x.price) × (y.market ≡ x.market)
    on (inl q) =
        at (L.accounts x.number) refl
        (sym (put_same x.number (lowered v (L.accounts x.number)) L.accounts) ∙
        (ap (λ m. (down m v L).accounts x.number) q ∙ l.account))
    on (inr q) = (x, live_off n (down n v L) L (λ m k. sym (down_off n v L m k)) d x q l, refl, refl)

-- no market buy where sells are to lapse
abbrev pub SellTurn : Direction → Ledger → Type 0
SellTurn d L = d ≡ Sell → (x : Order) → Live Buy L x → x.market ≡ false

pub turn_down : (d : Direction) (n v : ℕ) (L : Ledger) → SellTurn d L → SellTurn d (down n v L)
turn_down d n v L h e x l = let y = live_before Buy n v L x l in sym y.3 ∙ h e y.0 y.1

pub uncrossed_down : (n v : ℕ) (L : Ledger) → Uncrossed L → Uncrossed (down n v L)
uncrossed_down n v L h b s lb ls =
    let x = live_before Buy n v L b lb in
    let y = live_before Sell n v L s ls in
    omega (arith, h x.0 y.0 x.1 y.1, x.2, y.2)

-- No two accounts of a ledger have one arrival.
use Rattle.std.proofs.Common.{◌≡◌, ℕ, suc, ◌-◌, ◌≤◌, ◌⊎◌, List, [], ◌∷◌, Some, None, Option, sym, refl, ap, ◌∙◌, inl, inr, ⊎_elim, arith}
use Rattle.std.proofs.lemmas.Bool.{cond_both, cases_eq}
use Rattle.rules.specs.declared.order.Direction.{Direction}
use Rattle.rules.specs.declared.order.Order.{Order}
use Rattle.rules.specs.declared.terms.Terms.{Terms}
use Rattle.book.specs.declared.slip.Slip.{Slip}
use Rattle.book.specs.declared.slip.Slip.TheVariants.{Trade, Lapse}
use Rattle.tables.specs.Meaning.{Capacity}
use Rattle.book.specs.Ledger.{
  Accounts,
  Ledger,
  new_ledger,
  Live,
  at_tally,
  posted,
  put,
  set,
  lowered,
  lower,
  fall,
  rewritten,
  renews,
  renew,
  keep,
  opening,
  alter_account,
  Feed,
  entry,
  alteration,
  withdrawal,
  progress,
  feed,
  post,
  post_all,
}
use Rattle.book.specs.declared.call.Alteration.{Alteration}
use Rattle.book.specs.declared.call.Call.{Call}
use Rattle.book.specs.Law.{Try, Verdict, refused, accepted, Engine, feed_of, book_keeping, ledger}
use Rattle.book.proofs.Accounts.{put_same, put_other, live_same}

pub record Arrivals (L : Ledger) : Type 0 where
  pub below : (n : ℕ) (o : Order) → L.accounts n ≡ Some o → o.arrival ≤ L.tally
  pub alone :
      (n m : ℕ) (x y : Order) → L.accounts n ≡ Some x → L.accounts m ≡ Some y → x.arrival ≡ y.arrival → n ≡ m

none_some : (o : Order) → ◌≡◌ {A = Option Order} None (Some o) → ⊥
none_some o e = let z : ◌≡◌ {A = ℕ} 0 1 = cc in omega arith

pub arrivals_fresh : Arrivals new_ledger
arrivals_fresh = record { below = λ n o e. absurd (none_some o e); alone = λ n m x y e. absurd (none_some x e) }

-- accounts that keep their arrivals
pub arrivals_kept :
    (L : Ledger) (f : Accounts) →
    ((n : ℕ) (o : Order) → f n ≡ Some o → (p : Order) × (L.accounts n ≡ Some p) × (p.arrival ≡ o.arrival)) →
    Arrivals L → Arrivals (posted f L)
arrivals_kept L f h a =
    record {
      below = λ n o e. let k = h n o e in omega (arith, k.2, a.below n k.0 k.1);
      alone =
          λ n m x y e q r.
          let k = h n x e in
          let j = h m y q in
          a.alone n m k.0 j.0 k.1 j.1 (k.2 ∙ (r ∙ sym j.2));
    }

-- one account, by whether it is the one that is put
pub put_cases :
    (n : ℕ) (a : Option Order) (f : Accounts) (m : ℕ) (o : Order) → put n a f m ≡ Some o →
    ((m ≡ n) × (a ≡ Some o)) ⊎ ((m ≡ n → ⊥) × (f m ≡ Some o))
put_cases n a f m o e =
    ⊎_elim (λ q. inl (q, sym (put_same n a f) ∙ (ap (put n a f) (sym q) ∙ e))) (λ q. inr (q, sym (put_other n a f m q) ∙ e))
    (cases_eq m n)

pub arrivals_fall : (n v : ℕ) (L : Ledger) → Arrivals L → Arrivals (fall n v L)
arrivals_fall n v L a = arrivals_kept L (lower n v L.accounts) from a
  where
    at : (m : ℕ) (o : Order) (x : Option Order) → L.accounts m ≡ x → lowered v x ≡ Some o → (p : Order) × (L.accounts m ≡ Some p) × (p.arrival ≡ o.arrival)
    at m o None e q = absurd (none_some o q)
    at m o (Some p) e q =
        let r : rewritten p.price (p.volume - v) p.arrival p ≡ o = cc in
        (p, e, ap (λ (z : Order). z.arrival) r)

    from : (m : ℕ) (o : Order) → lower n v L.accounts m ≡ Some o → (p : Order) × (L.accounts m ≡ Some p) × (p.arrival ≡ o.arrival)
    from m o e =
        ⊎_elim (λ k. at m o (L.accounts m) refl (ap (λ i. lowered v (L.accounts i)) k.0 ∙ k.1)) (λ k. (o, k.1, refl))
        (put_cases n (lowered v (L.accounts n)) L.accounts m o e)

-- a new arrival
pub arrivals_new : (L : Ledger) (n : ℕ) (o : Order) → o.arrival ≡ suc L.tally → Arrivals L → Arrivals (set n o (at_tally (suc L.tally) L))
arrivals_new L n o h a =
    record {
      below =
          λ m x e.
          ⊎_elim (λ k. let r : o ≡ x = cc in omega (arith, h, ap (λ (z : Order). z.arrival) r)) (λ k. omega (arith, a.below m x k.1))
          (put_cases n (Some o) L.accounts m x e);
      alone =
          λ i j x y e q r.
          ⊎_elim
          (λ k.
          ⊎_elim (λ l. k.0 ∙ sym l.0) (λ l. absurd (clash x y j k.1 l.1 r)) (put_cases n (Some o) L.accounts j y q))
          (λ k.
          ⊎_elim (λ l. absurd (clash y x i l.1 k.1 (sym r))) (λ l. a.alone i j x y k.1 l.1 r)
          (put_cases n (Some o) L.accounts j y q))
          (put_cases n (Some o) L.accounts i x e);
    }
  where
    clash : (x y : Order) (j : ℕ) → ◌≡◌ {A = Option Order} (Some o) (Some x) → L.accounts j ≡ Some y → x.arrival ≡ y.arrival → ⊥
    clash x y j e q r =
        let s : o ≡ x = cc in
        omega (arith, h, ap (λ (z : Order). z.arrival) s, r, a.below j y q)

pub arrivals_keep :
    (L : Ledger) (w : Alteration) (o : Order) → L.accounts w.number ≡ Some o → Arrivals L → Arrivals (keep w o L)
arrivals_keep L w o h a =
    let new : Order = rewritten w.price w.volume o.arrival o in
    arrivals_kept L (put w.number (Some new) L.accounts)
    (λ m x e.
    ⊎_elim
    (λ k.
    let r : new ≡ x = cc in
    (o, ap L.accounts k.0 ∙ h, ap (λ (z : Order). z.arrival) r))
    (λ k. (x, k.1, refl)) (put_cases w.number (Some new) L.accounts m x e))
    a

arrivals_alter :
    (w : Alteration) (L : Ledger) (x : Option Order) → L.accounts w.number ≡ x → Arrivals L → Arrivals (alter_account w x L)
arrivals_alter w L None e a = a
arrivals_alter w L (Some o) e a =
    cond_both (renews w o) (renew w o L) (keep w o L) Arrivals
    (λ _. arrivals_new L w.number (rewritten w.price w.volume (suc L.tally) o) refl a) (λ _. arrivals_keep L w o e a)

pub arrivals_feed : (t : Terms) (f : Feed) (L : Ledger) → Arrivals L → Arrivals (feed t f L)
arrivals_feed t (entry e) L a = arrivals_new L (suc L.tally) (opening t (suc L.tally) e) refl a
arrivals_feed t (alteration w) L a = arrivals_alter w L (L.accounts w.number) refl a
arrivals_feed t (withdrawal n v) L a = arrivals_fall n v L a
arrivals_feed t progress L a = record { below = a.below; alone = a.alone }

pub arrivals_post : (s : Slip) (L : Ledger) → Arrivals L → Arrivals (post s L)
arrivals_post (Trade b s q v) L a = arrivals_fall s v (fall b v L) (arrivals_fall b v L a)
arrivals_post (Lapse n v) L a = arrivals_fall n v L a

pub arrivals_all : (ss : List Slip) (L : Ledger) → Arrivals L → Arrivals (post_all ss L)
arrivals_all [] L a = a
arrivals_all (s ∷ ss) L a = arrivals_all ss (post s L) (arrivals_post s L a)

arrivals_keeping : (t : Terms) (c : Call) (r : Verdict) (L : Ledger) → Arrivals L → Arrivals (book_keeping t c r L)
arrivals_keeping t c (refused n) L a = a
arrivals_keeping t c (accepted an slips) L a = arrivals_all slips (feed t (feed_of c an) L) (arrivals_feed t (feed_of c an) L a)

-- of every history of every engine
pub arrivals : (e : Engine) (t : Terms) (cap : Capacity) (past : List Try) → Arrivals (ledger e t cap past)
arrivals e t cap [] = arrivals_fresh
arrivals e t cap (x ∷ past) =
    arrivals_keeping t x.call (e t cap past x).result (ledger e t cap past) (arrivals e t cap past)

pub arrival_one : (L : Ledger) → Arrivals L → (d e : Direction) (x y : Order) → Live d L x → Live e L y → x.arrival ≡ y.arrival → x ≡ y
arrival_one L a d e x y l k q =
    live_same d e L x y l k (a.alone x.number y.number x y l.account k.account q)

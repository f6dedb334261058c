-- The live orders of the ledger offer what the orders of the table's lists do.
use Rattle.std.proofs.Common.{◌≡◌, ℕ, zero, suc, ◌+◌, ◌<◌, ◌≤◌, true, false, cond, ◌&&◌, ltb, leb, ◌⊎◌, List, [], ◌∷◌, Some, None, Option, sym, refl, ap, ◌∙◌, subst, inl, inr, arith}
use Rattle.std.proofs.lemmas.Bool.{cond-true, cond-false, cases_eq, cases_lt, le-leb, lt-leb}
use Rattle.std.proofs.lemmas.Bool.Decides.{nat_tests}
use Rattle.rules.specs.declared.order.Direction.{Direction}
use Rattle.rules.specs.declared.order.Direction.TheVariants.{Buy, Sell}
use Rattle.rules.specs.declared.order.Order.{Order}
use Rattle.rules.specs.declared.terms.Terms.{Terms}
use Rattle.book.proofs.Ranks.{InRank}
use Rattle.book.specs.Exactly.{Before}
use Rattle.book.proofs.Members.{Member}
use Rattle.rules.specs.Side.{opposite}
use Rattle.book.proofs.Ranks.{InRank, ahead_of, rest_in, before_irrefl}
use Rattle.book.specs.Ledger.{Ledger, Live, with_live, live_upto, live_book}
use Rattle.rules.specs.Curve.{offered, depth, tradable, surplus}
use Rattle.rules.specs.Side.{same}
use Rattle.tables.specs.Meaning.{book_of}
use Rattle.book.proofs.Accounts.{live_same, not_both}
use Rattle.book.proofs.Trades.{Listed, pos}
use Rattle.book.proofs.Kept.{AllOpened}

-- the volume at p of the orders with numbers up to n
abbrev upto : ℕ → Direction → ℕ → List Order → ℕ
upto n d p [] = 0
upto n d p (x ∷ xs) = cond (leb x.number n) (offered d p x) 0 + upto n d p xs

upto_zero : (d : Direction) (p : ℕ) (xs : List Order) → ((x : Order) → Member x xs → 0 < x.number) → upto 0 d p xs ≡ 0
upto_zero d p [] h = refl
upto_zero d p (x ∷ xs) h =
    omega (
      arith,
      upto_zero d p xs (λ y m. h y (inr m)),
      cond-false (leb x.number 0) (offered d p x) 0 (lt-leb x.number 0 (h x (inl refl))),
    )

upto_all : (n : ℕ) (d : Direction) (p : ℕ) (xs : List Order) → ((x : Order) → Member x xs → x.number ≤ n) → upto n d p xs ≡ depth d p xs
upto_all n d p [] h = refl
upto_all n d p (x ∷ xs) h =
    omega (
      arith,
      upto_all n d p xs (λ y m. h y (inr m)),
      cond-true (leb x.number n) (offered d p x) 0 (le-leb x.number n (h x (inl refl))),
    )

not_next : (k n v : ℕ) → (k ≡ suc n → ⊥) → cond (leb k n) v 0 ≡ cond (leb k (suc n)) v 0
not_next k n v h =
    elim (cases_lt n k) [
      | inl a ↦ cond-false (leb k n) v 0 (lt-leb k n a) ∙ sym (cond-false (leb k (suc n)) v 0 (lt-leb k (suc n) (omega arith)))
      | inr a ↦ cond-true (leb k n) v 0 (le-leb k n a) ∙ sym (cond-true (leb k (suc n)) v 0 (le-leb k (suc n) (omega arith)))
    ]

upto_same :
    (n : ℕ) (d : Direction) (p : ℕ) (xs : List Order) → ((x : Order) → Member x xs → x.number ≡ suc n → ⊥) →
    upto n d p xs ≡ upto (suc n) d p xs
upto_same n d p [] h = refl
upto_same n d p (x ∷ xs) h =
    omega (arith, upto_same n d p xs (λ y m. h y (inr m)), not_next x.number n (offered d p x) (h x (inl refl)))

abbrev Single : List Order → Type 0
Single xs = (x y : Order) → Member x xs → Member y xs → x.number ≡ y.number → x ≡ y

upto_exact :
    (n : ℕ) (d : Direction) (p : ℕ) (xs : List Order) (o : Order) → InRank d xs → Single xs → Member o xs → o.number ≡ suc n →
    upto n d p xs + offered d p o ≡ upto (suc n) d p xs
upto_exact n d p [] o s u m e = absurd m
upto_exact n d p (x ∷ xs) o s u (inl q) e =
    let k : x.number ≡ suc n = sym (ap (λ (z : Order). z.number) q) ∙ e in
    let w : offered d p o ≡ offered d p x = ap (offered d p) q in
    omega (
      arith,
      upto_same n d p xs
          (λ y m j. before_irrefl d x (subst (Before d x) (u y x (inr m) (inl refl) (j ∙ sym k)) (ahead_of d x xs s y m))),
      cond-false (leb x.number n) (offered d p x) 0 (lt-leb x.number n (omega arith)),
      cond-true (leb x.number (suc n)) (offered d p x) 0 (le-leb x.number (suc n) (omega arith)),
    )
upto_exact n d p (x ∷ xs) o s u (inr m) e =
    omega (
      arith,
      upto_exact n d p xs o (rest_in d x xs s) (λ y z i j. u y z (inr i) (inr j)) m e,
      not_next x.number n (offered d p x)
          (λ k. before_irrefl d x (subst (Before d x) (u o x (inr m) (inl refl) (e ∙ sym k)) (ahead_of d x xs s o m))),
    )

pub same_itself : (d : Direction) → same d d ≡ true
same_itself Buy = refl
same_itself Sell = refl

same_opposite : (d : Direction) → same (opposite d) d ≡ false
same_opposite Buy = refl
same_opposite Sell = refl

which : (d e : Direction) → (e ≡ d) ⊎ (e ≡ opposite d)
which Buy Buy = inl refl
which Buy Sell = inr refl
which Sell Buy = inr refl
which Sell Sell = inl refl

module _ (t : Terms) (L : Ledger) (opened : AllOpened t L.tally L.accounts) (d : Direction) (xs : List Order) (lx : Listed d L xs)
    (p : ℕ) where
  single : Single xs
  single x y m n = live_same d d L x y (lx.sound x m) (lx.sound y n)

  none_some : (o : Order) → ◌≡◌ {A = Option Order} None (Some o) → ⊥
  none_some o e = let z : ◌≡◌ {A = ℕ} 0 1 = cc in omega arith

  -- an order of that number in the list is the account's
  member_is : (n : ℕ) (o x : Order) → L.accounts n ≡ Some o → Member x xs → x.number ≡ n → x ≡ o
  member_is n o x e m q =
      let l : L.accounts x.number ≡ Some x = (lx.sound x m).account in
      let k : L.accounts x.number ≡ L.accounts n = ap L.accounts q in
      cc

  -- what an account adds to the depth
  abbrev adds : Option Order → ℕ
  adds None = 0
  adds (Some o) = cond (same o.direction d && ltb 0 o.volume) (offered d p o) 0

  depth-with_live : (a : Option Order) (os : List Order) → depth d p (with_live d a os) ≡ adds a + depth d p os
  depth-with_live None os = omega arith
  depth-with_live (Some o) os = grind arith

  depth_step : (n : ℕ) (a : Option Order) → L.accounts (suc n) ≡ a → upto n d p xs + adds a ≡ upto (suc n) d p xs
  depth_step n None e =
      omega (
        arith,
        upto_same n d p xs (λ x m q. none_some x (sym e ∙ (sym (ap L.accounts q) ∙ (lx.sound x m).account))),
      )
  depth_step n (Some o) e =
      elim (which d o.direction) [
        | inl side ↦ own side
        | inr side ↦
            (let z : adds (Some o) ≡ 0 = not_same side in
            omega (
              arith,
              z,
              upto_same n d p xs
                  (λ x m q.
                  not_both d
                  (sym (lx.sound x m).side ∙ (ap (λ (z : Order). z.direction) (member_is (suc n) o x e m q) ∙ side))),
            ))
      ]
    where
      not_same : o.direction ≡ opposite d → adds (Some o) ≡ 0
      not_same side = let s : same o.direction d ≡ false = ap (λ z. same z d) side ∙ same_opposite d in grind arith

      is_same : o.direction ≡ d → same o.direction d ≡ true
      is_same side = ap (λ z. same z d) side ∙ same_itself d

      own : o.direction ≡ d → upto n d p xs + adds (Some o) ≡ upto (suc n) d p xs
      own side =
          let s : same o.direction d ≡ true = is_same side in
          let number : o.number ≡ suc n = (opened (suc n) o e).number in
          elim (cases_eq o.volume 0) [
            | inl none ↦
                (let z : adds (Some o) ≡ 0 = grind (arith, nat_tests) in
                omega (
                  arith,
                  z,
                  upto_same n d p xs
                      (λ x m q.
                      let v : x.volume ≡ o.volume = ap (λ (z : Order). z.volume) (member_is (suc n) o x e m q) in
                      let b : 0 < x.volume = (lx.sound x m).balance in
                      omega arith),
                ))
            | inr some ↦
                (let l : Live d L o =
                record { account = ap L.accounts number ∙ e; balance = pos o.volume some; side = side }
                in
                let z : adds (Some o) ≡ offered d p o = grind (arith, nat_tests) in
                omega (arith, z, upto_exact n d p xs o lx.sorted single (lx.complete o l) number))
          ]

  depth_upto : (n : ℕ) → depth d p (live_upto d L n) ≡ upto n d p xs
  depth_upto zero =
      sym (upto_zero d p xs (λ x m. (opened x.number x (lx.sound x m).account).above))
  depth_upto (suc n) =
      omega (arith, depth_upto n, depth-with_live (L.accounts (suc n)) (live_upto d L n), depth_step n (L.accounts (suc n)) refl)

  pub depth_is : depth d p (live_upto d L L.tally) ≡ depth d p xs
  depth_is =
      depth_upto L.tally ∙
      upto_all L.tally d p xs (λ x m. (opened x.number x (lx.sound x m).account).below)

module _ (t : Terms) (L : Ledger) (opened : AllOpened t L.tally L.accounts) (buys sells : List Order)
    (lb : Listed Buy L buys) (ls : Listed Sell L sells) (p : ℕ) where
  pub tradable_is : tradable (live_book L) p ≡ tradable (book_of buys sells) p
  tradable_is = let a = depth_is t L opened Buy buys lb p in let b = depth_is t L opened Sell sells ls p in omega arith

  pub surplus_is : surplus (live_book L) p ≡ surplus (book_of buys sells) p
  surplus_is = let a = depth_is t L opened Buy buys lb p in let b = depth_is t L opened Sell sells ls p in omega arith

use Rattle.std.proofs.Common.{◌≡◌, ℕ, false, not, eqb, List, [], ◌∷◌, ◌++◌, sym, refl, ap, ◌∙◌, subst, inl, inr, ⊎_elim}
use Rattle.std.proofs.lemmas.Bool.{cond-true, cond-false, eq-eqb, ne_eqb, cases_eq}
use Rattle.book.specs.declared.slip.Slip.{Slip}
use Rattle.rules.specs.declared.order.Order.{Order}
use Rattle.rules.specs.declared.order.Direction.{Direction}
use Rattle.book.proofs.Ranks.{InRank, before_irrefl, before_trans, insert_first, ahead_of, rest_in, none_numbered, exactly_tail}
use Rattle.tables.proofs.Ranking.{ranking}
use Rattle.tables.proofs.Numbers.{without_none, set_volume_none}
use Rattle.book.specs.Exactly.{Before}
use Rattle.book.proofs.Members.{Exactly, Member}
use Rattle.rules.specs.Rank.{before}
use Rattle.tables.specs.Listing.{insert, without, with_volume, set_volume, times}
use Rattle.book.specs.Ledger.{Ledger, post, post_all, Along}
use Rattle.book.specs.Law.{SlipRight}
use Rattle.book.specs.Splits.{AtSplits, SlipsAtSplits}
use Rattle.book.proofs.Ranks.{InRank, before_irrefl, before_trans, insert_first, ahead_of, rest_in, none_numbered, exactly_tail}
use Rattle.tables.proofs.Ranking.{ranking}
use Rattle.tables.proofs.Numbers.{without_none, set_volume_none}

along_at : (P : Ledger → Slip → Type 0) (L : Ledger) (xs : List Slip) (s : Slip) (ys : List Slip) → Along P L (xs ++ (s ∷ ys)) → P (post_all xs L) s
along_at P L [] s ys h = h.0
along_at P L (x ∷ xs) s ys h = along_at P (post x L) xs s ys h.1

along_from : (P : Ledger → Slip → Type 0) (L : Ledger) (slips : List Slip) → AtSplits P L slips → Along P L slips
along_from P L [] h = tt
along_from P L (x ∷ xs) h = (h [] x xs refl, along_from P (post x L) xs (λ ys s zs e. h (x ∷ ys) s zs (ap (λ l. x ∷ l) e)))

pub slips_at_splits : SlipsAtSplits
slips_at_splits m L slips =
    (λ h xs s ys e. along_at (SlipRight m) L xs s ys (subst (Along (SlipRight m) L) e h), along_from (SlipRight m) L slips)

-- a volume set in place -------------------------------------------------------------------------------------------------------

module _ (d : Direction) (o : Order) (v : ℕ) where
  -- an order that keeps its rank keeps its place
  pub in_place :
      (xs : List Order) →
      InRank d xs →
      ((x : Order) → Member x xs → x.number ≡ o.number → x ≡ o) →
      Member o xs →
      insert (before d) (with_volume v o) (without o.number xs) ≡ set_volume o.number v xs
  in_place [] s u m = absurd m
  in_place (x ∷ xs) s u m =
      ⊎_elim
      (λ k.
      let e : x ≡ o = u x (inl refl) k in
      let t = eq-eqb x.number o.number k in
      let ahead : (y : Order) → Member y xs → Before d o y = subst (λ (z : Order). (y : Order) → Member y xs → Before d z y) e (ahead_of d x xs s) in
      let none : times o.number xs ≡ 0 =
      none_numbered o.number xs (λ y i q. before_irrefl d o (subst (Before d o) (u y (inr i) q) (ahead y i)))
      in
      ap (insert (before d) (with_volume v o)) (cond-false (not (eqb x.number o.number)) (x ∷ without o.number xs) (without o.number xs) (ap not t) ∙ without_none o.number xs none) ∙
      (insert_first d (with_volume v o) xs ahead ∙
      (ap (λ (z : Order). with_volume v z ∷ xs) (sym e) ∙
      (ap (λ l. with_volume v x ∷ l) (sym (set_volume_none o.number v xs none)) ∙
      ap (λ z. z ∷ set_volume o.number v xs) (sym (cond-true (eqb x.number o.number) (with_volume v x) x t))))))
      (λ k.
      let t = ne_eqb x.number o.number k in
      let i : Member o xs = ⊎_elim (λ e. absurd (k (sym (ap (λ (z : Order). z.number) e)))) (λ j. j) m in
      let b : before d (with_volume v o) x ≡ false = (ranking d).one_way x (with_volume v o) (ahead_of d x xs s o i) in
      ap (insert (before d) (with_volume v o)) (cond-true (not (eqb x.number o.number)) (x ∷ without o.number xs) (without o.number xs) (ap not t)) ∙
      (cond-false (before d (with_volume v o) x) (with_volume v o ∷ (x ∷ without o.number xs))
      (x ∷ insert (before d) (with_volume v o) (without o.number xs)) b ∙
      (ap (λ l. x ∷ l) (in_place xs (rest_in d x xs s) (λ y j. u y (inr j)) i) ∙
      ap (λ z. z ∷ set_volume o.number v xs) (sym (cond-false (eqb x.number o.number) (with_volume v x) x t)))))
      (cases_eq x.number o.number)

-- "exactly" leaves no choice: a side's list is one list ----------------------------------------------------------------------------

same_head :
    (d : Direction) (P : Order → Type 0) (x y : Order) (xs ys : List Order) → Exactly d P (x ∷ xs) → Exactly d P (y ∷ ys) → x ≡ y
same_head d P x y xs ys a b =
    ⊎_elim (λ e. e)
    (λ m.
    ⊎_elim (λ e. sym e)
    (λ n.
    absurd (before_irrefl d x
    (before_trans d x y x (ahead_of d x xs a.sorted y n) (ahead_of d y ys b.sorted x m))))
    (a.complete y (b.sound y (inl refl))))
    (b.complete x (a.sound x (inl refl)))

pub exactly_unique : (d : Direction) (xs ys : List Order) (P : Order → Type 0) → Exactly d P xs → Exactly d P ys → xs ≡ ys
exactly_unique d [] [] P a b = refl
exactly_unique d [] (y ∷ ys) P a b = absurd (a.complete y (b.sound y (inl refl)))
exactly_unique d (x ∷ xs) [] P a b = absurd (b.complete x (a.sound x (inl refl)))
exactly_unique d (x ∷ xs) (y ∷ ys) P a b =
    let e : x ≡ y = same_head d P x y xs ys a b in
    let c : Exactly d P (x ∷ ys) = subst (λ (z : Order). Exactly d P (z ∷ ys)) (sym e) b in
    ap (λ (z : Order). z ∷ xs) e ∙
    ap (λ l. y ∷ l)
    (exactly_unique d xs ys (λ z. P z × Before d x z) (exactly_tail d P x xs a) (exactly_tail d P x ys c))

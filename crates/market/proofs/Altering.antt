-- An order leaves its place and stands again.
use Rattle.std.proofs.Common.{◌≡◌, ℕ, zero, suc, ◌+◌, ◌<◌, ◌≤◌, Bool, true, false, not, cond, ◌&&◌, nat_lt, List, [], ◌∷◌, length, set, Some, None, Option, refl, sym, ap, subst, ◌∙◌, arith}
use Rattle.std.proofs.lemmas.Bool.{and_from, and_parts, not_from_false, lt-ltb, cond-true, cond-false, eqb-true}
use Rattle.std.specs.List as lists
use Rattle.std.specs.List.{slice_get, list_all, find, position_or_len}
use Rattle.std.proofs.lemmas.List.{set-get_or}
use Rattle.std.proofs.lemmas.List.Edits.{length-remove}
use Rattle.std.proofs.lemmas.List.Folds.{find_at}
use Rattle.std.proofs.lemmas.Option.{slice_get_within, get_or_from_slice_get}
use Rattle.std.specs.Option.{option_or}
use Rattle.rules.specs.Book.{Book}
use Rattle.rules.specs.Rank.{before}
use Rattle.rules.specs.Side.{opposite}
use Rattle.rules.specs.declared.order.Direction.{Direction}
use Rattle.rules.specs.declared.order.Direction.TheVariants.{Buy, Sell}
use Rattle.rules.specs.declared.order.Order.{Order}
use Rattle.tables.specs.Listing.{numbered, times, insert, with_volume, without, in_rank}
use Rattle.tables.specs.Meaning.{Contents, Sound, listed, with_listed, lookup, book_of, held, takes, put_in, added, removed, volume_set}
use Rattle.tables.proofs.Keeps.{held_none}
use Rattle.tables.proofs.Numbers.{without_at, set_volume_at, times_at}
use Rattle.tables.proofs.Ranking.{ranking, Ranking}
use Rattle.market.proofs.Taking.{passes_at, listed_side, removed_listed, set_listed, stands, few}
use Rattle.market.proofs.Sweeping.{with_same}

-- the table without the order
abbrev pub without_order : Order → Contents → Contents
without_order o c = with_listed o.direction (without o.number (listed o.direction c)) c

listed_own : (d : Direction) (xs : List Order) (c : Contents) → listed (opposite d) (with_listed d xs c) ≡ listed (opposite d) c
listed_own Buy xs c = refl
listed_own Sell xs c = refl

-- an order that is found has the number that was looked for
number_of : (n : ℕ) (xs : List Order) (o : Order) → find (numbered n) xs ≡ Some o → o.number ≡ n
number_of n [] o h = let z : ◌≡◌ {A = ℕ} 0 1 = cc in absurd (omega arith)
number_of n (x ∷ xs) o h = go (number_of n xs o) (numbered n x) refl h
  where
    go : (find (numbered n) xs ≡ Some o → o.number ≡ n) → (b : Bool) → numbered n x ≡ b → cond b (Some x) (find (numbered n) xs) ≡ Some o → o.number ≡ n
    go ih true e k = let y : x ≡ o = cc in sym (ap (λ z. z.number) y) ∙ eqb-true x.number n e
    go ih false e k = ih k

pub found_number : (n : ℕ) (b : Book) (o : Order) → lookup n b ≡ Some o → o.number ≡ n
found_number n b o h = go (find (numbered n) b.buys) refl h
  where
    go : (x : Option Order) → find (numbered n) b.buys ≡ x → option_or x (find (numbered n) b.sells) ≡ Some o → o.number ≡ n
    go (Some x) e k = number_of n b.buys o (e ∙ k)
    go None e k = number_of n b.sells o k

-- where it stands on its side
record Held (c : Contents) (o : Order) : Type 0 where
  rank : ℕ
  there : slice_get (listed o.direction c) rank ≡ Some o

looked_up : (n : ℕ) (c : Contents) → Sound c → (o : Order) → lookup n c.book ≡ Some o → Held c o
looked_up n c s o h = go (find (numbered n) c.book.buys) refl h
  where
    on : (d : Direction) → find (numbered n) (listed d c) ≡ Some o → Held c o
    on d e =
        let i = position_or_len (numbered n) (listed d c) in
        let there = sym (find_at (numbered n) (listed d c)) ∙ e in
        record { rank = i; there = subst (λ x. slice_get (listed x c) i ≡ Some o) (sym (listed_side c s d i o there)) there }

    go : (x : Option Order) → find (numbered n) c.book.buys ≡ x → option_or x (find (numbered n) c.book.sells) ≡ Some o → Held c o
    go (Some b) e k = on Buy (e ∙ k)
    go None e k = on Sell k

-- no order has a number that was taken out
without_none : (n : ℕ) (xs : List Order) → times n (without n xs) ≡ 0
without_none n [] = refl
without_none n (x ∷ xs) = go (numbered n x) refl (without_none n xs)
  where
    go : (b : Bool) → numbered n x ≡ b → times n (without n xs) ≡ 0 → times n (cond (not b) (x ∷ without n xs) (without n xs)) ≡ 0
    go true e h = h
    go false e h = ap (λ b. cond b 1 0 + times n (without n xs)) e ∙ omega arith

-- the order o of the table c, and e of its number and side
module _ (c : Contents) (s : Sound c) (o : Order) (e : Order) (found : lookup e.number c.book ≡ Some o) (side_is : o.direction ≡ e.direction) where
  number : o.number ≡ e.number
  number = found_number e.number c.book o found

  at : Held c o
  at = looked_up e.number c s o found

  abbrev i : ℕ
  i = at.rank

  at_side : slice_get (listed e.direction c) i ≡ Some o
  at_side = subst (λ d. slice_get (listed d c) i ≡ Some o) side_is at.there

  gone : removed e.number c ≡ without_order e c
  gone = subst (λ n. removed n c ≡ with_listed e.direction (without n (listed e.direction c)) c) number (removed_listed c s e.direction i o at_side)

  shorter : length (without e.number (listed e.direction c)) + 1 ≡ length (listed e.direction c)
  shorter =
      let w = without_at o.number (listed e.direction c) i (stands c s e.direction i o at_side) (few c s e.direction i o at_side) in
      omega (arith, ap length (w ∙ ap (λ n. without n (listed e.direction c)) number), length-remove (listed e.direction c) i (slice_get_within (listed e.direction c) i o at_side))

  takes_again : takes (without_order e c) e ≡ true
  takes_again = go e.direction shorter (s.fits e.direction) (one e.direction at_side)
    where
      alone : (d : Direction) → slice_get (listed d c) i ≡ Some o → times o.number (listed (opposite d) c) ≡ 0
      alone Buy h = omega (arith, s.once o.number, times_at o.number c.book.buys i (stands c s Buy i o h))
      alone Sell h = omega (arith, s.once o.number, times_at o.number c.book.sells i (stands c s Sell i o h))

      one : (d : Direction) → slice_get (listed d c) i ≡ Some o → times e.number (listed (opposite d) c) ≡ 0
      one d h = subst (λ n. times n (listed (opposite d) c) ≡ 0) number (alone d h)

      go : (d : Direction) → length (without e.number (listed d c)) + 1 ≡ length (listed d c) → length (listed d c) ≤ c.capacity.places → times e.number (listed (opposite d) c) ≡ 0 →
          (nat_lt (length (listed d (with_listed d (without e.number (listed d c)) c))) c.capacity.places && not (held e.number (with_listed d (without e.number (listed d c)) c).book)) ≡ true
      go Buy a b z =
          let xs = without e.number c.book.buys in
          and_from _ _ (lt-ltb (length xs) c.capacity.places (omega arith)) (not_from_false _ (held_none (book_of xs c.book.sells) e.number (omega (arith, without_none e.number c.book.buys))))
      go Sell a b z =
          let xs = without e.number c.book.sells in
          and_from _ _ (lt-ltb (length xs) c.capacity.places (omega arith)) (not_from_false _ (held_none (book_of c.book.buys xs) e.number (omega (arith, without_none e.number c.book.sells))))

  -- once o is out
  module _ (out : Contents) (is : out ≡ removed e.number c) where
    pub takes_back : takes out e ≡ true
    takes_back = subst (λ z. takes z e ≡ true) (sym (is ∙ gone)) takes_again

    pub other_side : listed (opposite e.direction) out ≡ listed (opposite e.direction) c
    other_side = ap (listed (opposite e.direction)) (is ∙ gone) ∙ listed_own e.direction (without e.number (listed e.direction c)) c

-- an order with another volume keeps its place
module _ (d : Direction) (v : ℕ) where
  -- on one side, orders that rank by their volume's leave
  r : Ranking (before d)
  r = ranking d

  all_first : (o : Order) (xs : List Order) → list_all (before d o) xs ≡ true → insert (before d) (with_volume v o) xs ≡ with_volume v o ∷ xs
  all_first o [] h = refl
  all_first o (x ∷ xs) h = cond-true _ _ _ (and_parts (before d o x) (list_all (before d o) xs) h).0

  put_back : (o : Order) (xs : List Order) (i : ℕ) → in_rank (before d) xs ≡ true → slice_get xs i ≡ Some o → insert (before d) (with_volume v o) (lists.remove xs i) ≡ set xs i (with_volume v o)
  put_back o [] i a h = let z : ◌≡◌ {A = ℕ} 0 1 = cc in absurd (omega arith)
  put_back o (x ∷ xs) zero a h =
      let e : x ≡ o = cc in
      all_first o xs (subst (λ z. list_all (before d z) xs ≡ true) e (and_parts (list_all (before d x) xs) _ a).0)
  put_back o (x ∷ xs) (suc i) a h =
      let p = and_parts (list_all (before d x) xs) _ a in
      let no : before d o x ≡ false = r.one_way x o (passes_at (before d x) xs i o p.0 h) in
      cond-false _ _ _ no ∙ ap (λ ys. x ∷ ys) (put_back o xs i p.1 h)

pub kept_in_place : (c : Contents) → Sound c → (o : Order) (v : ℕ) (i : ℕ) → slice_get (listed o.direction c) i ≡ Some o → (v ≡ 0 → ⊥) → volume_set o.number v c ≡ put_in (with_volume v o) (without_order o c)
kept_in_place c s o v i h p =
    let d = o.direction in
    let xs = listed d c in
    let back = put_back d v o xs i (s.sorted d) h in
    let w = without_at o.number xs i (stands c s d i o h) (few c s d i o h) in
    let sv = set_volume_at o.number v xs i o (stands c s d i o h) (few c s d i o h) in
    set_listed c s d i o h v p
    ∙ ap (λ ys. with_listed d ys c) (sym (ap (λ z. set xs i (with_volume v z)) (sym (get_or_from_slice_get xs i o o h)) ∙ sv) ∙ sym back ∙ ap (insert (before d) (with_volume v o)) w)
    ∙ put_is d
  where
    put_is : (d : Direction) → with_listed d (insert (before d) (with_volume v o) (without o.number (listed d c))) c ≡ with_listed d (insert (before d) (with_volume v o) (listed d (with_listed d (without o.number (listed d c)) c))) (with_listed d (without o.number (listed d c)) c)
    put_is Buy = refl
    put_is Sell = refl

module _ (c : Contents) (s : Sound c) (o : Order) (found : lookup o.number c.book ≡ Some o) where
  place : Held c o
  place = looked_up o.number c s o found

  -- an order that is given another volume leaves the table and comes back
  pub set_in_place : (v : ℕ) → (v ≡ 0 → ⊥) → volume_set o.number v c ≡ added (with_volume v o) (removed o.number c)
  set_in_place v some =
      kept_in_place c s o v place.rank place.there some
      ∙ sym (cond-true _ (put_in (with_volume v o) (without_order o c)) (without_order o c) (takes_again c s o (with_volume v o) found refl))
      ∙ ap (added (with_volume v o)) (sym (gone c s o o found refl))

  -- with its own volume the table is as it was
  pub as_it_was : 0 < o.volume → c ≡ added (with_volume o.volume o) (removed o.number c)
  as_it_was some =
      let d = o.direction in
      let is = get_or_from_slice_get (listed d c) place.rank o o place.there in
      let sv = set_volume_at o.number o.volume (listed d c) place.rank o (stands c s d place.rank o place.there) (few c s d place.rank o place.there) in
      sym (
      set_listed c s d place.rank o place.there o.volume (λ z. omega arith)
      ∙ ap (λ ys. with_listed d ys c) (sym (ap (λ z. set (listed d c) place.rank (with_volume o.volume z)) (sym is) ∙ sv) ∙ ap (set (listed d c) place.rank) (sym is) ∙ set-get_or (listed d c) place.rank o)
      ∙ with_same d c
      )
      ∙ set_in_place o.volume (λ z. omega arith)

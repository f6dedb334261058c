-- What every table keeps, after an order was put in, taken out or given another volume.
use Rattle.std.proofs.Common.{◌≡◌, ℕ, ◌+◌, ◌<◌, ◌≤◌, true, false, not, List, length, get_or, set, is_some, Some, None, Option, sym, refl, ap, ◌∙◌, subst, arith}
use Rattle.std.specs.List as lists
use Rattle.std.proofs.lemmas.Option.{slice_get-get_or}
use Rattle.std.proofs.lemmas.List.{length-map, get_or_default}
use Rattle.std.proofs.lemmas.Bool.{both_ways, cond_both}
use Rattle.std.proofs.lemmas.Bool.Decides.{nat_tests}
use Rattle.std.specs.List.{find}
use Rattle.std.specs.Option.{option_or}
use Rattle.rules.specs.Book.{Book, side, no_order}
use Rattle.rules.specs.Side.{same, opposite}
use Rattle.rules.specs.Rank.{before}
use Rattle.rules.specs.declared.order.Direction.{Direction}
use Rattle.rules.specs.declared.order.Direction.TheVariants.{Buy, Sell}
use Rattle.rules.specs.declared.order.Order.{Order}
use Rattle.tables.specs.Listing.{numbered, times, insert, without, with_volume, volume_at, set_volume, in_rank, on_side}
use Rattle.tables.specs.Meaning.{Contents, Sound, listed, holding, put_in, book_of, with_side, each_side, lookup, held}
use Rattle.tables.specs.Stored.{Stands}
use Rattle.tables.proofs.Numbers.{find_none, find_some, find_gone, find_at, without_none, without_at, set_volume_none, set_volume_at, times_at, counted-insert, times-without, times-set_volume}
use Rattle.tables.proofs.Ranking.{ranking, all_insert, all_kept, all-set_volume, in_rank-insert, in_rank_kept, in_rank-set_volume, length-insert}
use Rattle.std.proofs.lemmas.List.Sums.{length-filter, count_by-le-length}

-- the count of a number on one side and on the other
sides : (b : Book) (n : ℕ) (d : Direction) → times n b.buys + times n b.sells ≡ times n (side d b) + times n (side (opposite d) b)
sides b n Buy = refl
sides b n Sell = omega arith

pub side_none : (b : Book) (n : ℕ) (d : Direction) → times n b.buys + times n b.sells ≡ 0 → times n (side d b) ≡ 0
side_none b n d e = omega (arith, sides b n d)

both_none : (x y : Option Order) → is_some (option_or x y) ≡ false → (x ≡ None) × (y ≡ None)
both_none (Some o) y e = absurd (both_ways true e refl)
both_none None (Some o) e = absurd (both_ways true e refl)
both_none None None e = (refl, refl)

some_or : (x y : Option Order) → y ≡ None → option_or x y ≡ x
some_or (Some o) y e = refl
some_or None y e = e

-- a number that the other side does not hold
lookup_side : (b : Book) (n : ℕ) (d : Direction) → times n (side (opposite d) b) ≡ 0 → lookup n b ≡ find (numbered n) (side d b)
lookup_side b n Buy e = some_or (find (numbered n) b.buys) (find (numbered n) b.sells) (find_none n b.sells e)
lookup_side b n Sell e = ap (λ x. option_or x (find (numbered n) b.sells)) (find_none n b.buys e)

only_side : (f : List Order → List Order) (b : Book) (d : Direction) → f (side (opposite d) b) ≡ side (opposite d) b → with_side d (f (side d b)) b ≡ each_side f b
only_side f b Buy e = ap (book_of (f b.buys)) (sym e)
only_side f b Sell e = ap (λ bs. book_of bs (f b.sells)) (sym e)

-- a number that is not held
module _ (b : Book) (n : ℕ) where
  pub lookup_none : times n b.buys + times n b.sells ≡ 0 → lookup n b ≡ None
  lookup_none e = lookup_side b n Buy (omega arith) ∙ find_none n b.buys (omega arith)

  pub held_none : times n b.buys + times n b.sells ≡ 0 → held n b ≡ false
  held_none e = ap is_some (lookup_none e)

  pub free : held n b ≡ false → times n b.buys + times n b.sells ≡ 0
  free e =
      let gone = both_none (find (numbered n) b.buys) (find (numbered n) b.sells) e in
      omega (arith, find_gone n b.buys gone.0, find_gone n b.sells gone.1)

some_side : (x y : Option Order) → is_some y ≡ true → is_some (option_or x y) ≡ true
some_side (Some o) y e = refl
some_side None y e = e

first_side : (x y : Option Order) → is_some x ≡ true → is_some (option_or x y) ≡ true
first_side (Some o) y e = refl
first_side None y e = absurd (both_ways false refl e)

pub held_on : (b : Book) (n : ℕ) (d : Direction) (i : ℕ) → Stands n (side d b) i → held n b ≡ true
held_on b n Buy i s = first_side (find (numbered n) b.buys) (find (numbered n) b.sells) (find_some n b.buys (times_at n b.buys i s))
held_on b n Sell i s = some_side (find (numbered n) b.buys) (find (numbered n) b.sells) (find_some n b.sells (times_at n b.sells i s))

-- the order with the number n stands on side d at index i
module _ (b : Book) (n : ℕ) (once : times n b.buys + times n b.sells ≤ 1) (d : Direction) (i : ℕ) (s : Stands n (side d b) i) where
  few : times n (side d b) ≤ 1
  few = omega (arith, sides b n d)

  none : times n (side (opposite d) b) ≡ 0
  none = omega (arith, sides b n d, times_at n (side d b) i s)

  pub lookup_at : Some (get_or (side d b) i no_order) ≡ lookup n b
  lookup_at = sym (slice_get-get_or (side d b) i no_order s.0) ∙ find_at n (side d b) i s few ∙ sym (lookup_side b n d none)

  pub removed_at : with_side d (lists.remove (side d b) i) b ≡ each_side (without n) b
  removed_at = ap (λ os. with_side d os b) (without_at n (side d b) i s few) ∙ only_side (without n) b d (without_none n (side (opposite d) b) none)

  pub volume_set_at : (v : ℕ) (e : Order) → with_side d (set (side d b) i (with_volume v (get_or (side d b) i e))) b ≡ each_side (set_volume n v) b
  volume_set_at v e = ap (λ os. with_side d os b) (set_volume_at n v (side d b) i e s few) ∙ only_side (set_volume n v) b d (set_volume_none n v (side (opposite d) b) none)

side_of : (f : List Order → List Order) (b : Book) (d : Direction) → side d (each_side f b) ≡ f (side d b)
side_of f b Buy = refl
side_of f b Sell = refl

module _ (t : Contents) (s : Sound t) where
  abbrev b : Book
  b = t.book

  pub sound_removed : (n : ℕ) → Sound (holding t (each_side (without n) b))
  sound_removed n =
      let is = side_of (without n) b in
      record {
        fits = λ d. rw (is d) (omega (arith, s.fits d, length-filter (λ o. not (numbered n o)) (side d b), count_by-le-length (λ o. not (numbered n o)) (side d b)));
        sorted = λ d. rw (is d) (in_rank_kept (ranking d) (λ o. not (numbered n o)) (side d b) (s.sorted d));
        sided = λ d. rw (is d) (all_kept (λ o. same o.direction d) (λ o. not (numbered n o)) (side d b) (s.sided d));
        once = λ m. omega (arith, s.once m, times-without m n b.buys, times-without m n b.sells);
      }

  pub sound_volume_set : (n v : ℕ) → Sound (holding t (each_side (set_volume n v) b))
  sound_volume_set n v =
      let is = side_of (set_volume n v) b in
      record {
        fits = λ d. rw (is d) (omega (arith, s.fits d, length-map (side d b) (volume_at n v)));
        sorted = λ d. rw (is d) (in_rank-set_volume (ranking d) n v (side d b) ∙ s.sorted d);
        sided = λ d. rw (is d) (all-set_volume (λ o. same o.direction d) n v (same_side n v d) (side d b) ∙ s.sided d);
        once = λ m. omega (arith, s.once m, times-set_volume m n v b.buys, times-set_volume m n v b.sells);
      }
    where
      same_side : (n v : ℕ) (d : Direction) (o : Order) → same (volume_at n v o).direction d ≡ same o.direction d
      same_side n v d o = cond_both (numbered n o) (with_volume v o) o (λ x. same x.direction d ≡ same o.direction d) (λ _. refl) (λ _. refl)

-- the side that an insertion changes, and the other
module _ (b : Book) (d : Direction) (os : List Order) (P : Direction → List Order → Type 0) where
  pub side_by_side : P d os → ((e : Direction) → P e (side e b)) → (e : Direction) → P e (side e (with_side d os b))
  side_by_side p q e = go d e p
    where
      go : (d e : Direction) → P d os → P e (side e (with_side d os b))
      go Buy Buy p = p
      go Buy Sell p = q Sell
      go Sell Buy p = q Buy
      go Sell Sell p = p

same_itself : (d : Direction) → same d d ≡ true
same_itself Buy = refl
same_itself Sell = refl

times_side : (b : Book) (d : Direction) (os : List Order) (m : ℕ) → times m (with_side d os b).buys + times m (with_side d os b).sells ≡ times m os + times m (side (opposite d) b)
times_side b Buy os m = refl
times_side b Sell os m = omega arith

pub sound_inserted : (t : Contents) (o : Order) → Sound t → length (listed o.direction t) < t.capacity.places → times o.number t.book.buys + times o.number t.book.sells ≡ 0 → Sound (put_in o t)
sound_inserted t o s room free =
    let b = t.book in
    let d = o.direction in
    let lt = before d in
    let os = insert lt o (side d b) in
    let none = side_none b o.number d free in
    record {
      fits = side_by_side b d os (λ e xs. length xs ≤ t.capacity.places) (omega (arith, length-insert lt o (side d b))) s.fits;
      sorted = side_by_side b d os (λ e xs. in_rank (before e) xs ≡ true) (in_rank-insert (ranking d) o (side d b) none (s.sorted d)) s.sorted;
      sided = side_by_side b d os (λ e xs. on_side e xs ≡ true) (all_insert (λ x. same x.direction d) lt o (side d b) (same_itself d) (s.sided d)) s.sided;
      once = λ m.
          let i = counted-insert (numbered m) lt o (side d b) in
          let t = times_side b d os m in
          let u = sides b m d in
          let f = s.once m in
          grind (arith, nat_tests);
    }

-- the number of the order at an index
abbrev pub number_at : Book → Direction → ℕ → ℕ
number_at b d i = (get_or (side d b) i no_order).number

pub stands_at : (b : Book) (d : Direction) (i : ℕ) → i < length (side d b) → Stands (number_at b d i) (side d b) i
stands_at b d i below = (below, λ e. ap (λ o. o.number) (get_or_default (side d b) i e no_order below))

-- what every table keeps, after a change at an index
module _ (t : Contents) (s : Sound t) (d : Direction) (i : ℕ) (below : i < length (listed d t)) where
  abbrev n : ℕ
  n = number_at t.book d i

  pub sound_removed_at : Sound (holding t (with_side d (lists.remove (listed d t) i) t.book))
  sound_removed_at = subst (λ b. Sound (holding t b)) (sym (removed_at t.book n (s.once n) d i (stands_at t.book d i below))) (sound_removed t s n)

  pub sound_volume_set_at : (v : ℕ) (o : Order) → Sound (holding t (with_side d (set (listed d t) i (with_volume v (get_or (listed d t) i o))) t.book))
  sound_volume_set_at v o = subst (λ b. Sound (holding t b)) (sym (volume_set_at t.book n (s.once n) d i (stands_at t.book d i below) v o)) (sound_volume_set t s n v)

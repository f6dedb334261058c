-- A run of which one half was changed.
use Rattle.std.proofs.Common.{true, ◌≡◌, ℕ, ◌+◌, ◌-◌, ◌/◌, ◌<◌, ◌≤◌, List, ◌++◌, length, get_or, take, drop, set, sym, refl, ap, ◌∙◌, subst, arith}
use lib.Seq.{take-set-lt}
use borrow.Rule.Slice.PartMut.{put_mid, same_len_mid}
use Rattle.std.proofs.lemmas.List.{length-set, length-take-le, length-drop, get_or-take, get_or-drop, take-append-le, take-take, take-set-le, drop_at, drop-set-lt, drop-set-add}
use Rattle.std.proofs.lemmas.Slice.{take-put_mid_below}
use Rattle.std.specs.List.{remove}
use Rattle.rules.specs.Book.{Book, no_order}
use Rattle.rules.specs.Rank.{before}
use Rattle.rules.specs.declared.order.Direction.{Direction}
use Rattle.rules.specs.declared.order.Direction.TheVariants.{Buy, Sell}
use Rattle.rules.specs.declared.order.Order.{Order}
use Rattle.tables.specs.declared.both.Both.{Both}
use Rattle.tables.specs.declared.place.Place.{Place}
use Rattle.tables.specs.Both.{of, with_other}
use Rattle.tables.specs.Listing.{insert, with_volume}
use Rattle.tables.specs.Meaning.{ordered, Capacity, Contents, Sound, listed, holding, book_of, with_side, put_in, takes}
use Rattle.tables.specs.Run.{half, start, run_capacity, stored, Kept}
use Rattle.tables.specs.Stored.{with_volume_at}
use Rattle.tables.proofs.Keeps.{sound_inserted, sound_removed_at, sound_volume_set_at}
use Rattle.tables.proofs.Stands.{taken, ordered_same}

abbrev make : Capacity → Book → Contents
make c b = record { capacity = c; book = b }

with_parts : (c e : Capacity) (b d : Book) → c ≡ e → b ≡ d → make c b ≡ make e d
with_parts c e b d p q = ap (λ x. make x b) p ∙ ap (make e) q

pub count_set : (run : List Order) (n : Both ℕ) → ((d : Direction) → of d n ≤ half run) → (d : Direction) (m : ℕ) → m ≤ half run → (e : Direction) → of e (with_other d m n) ≤ half run
count_set run n le Buy m h Buy = h
count_set run n le Buy m h Sell = le Sell
count_set run n le Sell m h Buy = le Buy
count_set run n le Sell m h Sell = h

-- a run in which no side reaches past its half, and what stands in it is a table's
pub kept_from : (run : List Order) (n : Both ℕ) → ((d : Direction) → of d n ≤ half run) → Sound (stored run n) → Kept run n
kept_from run n le s =
    record { buys = le Buy; sells = le Sell; ranked = s.sorted; sound = subst Sound (sym (ordered_same (stored run n) s.sorted)) s }

module _ (run : List Order) (n : Both ℕ) (l : Kept run n) where
  abbrev t : Contents
  t = stored run n

  pub count_le : (d : Direction) → of d n ≤ half run
  count_le Buy = l.buys
  count_le Sell = l.sells

  pub length_row : (d : Direction) → length (listed d t) ≡ of d n
  length_row Buy = length-take-le n.buys run (omega (arith, l.buys))
  length_row Sell = length-take-le n.sells (drop (half run) run) (rw length-drop (omega (arith, l.sells)))

  pub sound_stored : Sound t
  sound_stored = subst Sound (ordered_same t l.ranked) l.sound

  row_at : (d : Direction) → take (of d n) (drop (start d run) run) ≡ listed d t
  row_at Buy = refl
  row_at Sell = refl

  -- the half of side d: k orders from s on
  module _ (d : Direction) (s k : ℕ) (p : s ≡ start d run) (q : k ≡ half run) where
    pub row_is : take (of d n) (take k (drop s run)) ≡ listed d t
    row_is = take-take (of d n) k (drop s run) (omega (arith, count_le d)) ∙ ap (λ j. take (of d n) (drop j run)) p ∙ row_at d

    pub length_half : length (take k (drop s run)) ≡ k
    length_half = length-take-le k (drop s run) (rw length-drop (go d p))
      where
        go : (e : Direction) → s ≡ start e run → k ≤ length run - s
        go Buy p = omega arith
        go Sell p = omega arith

    -- it now holds r, of which the first so many are orders
    module _ (r : List Order) (len : length r ≡ length (take k (drop s run))) (count : ℕ) (fits : count ≤ half run) where
      pub same_length : length (put_mid s k run r) ≡ length run
      same_length = same_len_mid s k run r len

      long : length r ≡ half run
      long = len ∙ length_half ∙ q

      first_book : (j : ℕ) → j ≡ 0 → book_of (take count (put_mid j k run r)) (take n.sells (drop (half run) (put_mid j k run r))) ≡ with_side Buy (take count r) t.book
      first_book j z =
          ap (λ i. book_of (take count (put_mid i k run r)) (take n.sells (drop (half run) (put_mid i k run r)))) z
          ∙ ap (λ bs. book_of bs (take n.sells (drop (half run) (r ++ drop k run)))) (take-append-le count r (drop k run) (omega (arith, long)))
          ∙ ap (λ ss. book_of (take count r) (take n.sells ss)) (drop_at r (drop k run) (half run) long ∙ ap (λ i. drop i run) q)

      second_book : (j : ℕ) → j ≡ half run → book_of (take n.buys (put_mid j k run r)) (take count (drop (half run) (put_mid j k run r))) ≡ with_side Sell (take count r) t.book
      second_book j z =
          let front : length (take (half run) run) ≡ half run = length-take-le (half run) run (omega arith) in
          let rest = drop k (drop (half run) run) in
          ap (λ i. book_of (take n.buys (put_mid i k run r)) (take count (drop (half run) (put_mid i k run r)))) z
          ∙ ap (λ bs. book_of bs (take count (drop (half run) (put_mid (half run) k run r)))) (take-put_mid_below (half run) k run r n.buys l.buys (omega arith))
          ∙ ap (λ ss. book_of (take n.buys run) (take count ss)) (drop_at (take (half run) run) (r ++ rest) (half run) front)
          ∙ ap (book_of (take n.buys run)) (take-append-le count r rest (omega (arith, long)))

      pub edited : stored (put_mid s k run r) (with_other d count n) ≡ holding t (with_side d (take count r) t.book)
      edited = with_parts _ _ _ _ (ap run_capacity same_length) (go d p)
        where
          same_half : half (put_mid s k run r) ≡ half run
          same_half = ap (λ m. m / 2) same_length

          go : (e : Direction) → s ≡ start e run → (stored (put_mid s k run r) (with_other e count n)).book ≡ with_side e (take count r) t.book
          go Buy z = ap (λ h. book_of (take count (put_mid s k run r)) (take n.sells (drop h (put_mid s k run r)))) same_half ∙ first_book s z
          go Sell z = ap (λ h. book_of (take n.buys (put_mid s k run r)) (take count (drop h (put_mid s k run r)))) same_half ∙ second_book s z

      -- so it is a queue's, if those are a table's
      pub kept_edited : Sound (holding t (with_side d (take count r) t.book)) → Kept (put_mid s k run r) (with_other d count n)
      kept_edited sound =
          kept_from (put_mid s k run r) (with_other d count n)
          (λ e. subst (λ h. of e (with_other d count n) ≤ h) (sym (ap (λ m. m / 2) same_length)) (count_set run n count_le d count fits e))
          (subst Sound (sym edited) sound)

  -- an order written over the one at a place
  module _ (d : Direction) (s i : ℕ) (p : s ≡ start d run) (below : i < of d n) (o : Order) where
    written : stored (set run (s + i) o) n ≡ holding t (with_side d (set (listed d t) i o) t.book)
    written = with_parts _ _ _ _ (ap run_capacity (length-set run (s + i) o)) (ap (λ m. book_of (take n.buys (set run (s + i) o)) (take n.sells (drop m (set run (s + i) o)))) same_half ∙ go d p below)
      where
        same_half : half (set run (s + i) o) ≡ half run
        same_half = ap (λ m. m / 2) (length-set run (s + i) o)

        go : (e : Direction) → s ≡ start e run → i < of e n
            → book_of (take n.buys (set run (s + i) o)) (take n.sells (drop (half run) (set run (s + i) o))) ≡ with_side e (set (listed e t) i o) t.book
        go Buy z b =
            let at : s + i ≡ i = omega arith in
            ap (λ j. book_of (take n.buys (set run j o)) (take n.sells (drop (half run) (set run j o)))) at
            ∙ ap (λ bs. book_of bs (take n.sells (drop (half run) (set run i o)))) (take-set-lt n.buys run i o b)
            ∙ ap (λ ss. book_of (set t.book.buys i o) (take n.sells ss)) (drop-set-lt (half run) run i o (omega (arith, l.buys)))
        go Sell z b =
            ap (λ j. book_of (take n.buys (set run (j + i) o)) (take n.sells (drop (half run) (set run (j + i) o)))) z
            ∙ ap (λ bs. book_of bs (take n.sells (drop (half run) (set run (half run + i) o)))) (take-set-le n.buys run (half run + i) o (omega (arith, l.buys)))
            ∙ ap (λ ss. book_of t.book.buys (take n.sells ss)) (drop-set-add (half run) run i o)
            ∙ ap (book_of t.book.buys) (take-set-lt n.sells (drop (half run) run) i o b)

    order_at : (e : Order) → get_or run (s + i) e ≡ get_or (listed d t) i e
    order_at e = sym (get_or-drop s run i e) ∙ sym (get_or-take (of d n) (drop s run) i e below) ∙ ap (λ j. get_or (take (of d n) (drop j run)) i e) p ∙ ap (λ os. get_or os i e) (row_at d)

  pub volume_written : (p : Place) (s v : ℕ) → s ≡ start p.direction run → p.index < of p.direction n → stored (set run (s + p.index) (with_volume v (get_or run (s + p.index) no_order))) n ≡ with_volume_at p v t
  volume_written p s v is below =
      written p.direction s p.index is below (with_volume v (get_or run (s + p.index) no_order))
      ∙ ap (λ o. holding t (with_side p.direction (set (listed p.direction t) p.index (with_volume v o)) t.book)) (order_at p.direction s p.index is below no_order no_order)

  pub kept_volume : (p : Place) (s v : ℕ) → s ≡ start p.direction run → p.index < of p.direction n → Kept (set run (s + p.index) (with_volume v (get_or run (s + p.index) no_order))) n
  kept_volume p s v is below =
      let o = with_volume v (get_or run (s + p.index) no_order) in
      let sound = sound_volume_set_at t sound_stored p.direction p.index (omega (arith, length_row p.direction)) v no_order in
      kept_from (set run (s + p.index) o) n
      (λ e. subst (λ h. of e n ≤ h) (sym (ap (λ m. m / 2) (length-set run (s + p.index) o))) (count_le e))
      (subst Sound (sym (volume_written p s v is below)) sound)

  -- an order that is taken, put at its rank into the half of its side
  module _ (o : Order) (h : takes t o ≡ true) (s k : ℕ) (p : s ≡ start o.direction run) (q : k ≡ half run) (r : List Order) (len : length r ≡ length (take k (drop s run))) (c : ℕ) (is : c ≡ of o.direction n)
      (e : take (c + 1) r ≡ insert (before o.direction) o (take c (take k (drop s run)))) where
    abbrev d : Direction
    d = o.direction

    fits : c + 1 ≤ half run
    fits = omega (arith, (taken t o h).0, length_row d)

    row_now : take (c + 1) r ≡ insert (before d) o (listed d t)
    row_now = e ∙ ap (λ j. insert (before d) o (take j (take k (drop s run)))) is ∙ ap (insert (before d) o) (row_is d s k p q)

    put_now : stored (put_mid s k run r) (with_other d (c + 1) n) ≡ put_in o t
    put_now = edited d s k p q r len (c + 1) fits ∙ ap (λ os. holding t (with_side d os t.book)) row_now

    pub kept_put : Kept (put_mid s k run r) (with_other d (c + 1) n)
    kept_put =
        kept_edited d s k p q r len (c + 1) fits
        (subst (λ os. Sound (holding t (with_side d os t.book))) (sym row_now) (sound_inserted t o sound_stored (taken t o h).0 (taken t o h).1))

    pub ordered_put : ordered (stored (put_mid s k run r) (with_other d (c + 1) n)) ≡ put_in o (ordered t)
    ordered_put = ordered_same (stored (put_mid s k run r) (with_other d (c + 1) n)) kept_put.ranked ∙ put_now ∙ ap (put_in o) (sym (ordered_same t l.ranked))

  -- an order taken out of the half of its side
  pub kept_without : (p : Place) → p.index < length (listed p.direction t) → (s k : ℕ) → s ≡ start p.direction run → k ≡ half run → (r : List Order) → length r ≡ length (take k (drop s run))
      → (c : ℕ) → c ≡ of p.direction n → take (c - 1) r ≡ remove (take c (take k (drop s run))) p.index → Kept (put_mid s k run r) (with_other p.direction (c - 1) n)
  kept_without p below s k at q r len c is e =
      let d = p.direction in
      let row_now : take (c - 1) r ≡ remove (listed d t) p.index =
      e ∙ ap (λ j. remove (take j (take k (drop s run))) p.index) is ∙ ap (λ os. remove os p.index) (row_is d s k at q) in
      kept_edited d s k at q r len (c - 1) (omega (arith, count_le d))
      (subst (λ os. Sound (holding t (with_side d os t.book))) (sym row_now) (sound_removed_at t sound_stored d p.index below))

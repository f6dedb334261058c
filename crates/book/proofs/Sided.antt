-- What becomes of the two lists where a table adds an order, removes one or trades.
use Rattle.std.proofs.Common.{◌≡◌, ℕ, ◌+◌, ◌<◌, ◌≤◌, true, false, not, List, [], ◌∷◌, length, sym, refl, ap, ◌∙◌, subst, inl, inr, arith}
use Rattle.std.proofs.lemmas.Bool.{cond-true, and_from}
use Rattle.std.proofs.lemmas.Bool.Decides.{nat_tests}
use Rattle.rules.specs.Book.{Book, side}
use Rattle.rules.specs.Rank.{before}
use Rattle.rules.specs.Side.{opposite}
use Rattle.rules.specs.declared.order.Direction.{Direction}
use Rattle.rules.specs.declared.order.Direction.TheVariants.{Buy, Sell}
use Rattle.rules.specs.declared.order.Order.{Order}
use Rattle.tables.specs.Listing.{times, insert, without}
use Rattle.tables.specs.Meaning.{Contents, Fits, book_of, holding, listed, with_side, each_side, held, takes, put_in, added, removed}
use Rattle.tables.proofs.Keeps.{held_none}
use Rattle.book.proofs.Members.{Member}
use Rattle.book.specs.Calls.{with_rest}
use Rattle.book.proofs.Ranks.{none_numbered}

-- a book by one side and the side that it trades against
abbrev pub sided : Direction → List Order → List Order → Book
sided Buy own against = book_of own against
sided Sell own against = book_of against own

abbrev pub table_of : Contents → Direction → List Order → List Order → Contents
table_of t d own against = holding t (sided d own against)

pub side_own : (d : Direction) (own against : List Order) → side d (sided d own against) ≡ own
side_own Buy own against = refl
side_own Sell own against = refl

pub side_against : (d : Direction) (own against : List Order) → side (opposite d) (sided d own against) ≡ against
side_against Buy own against = refl
side_against Sell own against = refl

pub sided_same : (d : Direction) (b : Book) → sided d (side d b) (side (opposite d) b) ≡ b
sided_same Buy b = refl
sided_same Sell b = refl

put_sided : (d : Direction) (own against : List Order) (f : List Order → List Order) → with_side d (f (side d (sided d own against))) (sided d own against) ≡ sided d (f own) against
put_sided Buy own against f = refl
put_sided Sell own against f = refl

dealt_sided : (d : Direction) (own against rest : List Order) → with_side (opposite d) rest (sided d own against) ≡ sided d own rest
dealt_sided Buy own against rest = refl
dealt_sided Sell own against rest = refl

each_sided : (d : Direction) (b : Book) (f : List Order → List Order) → f (side (opposite d) b) ≡ side (opposite d) b → each_side f b ≡ sided d (f (side d b)) (side (opposite d) b)
each_sided Buy b f e = ap (book_of (f b.buys)) e
each_sided Sell b f e = ap (λ bs. book_of bs (f b.sells)) e

pub fits_sided : (t : Contents) (d : Direction) (own against : List Order) → length own ≤ t.capacity.places → length against ≤ t.capacity.places → Fits (table_of t d own against)
fits_sided t Buy own against h k Buy = h
fits_sided t Buy own against h k Sell = k
fits_sided t Sell own against h k Buy = k
fits_sided t Sell own against h k Sell = h

pub times_sided : (d : Direction) (n : ℕ) (own against : List Order) → times n own ≡ 0 → times n against ≡ 0 → times n (sided d own against).buys + times n (sided d own against).sells ≡ 0
times_sided Buy n own against h k = omega arith
times_sided Sell n own against h k = omega arith

-- no order of the list has this number
abbrev pub NoneHas : ℕ → List Order → Type 0
NoneHas n xs = (x : Order) → Member x xs → x.number ≡ n → ⊥

module _ (t : Contents) (e : Order) (own against : List Order) where
  -- a table with a place left, and no order of that number, takes the order
  pub takes_sided :
      length own < t.capacity.places → NoneHas e.number own → NoneHas e.number against →
      takes (table_of t e.direction own against) e ≡ true
  takes_sided room fresh other =
      let free : held e.number (sided e.direction own against) ≡ false =
      held_none (sided e.direction own against) e.number
      (times_sided e.direction e.number own against (none_numbered e.number own fresh) (none_numbered e.number against other))
      in
      let below : length (listed e.direction (table_of t e.direction own against)) < t.capacity.places =
      subst (λ xs. length xs < t.capacity.places) (sym (side_own e.direction own against)) room
      in
      and_from _ _ (grind (arith, nat_tests)) (ap not free)

  pub added_sided :
      takes (table_of t e.direction own against) e ≡ true →
      added e (table_of t e.direction own against) ≡ table_of t e.direction (insert (before e.direction) e own) against
  added_sided h =
      cond-true (takes (table_of t e.direction own against) e) (put_in e (table_of t e.direction own against))
      (table_of t e.direction own against) h ∙
      ap (holding t) (put_sided e.direction own against (insert (before e.direction) e))

pub with_rest_table : (t : Contents) (d : Direction) (own against rest : List Order) → with_rest d rest (table_of t d own against) ≡ table_of t d own rest
with_rest_table t d own against rest = ap (holding t) (dealt_sided d own against rest)

-- Removal ----------------------------------------------------------------------------------------------------------------

pub times_some : (n : ℕ) (xs : List Order) (o : Order) → Member o xs → o.number ≡ n → 0 < times n xs
times_some n [] o m e = absurd m
times_some n (x ∷ xs) o (inl q) e =
    let k : x.number ≡ n = sym (ap (λ (z : Order). z.number) q) ∙ e in
    grind (arith, nat_tests)
times_some n (x ∷ xs) o (inr m) e = let ih = times_some n xs o m e in omega arith

pub length-without : (n : ℕ) (xs : List Order) → length (without n xs) + times n xs ≡ length xs
length-without n [] = refl
length-without n (x ∷ xs) = let ih = length-without n xs in grind (arith, nat_tests)

pub removed_sided :
    (t : Contents) (d : Direction) (n : ℕ) → held n t.book ≡ true →
    without n (side (opposite d) t.book) ≡ side (opposite d) t.book →
    removed n t ≡ table_of t d (without n (side d t.book)) (side (opposite d) t.book)
removed_sided t d n h e =
    cond-true (held n t.book) (holding t (each_side (without n) t.book)) t h ∙ ap (holding t) (each_sided d t.book (without n) e)

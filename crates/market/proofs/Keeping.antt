-- Trading and lapsing leave a part of the orders: no number comes in.
use Rattle.std.proofs.Common.{◌≡◌, ℕ, zero, suc, ◌+◌, ◌-◌, min, ◌<◌, ◌≤◌, true, not, ◌||◌, ◌&&◌, ◌==◌, List, [], ◌∷◌, length, leb, nat_lt, arith, Some, None, Option}
use Rattle.std.proofs.lemmas.Bool.{cond_both, lt-ltb, and_from, and_parts, not-true, not_from_false}
use Rattle.std.proofs.lemmas.List.Sums.{length-filter, count_by-le-length}
use Rattle.rules.specs.Side.{opposite, willing}
use Rattle.rules.specs.declared.order.Direction.{Direction}
use Rattle.rules.specs.declared.order.Direction.TheVariants.{Buy, Sell}
use Rattle.rules.specs.declared.order.Order.{Order}
use Rattle.tables.specs.Listing.{numbered, times, with_volume, without}
use Rattle.tables.specs.Meaning.{Contents, listed, with_listed, book_of, held, takes}
use Rattle.tables.proofs.Keeps.{free, held_none}
use Rattle.tables.proofs.Numbers.{times-without}
use Rattle.book.specs.Calls.{Sweep, sweep, Pairing, pair, match_at, with_first_less, limit_orders}

pub record Part (xs ys : List Order) : Type 0 where
  pub shorter : length xs ≤ length ys
  pub numbers : (m : ℕ) → times m xs ≤ times m ys

pub part_same : (xs : List Order) → Part xs xs
part_same xs = record { shorter = omega arith; numbers = λ m. omega arith }

pub part_trans : (xs ys zs : List Order) → Part xs ys → Part ys zs → Part xs zs
part_trans xs ys zs h k =
    record { shorter = omega (arith, h.shorter, k.shorter); numbers = λ m. omega (arith, h.numbers m, k.numbers m) }

part_more : (o : Order) (xs ys : List Order) → Part xs ys → Part xs (o ∷ ys)
part_more o xs ys h = record { shorter = omega (arith, h.shorter); numbers = λ m. omega (arith, h.numbers m) }

part_cons : (o : Order) (xs ys : List Order) → Part xs ys → Part (o ∷ xs) (o ∷ ys)
part_cons o xs ys h = record { shorter = omega (arith, h.shorter); numbers = λ m. omega (arith, h.numbers m) }

part_volume : (v : ℕ) (o : Order) (os : List Order) → Part (with_volume v o ∷ os) (o ∷ os)
part_volume v o os = record { shorter = omega arith; numbers = λ m. omega arith }

pub sweep_part : (d : Direction) (n p : ℕ) (os : List Order) (v : ℕ) → Part (sweep d n p os v).rest os
sweep_part d n p [] v = part_same []
sweep_part d n p (o ∷ os) v =
    let Q : Sweep → Type 0 = λ s. Part s.rest (o ∷ os) in
    cond_both (v == 0 || not (willing (opposite d) o.price p)) _ _ Q
    (λ _. part_same (o ∷ os))
    (λ _.
    cond_both (leb o.volume v) _ _ Q
    (λ _. part_more o _ os (sweep_part d n p os (v - o.volume)))
    (λ _. part_volume (o.volume - v) o os))

less_part : (v : ℕ) (o : Order) (os : List Order) → Part (with_first_less v o os) (o ∷ os)
less_part v o os =
    cond_both (leb o.volume v) os (with_volume (o.volume - v) o ∷ os) (λ xs. Part xs (o ∷ os))
    (λ _. part_more o os os (part_same os))
    (λ _. part_volume (o.volume - v) o os)

-- both sides of a pairing
abbrev Parts : List Order → List Order → Pairing → Type 0
Parts bs ss w = Part w.buys bs × Part w.sells ss

pair_part : (p n : ℕ) (bs ss : List Order) → Parts bs ss (pair p n bs ss)
pair_part p zero bs ss = (part_same bs, part_same ss)
pair_part p (suc n) [] ss = (part_same [], part_same ss)
pair_part p (suc n) (b ∷ bs) [] = (part_same (b ∷ bs), part_same [])
pair_part p (suc n) (b ∷ bs) (s ∷ ss) =
    let v = min b.volume s.volume in
    cond_both (willing Buy b.price p && willing Sell s.price p) _ _ (Parts (b ∷ bs) (s ∷ ss))
    (λ _.
    let ih = pair_part p n (with_first_less v b bs) (with_first_less v s ss) in
    (part_trans _ (with_first_less v b bs) (b ∷ bs) ih.0 (less_part v b bs), part_trans _ (with_first_less v s ss) (s ∷ ss) ih.1 (less_part v s ss)))
    (λ _. (part_same (b ∷ bs), part_same (s ∷ ss)))

pub match_part : (price : Option ℕ) (bs ss : List Order) → Parts bs ss (match_at price bs ss)
match_part None bs ss = (part_same bs, part_same ss)
match_part (Some p) bs ss = pair_part p (length bs + length ss) bs ss

pub limit_orders_part : (xs : List Order) → Part (limit_orders xs) xs
limit_orders_part [] = part_same []
limit_orders_part (x ∷ xs) =
    let ih = limit_orders_part xs in
    cond_both x.market (limit_orders xs) (x ∷ limit_orders xs) (λ ys. Part ys (x ∷ xs)) (λ _. part_more x (limit_orders xs) xs ih) (λ _. part_cons x (limit_orders xs) xs ih)

pub without_part : (n : ℕ) (xs : List Order) → Part (without n xs) xs
without_part n xs =
    record {
      shorter = omega (arith, length-filter (λ o. not (numbered n o)) xs, count_by-le-length (λ o. not (numbered n o)) xs);
      numbers = λ m. times-without m n xs;
    }

-- the other side traded: an order that is taken is still taken
pub takes_still : (c : Contents) (o : Order) (xs : List Order) → Part xs (listed (opposite o.direction) c) → takes c o ≡ true → takes (with_listed (opposite o.direction) xs c) o ≡ true
takes_still c o xs p h = go o.direction p (and_parts _ _ h).0 (free c.book o.number (not-true _ (and_parts _ _ h).1))
  where
    go : (d : Direction) → Part xs (listed (opposite d) c) → nat_lt (length (listed d c)) c.capacity.places ≡ true → times o.number c.book.buys + times o.number c.book.sells ≡ 0 →
        (nat_lt (length (listed d (with_listed (opposite d) xs c))) c.capacity.places && not (held o.number (with_listed (opposite d) xs c).book)) ≡ true
    go Buy p l f = and_from _ _ l (not_from_false _ (held_none (book_of c.book.buys xs) o.number (omega (arith, p.numbers o.number))))
    go Sell p l f = and_from _ _ l (not_from_false _ (held_none (book_of xs c.book.sells) o.number (omega (arith, p.numbers o.number))))

-- an order whose number is not held and whose side has a place is taken
pub takes_new : (c : Contents) (o : Order) → length (listed o.direction c) < c.capacity.places → times o.number c.book.buys + times o.number c.book.sells ≡ 0 → takes c o ≡ true
takes_new c o place free = and_from _ _ (lt-ltb (length (listed o.direction c)) c.capacity.places place) (not_from_false _ (held_none c.book o.number free))

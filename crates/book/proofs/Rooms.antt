-- An accepted call's slips are as many as its answer counts, and fit its run.
use Rattle.std.proofs.Common.{◌≡◌, ℕ, zero, suc, ◌+◌, ◌-◌, ◌≤◌, ◌<◌, min, Bool, true, false, not, ◌&&◌, ◌||◌, eqb, leb, List, [], ◌∷◌, ◌++◌, length, Some, None, Option, refl, ⊎_elim, arith, length-append}
use Rattle.std.proofs.lemmas.Bool.{cond_both, cases_lt, and_parts}
use Rattle.rules.specs.declared.order.Direction.{Direction}
use Rattle.rules.specs.declared.order.Direction.TheVariants.{Buy, Sell}
use Rattle.rules.specs.declared.order.Order.{Order}
use Rattle.rules.specs.declared.terms.Terms.{Terms}
use Rattle.book.specs.declared.slip.Slip.{Slip}
use Rattle.book.specs.declared.slip.Slip.TheVariants.{Trade, Lapse}
use Rattle.rules.specs.Side.{opposite, willing}
use Rattle.tables.specs.Listing.{with_volume, without}
use Rattle.rules.specs.Book.{Book, side}
use Rattle.tables.specs.Meaning.{Contents, held, holding, each_side, listed, removed}
use Rattle.book.proofs.Sided.{length-without}
use Rattle.book.specs.Counts.{with_count}
use Rattle.book.specs.Stages.{is_open, strikes}
use Rattle.book.specs.Rows.{order_count}
use Rattle.book.specs.Day.{Day}
use Rattle.book.specs.Calls.{Made, order_of, altered_order, strike, fixing_price, match_at, Pairing, trade_then, pair, with_first_less, lapses, Sweep, slip_then, sweep, sweep_of, trade, lapse_left, entry_trading, entry_of, trades_again}
use Rattle.book.specs.Room.{FitsRun, Room}
use Rattle.book.proofs.Gate.{of_step}
use Rattle.book.proofs.Fixing.{less_length, less_shorter}

pub record Short (n : ℕ) (s : Sweep) : Type 0 where
  pub fits : length s.slips ≤ n

short_none : (n : ℕ) (os : List Order) (v : ℕ) → Short n (record { slips = []; rest = os; left = v })
short_none n os v = record { fits = omega arith }

short_one : (n : ℕ) (slip : Slip) (os : List Order) (v : ℕ) → Short (suc n) (record { slips = slip ∷ []; rest = os; left = v })
short_one n slip os v = record { fits = omega arith }

short_more : (n : ℕ) (slip : Slip) (s : Sweep) → Short n s → Short (suc n) (slip_then slip s)
short_more n slip s h = let k = h.fits in record { fits = omega arith }

pub sweep_short : (d : Direction) (n p : ℕ) (os : List Order) (v : ℕ) → Short (length os) (sweep d n p os v)
sweep_short d n p [] v = record { fits = omega arith }
sweep_short d n p (o ∷ os) v =
    cond_both (eqb v 0 || not (willing (opposite d) o.price p)) _ _ (Short (suc (length os)))
    (λ _. short_none (suc (length os)) (o ∷ os) v)
    (λ _.
    cond_both (leb o.volume v) _ _ (Short (suc (length os)))
    (λ _. short_more (length os) (trade d n o.number o.price o.volume) _ (sweep_short d n p os (v - o.volume)))
    (λ _. short_one (length os) (trade d n o.number o.price v) (with_volume (o.volume - v) o ∷ os) 0))

-- a slip for each order of the other side, and one more
pub arrived_short : (e : Order) (T : Contents) → length (entry_trading e T).slips ≤ length (listed (opposite e.direction) T) + 1
arrived_short e T =
    let s : Sweep = sweep_of e T in
    let k = (sweep_short e.direction e.number e.price (listed (opposite e.direction) T) e.volume).fits in
    let last : length (lapse_left e s.left) ≤ 1 =
    cond_both (e.market && not (eqb s.left 0)) (Lapse e.number s.left ∷ []) [] (λ l. length l ≤ 1) (λ _. omega arith) (λ _. omega arith)
    in
    omega (arith, length-append s.slips (lapse_left e s.left), last, k)

pub record Used (n : ℕ) (r : Pairing) : Type 0 where
  pub fits : length r.slips + (length r.buys + length r.sells) ≤ n

used_none : (bs ss : List Order) → Used (length bs + length ss) (record { slips = []; buys = bs; sells = ss })
used_none bs ss = record { fits = omega arith }

used_more : (n m : ℕ) (slip : Slip) (r : Pairing) → Used n r → suc n ≤ m → Used m (trade_then slip r)
used_more n m slip r h l = let k = h.fits in record { fits = omega arith }

pair_used : (p n : ℕ) (bs ss : List Order) → Used (length bs + length ss) (pair p n bs ss)
pair_used p zero bs ss = record { fits = omega arith }
pair_used p (suc n) [] ss = record { fits = omega arith }
pair_used p (suc n) (b ∷ bs) [] = record { fits = omega arith }
pair_used p (suc n) (b ∷ bs) (s ∷ ss) =
    let v : ℕ = min b.volume s.volume in
    let shorter : suc (length (with_first_less v b bs) + length (with_first_less v s ss)) ≤ suc (length bs) + suc (length ss) =
    ⊎_elim
    (λ k. omega (arith, less_shorter Buy b bs v (omega arith), less_length Sell s ss v))
    (λ k. omega (arith, less_shorter Sell s ss v (omega arith), less_length Buy b bs v))
    (cases_lt b.volume s.volume)
    in
    cond_both (willing Buy b.price p && willing Sell s.price p) _ _ (Used (suc (length bs) + suc (length ss)))
    (λ _. used_more _ _ (Trade b.number s.number p v) _ (pair_used p n (with_first_less v b bs) (with_first_less v s ss)) shorter) (λ _. used_none (b ∷ bs) (s ∷ ss))

pub match_used : (price : Option ℕ) (bs ss : List Order) → Used (length bs + length ss) (match_at price bs ss)
match_used None bs ss = record { fits = omega arith }
match_used (Some p) bs ss = pair_used p (length bs + length ss) bs ss

pub lapses_short : (xs : List Order) → length (lapses xs) ≤ length xs
lapses_short [] = omega arith
lapses_short (o ∷ xs) =
    let h = lapses_short xs in
    cond_both o.market (Lapse o.number o.volume ∷ lapses xs) (lapses xs) (λ l. length l ≤ suc (length xs))
    (λ _. omega arith) (λ _. omega arith)

pub strike_fits : (t : Terms) (day : Day) → length (strike t day).slips ≤ order_count day.table
strike_fits t day =
    let m : Pairing = match_at (fixing_price t day.table.book) day.table.book.buys day.table.book.sells in
    let k = (match_used (fixing_price t day.table.book) day.table.book.buys day.table.book.sells).fits in
    omega (
      arith,
      length-append m.slips (lapses m.buys ++ lapses m.sells),
      length-append (lapses m.buys) (lapses m.sells),
      lapses_short m.buys,
      lapses_short m.sells,
      k,
    )

each_length : (d : Direction) (n : ℕ) (b : Book) → length (side d (each_side (without n) b)) ≤ length (side d b)
each_length Buy n b = omega (arith, length-without n b.buys)
each_length Sell n b = omega (arith, length-without n b.sells)

removed_short : (d : Direction) (n : ℕ) (T : Contents) → length (listed d (removed n T)) ≤ length (listed d T)
removed_short d n T =
    cond_both (held n T.book) (holding T (each_side (without n) T.book)) T (λ (X : Contents). length (listed d X) ≤ length (listed d T))
    (λ _. each_length d n T.book) (λ _. omega arith)

-- the run is long enough for what stands on the other side
entered_fits :
    (room : ℕ) (trades : Bool) (e : Order) (T : Contents) → (trades ≡ true → length (listed (opposite e.direction) T) < room) →
    length (entry_of trades e T).slips ≤ room
entered_fits room true e T h = omega (arith, h refl, arrived_short e T)
entered_fits room false e T h = omega arith

pub room_stands : Room
room_stands t day c room =
    of_step t day room (λ c out. FitsRun room out)
    (record {
      refused = λ c n. tt;
      enters = λ e k. (refl, entered_fits room (is_open day.stage) (order_of t (suc day.tally) e) day.table k.long);
      alters =
          λ a o k.
          let T : Contents = removed o.number day.table in (
            refl,
            entered_fits room (trades_again day.stage a o) (altered_order day.tally a o) T
                (λ h. let l = k.long (and_parts (is_open day.stage) (not (eqb a.price o.price)) h).0 in
                omega (arith, l, removed_short (opposite o.direction) o.number day.table)),
          );
      withdraws = λ w o _. (refl, omega arith);
      advances =
          λ k.
          cond_both (strikes day.stage) _ _ (λ (m : Made). ((with_count m.told m.slips).slips ≡ length m.slips) × (length m.slips ≤ room))
          (λ h. let l = k.long h in (refl, omega (arith, strike_fits t day, l)))
          (λ _. (refl, omega arith));
    }) c

-- A day that is kept is kept after any call by the rules.
use Rattle.std.proofs.Common.{◌≡◌, ℕ, suc, ◌+◌, ◌<◌, ◌≤◌, Bool, true, false, cond, ◌==◌, List, refl, sym, ap, ◌∙◌, arith, ⊎_elim, zero-add, subst, Some, is_some}
use Rattle.std.proofs.lemmas.Bool.{cond_both, both_ways, ne_eqb, cases_lt}
use Rattle.rules.specs.Rank.{before}
use Rattle.rules.specs.Side.{opposite}
use Rattle.rules.specs.declared.order.Direction.{Direction}
use Rattle.rules.specs.declared.order.Direction.TheVariants.{Buy, Sell}
use Rattle.rules.specs.declared.order.Order.{Order}
use Rattle.rules.specs.declared.terms.Terms.{Terms}
use Rattle.tables.specs.Listing.{numbered, times, insert, with_volume, without}
use Rattle.tables.specs.Meaning.{Contents, listed, with_listed, holding, book_of, each_side, lookup, held, takes, put_in, added, removed}
use Rattle.tables.proofs.Keeps.{held_none}
use Rattle.tables.proofs.Numbers.{counted-insert}
use Rattle.tables.proofs.Ranking.{length-insert}
use Rattle.book.specs.declared.call.Alteration.{Alteration}
use Rattle.book.specs.declared.call.Call.{Call}
use Rattle.book.specs.declared.stage.Stage.{Stage}
use Rattle.book.specs.Stages.{is_open, strikes}
use Rattle.book.specs.Rows.{order_count}
use Rattle.book.specs.Day.{Day}
use Rattle.book.specs.Calls.{Made, order_of, alter, altered_order, alter_tally, takes_new_arrival, trades_again, entry_of, Sweep, sweep, sweep_of, with_rest, with_left, step, strike, Pairing, limit_orders, fixing_price, fixing_trades}
use Rattle.book.specs.Model.{day_after}
use Rattle.book.proofs.Gate.{of_step}
use Rattle.book.proofs.Sided.{length-without}
use Rattle.market.specs.Kept.{Kept}
use Rattle.market.proofs.Altering.{found_number}
use Rattle.market.proofs.Keeping.{Part, part_same, sweep_part, match_part, limit_orders_part, without_part, part_trans}

-- a part of the orders of c
pub record Fewer (x c : Contents) : Type 0 where
  pub orders : order_count x ≤ order_count c
  pub numbers : (m : ℕ) → times m x.book.buys + times m x.book.sells ≤ times m c.book.buys + times m c.book.sells

fewer_same : (c : Contents) → Fewer c c
fewer_same c = record { orders = omega arith; numbers = λ m. omega arith }

of_parts : (c : Contents) (bs ss : List Order) → Part bs c.book.buys → Part ss c.book.sells → Fewer (holding c (book_of bs ss)) c
of_parts c bs ss h k =
    record { orders = omega (arith, h.shorter, k.shorter); numbers = λ m. omega (arith, h.numbers m, k.numbers m) }

of_side : (c : Contents) (d : Direction) (xs : List Order) → Part xs (listed d c) → Fewer (with_listed d xs c) c
of_side c Buy xs h = of_parts c xs c.book.sells h (part_same c.book.sells)
of_side c Sell xs h = of_parts c c.book.buys xs (part_same c.book.buys) h

pub removed_fewer : (n : ℕ) (c : Contents) → Fewer (removed n c) c
removed_fewer n c =
    cond_both (held n c.book) (holding c (each_side (without n) c.book)) c (λ (x : Contents). Fewer x c)
    (λ _. of_parts c (without n c.book.buys) (without n c.book.sells) (without_part n c.book.buys) (without_part n c.book.sells))
    (λ _. fewer_same c)

-- a number that is held, and one order less without it
removed_one : (n : ℕ) (c : Contents) → held n c.book ≡ true → order_count (removed n c) + 1 ≤ order_count c
removed_one n c h =
    cond_both (held n c.book) (holding c (each_side (without n) c.book)) c (λ (x : Contents). order_count x + 1 ≤ order_count c)
    (λ _.
    ⊎_elim
    (λ (k : 0 < times n c.book.buys + times n c.book.sells). omega (arith, k, length-without n c.book.buys, length-without n c.book.sells))
    (λ (k : times n c.book.buys + times n c.book.sells ≤ 0).
    absurd (both_ways true (sym h ∙ held_none c.book n (omega (arith, k))) refl))
    (cases_lt 0 (times n c.book.buys + times n c.book.sells)))
    (λ k. absurd (both_ways true (sym h ∙ k) refl))

put_orders : (d : Direction) (e : Order) (x : Contents) → order_count (with_listed d (insert (before d) e (listed d x)) x) ≡ order_count x + 1
put_orders Buy e x = omega (arith, length-insert (before Buy) e x.book.buys)
put_orders Sell e x = omega (arith, length-insert (before Sell) e x.book.sells)

put_times : (d : Direction) (e : Order) (x : Contents) (m : ℕ) → (e.number ≡ m → ⊥) →
    times m (with_listed d (insert (before d) e (listed d x)) x).book.buys + times m (with_listed d (insert (before d) e (listed d x)) x).book.sells
    ≡ times m x.book.buys + times m x.book.sells
put_times d e x m ne = go d
  where
    other : (lt : Order → Order → Bool) (xs : List Order) → times m (insert lt e xs) ≡ times m xs
    other lt xs = counted-insert (numbered m) lt e xs ∙ ap (λ b. cond b 1 0 + times m xs) (ne_eqb e.number m ne) ∙ zero-add (times m xs)

    go : (k : Direction) → times m (with_listed k (insert (before k) e (listed k x)) x).book.buys + times m (with_listed k (insert (before k) e (listed k x)) x).book.sells ≡ times m x.book.buys + times m x.book.sells
    go Buy = ap (λ n. n + times m x.book.sells) (other (before Buy) x.book.buys)
    go Sell = ap (λ n. times m x.book.buys + n) (other (before Sell) x.book.sells)

fewer_trans : (x y z : Contents) → Fewer x y → Fewer y z → Fewer x z
fewer_trans x y z h k =
    record { orders = omega (arith, h.orders, k.orders); numbers = λ m. omega (arith, h.numbers m, k.numbers m) }

dealt_fewer : (d : Direction) (n p v : ℕ) (x : Contents) → Fewer (with_rest d (sweep d n p (listed (opposite d) x) v).rest x) x
dealt_fewer d n p v x = of_side x (opposite d) _ (sweep_part d n p (listed (opposite d) x) v)

-- a day that is kept, with as many arrivals or more, and another table
module _ (day : Day) (h : Kept day) (stage : Stage) (tally : ℕ) (later : day.tally ≤ tally) (most : tally ≤ 1000000) where
  abbrev Keeps : Contents → Type 0
  Keeps x = Kept (record { stage = stage; tally = tally; table = x })

  kept_fewer : (x : Contents) → Fewer x day.table → Keeps x
  kept_fewer x f =
      record {
        most = most;
        fewer = omega (arith, later, h.fewer, f.orders);
        known = λ n lt. omega (arith, f.numbers n, h.known n (omega (arith, lt, later)));
      }

  module _ (e : Order) (below : e.number ≤ tally) where
    kept_added : (v : ℕ) (x : Contents) → Fewer x day.table → order_count x + 1 ≤ tally → Keeps (added (with_volume v e) x)
    kept_added v x f room =
        cond_both (takes x (with_volume v e)) (put_in (with_volume v e) x) x Keeps
        (λ _.
        record {
          most = most;
          fewer = omega (arith, put_orders e.direction (with_volume v e) x, room);
          known =
              λ n lt.
              put_times e.direction (with_volume v e) x n (λ q. omega (arith, q, below, lt)) ∙ omega (arith, f.numbers n, h.known n (omega (arith, lt, later)));
        })
        (λ _. kept_fewer x f)

    -- an order enters, with a number that is given
    kept_entered : (trades : Bool) (x : Contents) → Fewer x day.table → order_count x + 1 ≤ tally → Keeps (entry_of trades e x).table
    kept_entered true x f room =
        let s : Sweep = sweep_of e x in
        let y : Contents = with_rest e.direction s.rest x in
        let g : Fewer y x = dealt_fewer e.direction e.number e.price e.volume x in
        let k : Fewer y day.table = fewer_trans y x day.table g f in
        cond_both e.market y (with_left e s.left y) Keeps
        (λ _. kept_fewer y k)
        (λ _. cond_both (s.left == 0) y (added (with_volume s.left e) y) Keeps (λ _. kept_fewer y k) (λ _. kept_added s.left y k (omega (arith, g.orders, room))))
    kept_entered false x f room = kept_added e.volume x f room

module _ (day : Day) (h : Kept day) where
  alter_kept : (a : Alteration) (o : Order) → lookup o.number day.table.book ≡ Some o → day.tally < 1000000 → Kept (alter day a o).day
  alter_kept a o found lt =
      let there : held o.number day.table.book ≡ true = ap is_some found in
      let x : Contents = removed o.number day.table in
      let one : order_count x + 1 ≤ order_count day.table = removed_one o.number day.table there in
      let tally : ℕ = alter_tally day.tally a o in
      let later : day.tally ≤ tally = cond_both (takes_new_arrival a o) (suc day.tally) day.tally (λ k. day.tally ≤ k) (λ _. omega arith) (λ _. omega arith) in
      let most : tally ≤ 1000000 = cond_both (takes_new_arrival a o) (suc day.tally) day.tally (λ k. k ≤ 1000000) (λ _. omega (arith, lt)) (λ _. omega (arith, lt)) in
      let below : o.number ≤ day.tally =
      ⊎_elim (λ (k : day.tally < o.number). absurd (both_ways true (sym there ∙ held_none day.table.book o.number (h.known o.number k)) refl)) (λ (k : o.number ≤ day.tally). k)
      (cases_lt day.tally o.number)
      in
      kept_entered day h day.stage tally later most (altered_order day.tally a o) (omega (arith, below, later)) (trades_again day.stage a o) x
      (removed_fewer o.number day.table)
      (omega (arith, one, h.fewer, later))

  pub kept_as_many : (stage : Stage) (x : Contents) → Fewer x day.table → Kept (record { stage = stage; tally = day.tally; table = x })
  kept_as_many stage x f = kept_fewer day h stage day.tally (omega arith) h.most x f

  strike_kept : (t : Terms) → Kept (strike t day).day
  strike_kept t =
      let b = day.table.book in
      let m : Pairing = fixing_trades t b in
      let p = match_part (fixing_price t b) b.buys b.sells in
      kept_as_many (strike t day).day.stage (strike t day).day.table
      (of_parts day.table (limit_orders m.buys) (limit_orders m.sells) (part_trans _ m.buys _ (limit_orders_part m.buys) p.0) (part_trans _ m.sells _ (limit_orders_part m.sells) p.1))

  kept_step : (t : Terms) (call : Call) (room : ℕ) → Kept (day_after day (step t day call room))
  kept_step t call room =
      of_step t day room (λ call out. Kept (day_after day out))
      (record {
        refused = λ call n. h;
        enters =
            λ new k.
            let e : Order = order_of t (suc day.tally) new in
            kept_entered day h day.stage (suc day.tally) (omega arith) (omega (arith, k.given)) e (omega arith) (is_open day.stage) day.table (fewer_same day.table)
            (omega (arith, h.fewer));
        alters =
            λ a o k.
            alter_kept a o (ap (λ n. lookup n day.table.book) (found_number a.number day.table.book o k.found) ∙ k.found) k.given;
        withdraws = λ w o _. kept_as_many day.stage (removed o.number day.table) (removed_fewer o.number day.table);
        advances = λ _. cond_both (strikes day.stage) _ _ (λ (m : Made). Kept m.day) (λ _. strike_kept t) (λ _. kept_as_many _ day.table (fewer_same day.table));
      }) call

-- the same of the day after, if v is the day before
module _ (v : Day) (h : Kept v) (day : Day) (same : v ≡ day) where
  pub kept_after : (t : Terms) (call : Call) (room : ℕ) (after : Day) → after ≡ day_after day (step t day call room) → Kept after
  kept_after t call room after e = subst Kept (sym e) (subst (λ d. Kept (day_after d (step t d call room))) same (kept_step v h t call room))

  pub kept_changed : (a : Alteration) (o : Order) → lookup o.number day.table.book ≡ Some o → day.tally < 1000000 → (after : Day) → after ≡ (alter day a o).day → Kept after
  kept_changed a o found given after e = subst Kept (sym e) (alter_kept day (subst Kept same h) a o found given)

-- What is known of a call that no row refuses.
use Rattle.std.proofs.Common.{◌≡◌, ℕ, ◌+◌, ◌≤◌, ◌<◌, Bool, true, false, not, ◌&&◌, List, [], ◌∷◌, length, Some, None, Option, Ok, Err, refl, arith, nat_lt}
use Rattle.std.proofs.lemmas.Bool.{not-false}
use Rattle.std.proofs.lemmas.Bool.Decides.{nat_tests}
use Rattle.rules.specs.Entry.{row, is_volume}
use Rattle.rules.specs.Side.{opposite}
use Rattle.rules.specs.declared.order.Direction.{Direction}
use Rattle.rules.specs.declared.order.Order.{Order}
use Rattle.rules.specs.declared.terms.Terms.{Terms}
use Rattle.tables.specs.Meaning.{Contents, listed}
use Rattle.book.specs.declared.call.Alteration.{Alteration}
use Rattle.book.specs.declared.call.Call.{Call}
use Rattle.book.specs.declared.call.Call.TheVariants.{Enter, Alter, Withdraw, Advance}
use Rattle.book.specs.declared.call.NewOrder.{NewOrder}
use Rattle.book.specs.declared.call.Withdrawal.{Withdrawal}
use Rattle.book.specs.declared.stage.Stage.{Stage}
use Rattle.book.specs.Calls.{Made, Outcome, refused_by, outcome_of, outcome_or_refusal, step, enter, alter, withdraw, advance, of_named}
use Rattle.book.specs.Day.{Day}
use Rattle.book.specs.Rows.{first_row, past_row, past_rows, beyond_band, all_arrivals_given, has_place, short_of_trades, order_count, short_of_strike, order_named, enter_rows, alter_rows, withdraw_rows, advance_rows}
use Rattle.book.specs.Stages.{is_closed, is_open, strikes}

abbrev pub Passes : List (Option ℕ) → Type 0
Passes [] = Unit {0}
Passes (r ∷ rs) = (r ≡ None) × Passes rs

pub passes : (rs : List (Option ℕ)) → first_row rs ≡ None → Passes rs
passes [] e = tt
passes (None ∷ rs) e = (refl, passes rs e)
passes (Some n ∷ rs) e = let z : ◌≡◌ {A = ℕ} 0 1 = cc in absurd (omega arith)

row_false : (b : Bool) (n : ℕ) → row b n ≡ None → b ≡ false
row_false false n e = refl
row_false true n e = let z : ◌≡◌ {A = ℕ} 0 1 = cc in absurd (omega arith)

is_so : (b : Bool) (n : ℕ) → row (not b) n ≡ None → b ≡ true
is_so b n e = not-false b (row_false (not b) n e)

arrival_left : (tally : ℕ) → row (all_arrivals_given tally) 10 ≡ None → tally < 1000000
arrival_left tally e = let f : all_arrivals_given tally ≡ false = row_false (all_arrivals_given tally) 10 e in grind (arith, nat_tests)

place_left : (d : Direction) (c : Contents) → row (not (has_place d c)) 11 ≡ None → length (listed d c) < c.capacity.places
place_left d c e = let f : has_place d c ≡ true = is_so (has_place d c) 11 e in grind (arith, nat_tests)

-- where the first test holds, so does what is said of both
both_false : (a b : Bool) → (a && b) ≡ false → a ≡ true → b ≡ false
both_false true b e h = e
both_false false b e h = let z : ◌≡◌ {A = ℕ} 0 1 = cc in absurd (omega arith)

slips_left :
    (stage : Stage) (d : Direction) (c : Contents) (room : ℕ) → row (short_of_trades stage d c room) 12 ≡ None → is_open stage ≡ true →
    length (listed (opposite d) c) < room
slips_left stage d c room e h =
    let f : nat_lt room (length (listed (opposite d) c) + 1) ≡ false =
    both_false (is_open stage) _ (row_false (short_of_trades stage d c room) 12 e) h
    in
    grind (arith, nat_tests)

strike_left : (stage : Stage) (c : Contents) (room : ℕ) → row (short_of_strike stage c room) 12 ≡ None → strikes stage ≡ true → order_count c ≤ room
strike_left stage c room e h =
    let f : nat_lt room (order_count c) ≡ false = both_false (strikes stage) _ (row_false (short_of_strike stage c room) 12 e) h in
    grind (arith, nat_tests)

-- Of each call --------------------------------------------------------------------------------------------------------------

pub record Enters (t : Terms) (day : Day) (e : NewOrder) (room : ℕ) : Type 0 where
  pub closed : is_closed day.stage ≡ false
  pub whole : is_volume t.block e.volume ≡ true
  pub inside : beyond_band t e.limit ≡ false
  pub given : day.tally < 1000000
  pub place : length (listed e.direction day.table) < day.table.capacity.places
  pub long : is_open day.stage ≡ true → length (listed (opposite e.direction) day.table) < room

pub enter_passes : (t : Terms) (day : Day) (e : NewOrder) (room : ℕ) → Passes (enter_rows t day e room) → Enters t day e room
enter_passes t day e room p =
    record {
      closed = row_false _ 3 p.0;
      whole = is_so _ 5 p.1.1.0;
      inside = row_false _ 6 p.1.1.1.0;
      given = arrival_left day.tally p.1.1.1.1.0;
      place = place_left e.direction day.table p.1.1.1.1.1.0;
      long = slips_left day.stage e.direction day.table room p.1.1.1.1.1.1.0;
    }

pub record Alters (t : Terms) (day : Day) (a : Alteration) (room : ℕ) (o : Order) : Type 0 where
  pub closed : is_closed day.stage ≡ false
  pub whole : is_volume t.block a.volume ≡ true
  pub inside : beyond_band t (Some a.price) ≡ false
  pub found : order_named a.number day ≡ Some o
  pub limit : o.market ≡ false
  pub given : day.tally < 1000000
  pub long : is_open day.stage ≡ true → length (listed (opposite o.direction) day.table) < room

pub alter_passes :
    (t : Terms) (day : Day) (a : Alteration) (room : ℕ) (o : Order) → order_named a.number day ≡ Some o →
    Passes (alter_rows t day a room (Some o)) → Alters t day a room o
alter_passes t day a room o f p =
    record {
      closed = row_false _ 3 p.0;
      whole = is_so _ 5 p.1.1.0;
      inside = row_false _ 6 p.1.1.1.0;
      found = f;
      limit = row_false _ 9 p.1.1.1.1.1.1.0;
      given = arrival_left day.tally p.1.1.1.1.1.1.1.0;
      long = slips_left day.stage o.direction day.table room p.1.1.1.1.1.1.1.1.0;
    }

pub record Advances (day : Day) (room : ℕ) : Type 0 where
  pub closed : is_closed day.stage ≡ false
  pub long : strikes day.stage ≡ true → order_count day.table ≤ room

advance_passes : (day : Day) (room : ℕ) → Passes (advance_rows day room) → Advances day room
advance_passes day room p = record { closed = row_false _ 3 p.0; long = strike_left day.stage day.table room p.1.0 }

-- The rows once for all: what holds of a refusal, and of what each call makes where its rows pass, holds of every step.
module _ (t : Terms) (day : Day) (room : ℕ) (Q : Call → Outcome → Type 0) where
  pub record Steps : Type 0 where
    pub refused : (c : Call) (n : ℕ) → Q c (refused_by n)
    pub enters : (e : NewOrder) → Enters t day e room → Q (Enter e) (outcome_of (enter t day e))
    pub alters : (a : Alteration) (o : Order) → Alters t day a room o → Q (Alter a) (outcome_of (alter day a o))
    pub withdraws : (w : Withdrawal) (o : Order) → order_named w.number day ≡ Some o → Q (Withdraw w) (outcome_of (withdraw day o))
    pub advances : Advances day room → Q Advance (outcome_of (advance t day))

  module _ (s : Steps) where
    made_has : (c : Call) (rows : List (Option ℕ)) (m : Made) → (Passes rows → Q c (outcome_of m)) → Q c (outcome_or_refusal (past_rows rows (Ok m)))
    made_has c rows m h = go (first_row rows) refl
      where
        go : (r : Option ℕ) → first_row rows ≡ r → Q c (outcome_or_refusal (past_row r (Ok m)))
        go None e = h (passes rows e)
        go (Some n) e = s.refused c n

    named_has :
        (c : Call) (rows : Option Order → List (Option ℕ)) (held : Option Order) (make : Order → Made) →
        ((o : Order) → held ≡ Some o → Passes (rows (Some o)) → Q c (outcome_of (make o))) →
        Q c (outcome_or_refusal (past_rows (rows held) (of_named held make)))
    named_has c rows (Some o) make h = made_has c (rows (Some o)) (make o) (h o refl)
    named_has c rows None make h = go (first_row (rows None))
      where
        go : (r : Option ℕ) → Q c (outcome_or_refusal (past_row r (Err 7)))
        go None = s.refused c 7
        go (Some n) = s.refused c n

    pub of_step : (c : Call) → Q c (step t day c room)
    of_step (Enter e) = made_has (Enter e) (enter_rows t day e room) (enter t day e) (λ p. s.enters e (enter_passes t day e room p))
    of_step (Alter a) =
        named_has (Alter a) (alter_rows t day a room) (order_named a.number day) (alter day a)
        (λ o f p. s.alters a o (alter_passes t day a room o f p))
    of_step (Withdraw w) =
        named_has (Withdraw w) (withdraw_rows day w) (order_named w.number day) (withdraw day) (λ o f p. s.withdraws w o f)
    of_step Advance = made_has Advance (advance_rows day room) (advance t day) (λ p. s.advances (advance_passes day room p))

-- What a call makes of a day: the rules of a session as a function.
use Rattle.std.specs.Prelude.{ℕ, zero, suc, ◌+◌, ◌-◌, min, Bool, true, false, cond, not, ◌&&◌, ◌||◌, List, [], ◌∷◌, ◌++◌, length, Some, None, Ok, Err, Option, Result, ◌==◌, nat_le, nat_lt}
use Rattle.std.specs.Option.{option_map}
use Rattle.rules.specs.Book.{Book}
use Rattle.rules.specs.Fixing.{fixing_under}
use Rattle.rules.specs.Side.{opposite, willing}
use Rattle.rules.specs.declared.order.Direction.{Direction}
use Rattle.rules.specs.declared.order.Direction.TheVariants.{Buy, Sell}
use Rattle.rules.specs.declared.order.Order.{Order}
use Rattle.rules.specs.declared.terms.Terms.{Terms}
use Rattle.tables.specs.Listing.{with_volume}
use Rattle.tables.specs.Meaning.{Contents, book_of, holding, listed, with_listed, added, removed}
use Rattle.book.specs.declared.answer.Answer.{Answer}
use Rattle.book.specs.declared.answer.Told.{Told}
use Rattle.book.specs.declared.answer.Told.TheVariants.{Entered, Altered, Withdrawn, Advanced}
use Rattle.book.specs.declared.call.Alteration.{Alteration}
use Rattle.book.specs.declared.call.Call.{Call}
use Rattle.book.specs.declared.call.Call.TheVariants.{Enter, Alter, Withdraw, Advance}
use Rattle.book.specs.declared.call.NewOrder.{NewOrder}
use Rattle.book.specs.declared.slip.Slip.{Slip}
use Rattle.book.specs.declared.slip.Slip.TheVariants.{Trade, Lapse}
use Rattle.book.specs.declared.stage.Stage.{Stage}
use Rattle.book.specs.Counts.{with_count}
use Rattle.book.specs.Day.{Day}
use Rattle.book.specs.Rows.{past_rows, order_named, enter_rows, alter_rows, withdraw_rows, advance_rows}
use Rattle.book.specs.Stages.{is_open, next, strikes}

-- Orders ------------------------------------------------------------------------------------------------------------

-- a market buy has the highest price of the band, a market sell the lowest
abbrev pub market_price : Terms → Direction → ℕ
market_price t Buy = t.hi
market_price t Sell = t.lo

-- the price that an order stands at: its limit, or a market order's
abbrev pub limit_price : Terms → Direction → Option ℕ → ℕ
limit_price t d (Some p) = p
limit_price t d None = market_price t d

-- without a limit it is a market order
abbrev pub is_market : Option ℕ → Bool
is_market None = true
is_market (Some p) = false

-- the order that an enter makes with the arrival n, which is its number too
abbrev pub order_of : Terms → ℕ → NewOrder → Order
order_of t n e =
    record {
      number = n;
      member = e.member;
      direction = e.direction;
      price = limit_price t e.direction e.limit;
      market = is_market e.limit;
      volume = e.volume;
      arrival = n;
    }

-- the alter gives the order a new arrival
abbrev pub takes_new_arrival : Alteration → Order → Bool
takes_new_arrival a o = not (a.price == o.price) || nat_lt o.volume a.volume

-- the tally after such an alter
abbrev pub alter_tally : ℕ → Alteration → Order → ℕ
alter_tally tally a o = cond (takes_new_arrival a o) (suc tally) tally

-- the order with the price and volume wanted, and the arrival that is due
abbrev pub altered_order : ℕ → Alteration → Order → Order
altered_order tally a o =
    record o { price = a.price; volume = a.volume; arrival = cond (takes_new_arrival a o) (suc tally) o.arrival }

-- what the slips trade
abbrev pub turnover : List Slip → ℕ
turnover [] = 0
turnover (Trade b s price v ∷ ss) = v + turnover ss
turnover (Lapse n v ∷ ss) = turnover ss

-- Trading in Open ---------------------------------------------------------------------------------------------------

-- a trade of the order n of side d with the order m of the other side
abbrev pub trade : Direction → ℕ → ℕ → ℕ → ℕ → Slip
trade Buy n m price v = Trade n m price v
trade Sell n m price v = Trade m n price v

-- what a sweep leaves: its slips, the rest of the other side, and the volume left of the order that came
pub record Sweep : Type 0 where
  pub slips : List Slip
  pub rest : List Order
  pub left : ℕ

-- one slip, and then what the sweep leaves
abbrev pub slip_then : Slip → Sweep → Sweep
slip_then slip s = record s { slips = slip ∷ s.slips }

-- the order n of side d and price p trades v at most with the orders of the other side, the first first
abbrev pub sweep : Direction → ℕ → ℕ → List Order → ℕ → Sweep
sweep d n p [] v = record { slips = []; rest = []; left = v }
sweep d n p (o ∷ os) v =
    cond (v == 0 || not (willing (opposite d) o.price p)) (record { slips = []; rest = o ∷ os; left = v })
    (cond (nat_le o.volume v)
    (slip_then (trade d n o.number o.price o.volume) (sweep d n p os (v - o.volume)))
    (record {
      slips = trade d n o.number o.price v ∷ [];
      rest = with_volume (o.volume - v) o ∷ os;
      left = 0;
    }))

-- the table once the other side of d has traded
abbrev pub with_rest : Direction → List Order → Contents → Contents
with_rest d rest t = with_listed (opposite d) rest t

-- what is left of an entering order is added
abbrev pub with_left : Order → ℕ → Contents → Contents
with_left e v t = cond (v == 0) t (added (with_volume v e) t)

-- the sweep of an order that enters over a table
abbrev pub sweep_of : Order → Contents → Sweep
sweep_of e t = sweep e.direction e.number e.price (listed (opposite e.direction) t) e.volume

-- what comes of an order that enters: its slips, the volumes traded and held, and the table
pub record Execution : Type 0 where
  pub slips : List Slip
  pub traded : ℕ
  pub held : ℕ
  pub table : Contents

-- what is left of a market order lapses
abbrev pub lapse_left : Order → ℕ → List Slip
lapse_left e v = cond (e.market && not (v == 0)) (Lapse e.number v ∷ []) []

-- of a market order nothing is held, of a limit order all that is left
abbrev pub held_left : Order → ℕ → ℕ
held_left e v = cond e.market 0 v

-- a limit order stands with what is left of it, a market order does not
abbrev pub stand_left : Order → ℕ → Contents → Contents
stand_left e v t = cond e.market t (with_left e v t)

-- what comes of an order, once its sweep has left this
abbrev pub after_sweep : Order → Contents → Sweep → Execution
after_sweep e t s =
    record {
      slips = s.slips ++ lapse_left e s.left;
      traded = e.volume - s.left;
      held = held_left e s.left;
      table = stand_left e s.left (with_rest e.direction s.rest t);
    }

-- e enters where orders trade
abbrev pub entry_trading : Order → Contents → Execution
entry_trading e t = after_sweep e t (sweep_of e t)

-- e enters where nothing trades
abbrev pub entry_resting : Order → Contents → Execution
entry_resting e t = record { slips = []; traded = 0; held = e.volume; table = added e t }

-- e enters, and trades first if it is to
abbrev pub entry_of : Bool → Order → Contents → Execution
entry_of trades e t = cond trades (entry_trading e t) (entry_resting e t)

-- what a call makes: the day after it, what is answered but for the count of slips, and the slips
pub record Made : Type 0 where
  pub day : Day
  pub told : Told
  pub slips : List Slip

-- what is told, from the volumes traded and held
abbrev pub Telling : Type 0
Telling = ℕ → ℕ → Told

-- what a call makes by which an order entered, where so many arrivals are given after it
abbrev pub made_by_entry : Day → ℕ → Telling → Execution → Made
made_by_entry day tally reply a =
    record {
      day = record day { tally = tally; table = a.table };
      told = reply a.traded a.held;
      slips = a.slips;
    }

-- The fixing ----------------------------------------------------------------------------------------------------------

-- the price that a fixing answers
abbrev pub fixing_price : Terms → Book → Option ℕ
fixing_price t b = option_map (λ c. c.price) (fixing_under t b)

-- what is left when two sides have traded: their slips, and the rest of each side
pub record Pairing : Type 0 where
  pub slips : List Slip
  pub buys : List Order
  pub sells : List Order

-- one trade, and then what the pairing leaves
abbrev pub trade_then : Slip → Pairing → Pairing
trade_then slip s = record s { slips = slip ∷ s.slips }

-- the orders once the first has traded v
abbrev pub with_first_less : ℕ → Order → List Order → List Order
with_first_less v o os = cond (nat_le o.volume v) os (with_volume (o.volume - v) o ∷ os)

-- while both are willing at p the first buy trades with the first sell, at most n times
abbrev pub pair : ℕ → ℕ → List Order → List Order → Pairing
pair p zero bs ss = record { slips = []; buys = bs; sells = ss }
pair p (suc n) [] ss = record { slips = []; buys = []; sells = ss }
pair p (suc n) (b ∷ bs) [] = record { slips = []; buys = b ∷ bs; sells = [] }
pair p (suc n) (b ∷ bs) (s ∷ ss) =
    cond (willing Buy b.price p && willing Sell s.price p)
    (trade_then (Trade b.number s.number p (min b.volume s.volume))
    (pair p n (with_first_less (min b.volume s.volume) b bs) (with_first_less (min b.volume s.volume) s ss)))
    (record { slips = []; buys = b ∷ bs; sells = s ∷ ss })

-- each trade uses up an order, so as many times as there are orders is enough
abbrev pub match_at : Option ℕ → List Order → List Order → Pairing
match_at None bs ss = record { slips = []; buys = bs; sells = ss }
match_at (Some p) bs ss = pair p (length bs + length ss) bs ss

-- the slips by which the orders of a list that pass a test go
abbrev pub going_slips : (Order → Bool) → (Order → Slip) → List Order → List Slip
going_slips goes slip [] = []
going_slips goes slip (o ∷ os) = cond (goes o) (slip o ∷ going_slips goes slip os) (going_slips goes slip os)

-- and those that stay
abbrev pub staying_orders : (Order → Bool) → List Order → List Order
staying_orders goes [] = []
staying_orders goes (o ∷ os) = cond (goes o) (staying_orders goes os) (o ∷ staying_orders goes os)

-- the slip by which an order lapses
abbrev pub lapse_of : Order → Slip
lapse_of o = Lapse o.number o.volume

-- the slips by which the market orders of a list lapse
abbrev pub lapses : List Order → List Slip
lapses os = going_slips (λ o. o.market) lapse_of os

-- the limit orders of a list
abbrev pub limit_orders : List Order → List Order
limit_orders os = staying_orders (λ o. o.market) os

-- both sides trade at the fixing price
abbrev pub fixing_trades : Terms → Book → Pairing
fixing_trades t b = match_at (fixing_price t b) b.buys b.sells

-- the slips of a strike: the trades, and then what is left of market orders lapses, buys before sells
abbrev pub strike_slips : Pairing → List Slip
strike_slips m = m.slips ++ (lapses m.buys ++ lapses m.sells)

-- what stands after it
abbrev pub book_after_strike : Pairing → Book
book_after_strike m = book_of (limit_orders m.buys) (limit_orders m.sells)

-- a strike at this price, by which the two sides have traded so
abbrev pub strike_at : Day → Option ℕ → Pairing → Made
strike_at day price m =
    record {
      day = record day { stage = next day.stage; table = holding day.table (book_after_strike m) };
      told =
          Advanced (record { stage = next day.stage; price = price; traded = turnover (strike_slips m) });
      slips = strike_slips m;
    }

-- the strike at the fixing price of what is held
abbrev pub strike : Terms → Day → Made
strike t day = strike_at day (fixing_price t day.table.book) (fixing_trades t day.table.book)

-- The calls ------------------------------------------------------------------------------------------------------------

-- what an enter and an alter tell
abbrev pub enter_reply : ℕ → Telling
enter_reply n traded held = Entered (record { number = n; traded = traded; held = held })

abbrev pub alter_reply : Telling
alter_reply traded held = Altered (record { traded = traded; held = held })

-- an order enters, with the next arrival: in Open it trades first, and what is left of a limit order stands; in another
-- stage it only stands
abbrev pub enter_order : Day → Order → Made
enter_order day o = made_by_entry day o.number (enter_reply o.number) (entry_of (is_open day.stage) o day.table)

-- what an enter makes
abbrev pub enter : Terms → Day → NewOrder → Made
enter t day e = enter_order day (order_of t (suc day.tally) e)

-- an alter in Open to another price trades
abbrev pub trades_again : Stage → Alteration → Order → Bool
trades_again stage a o = is_open stage && not (a.price == o.price)

-- the order leaves the table and comes back altered; in Open, at another price, as one that enters
abbrev pub entry_again : Day → Alteration → Order → Execution
entry_again day a o = entry_of (trades_again day.stage a o) (altered_order day.tally a o) (removed o.number day.table)

-- what an alter of the order o makes
abbrev pub alter : Day → Alteration → Order → Made
alter day a o = made_by_entry day (alter_tally day.tally a o) alter_reply (entry_again day a o)

-- the order leaves the table, and its whole volume is answered
abbrev pub withdraw : Day → Order → Made
withdraw day o =
    record {
      day = record day { table = removed o.number day.table };
      told = Withdrawn (record { volume = o.volume });
      slips = [];
    }

-- the stage moves on, and nothing trades
abbrev pub pass_on : Day → Made
pass_on day =
    record {
      day = record day { stage = next day.stage };
      told = Advanced (record { stage = next day.stage; price = None; traded = 0 });
      slips = [];
    }

-- out of Pre-open and Pre-close there is a strike
abbrev pub advance : Terms → Day → Made
advance t day = cond (strikes day.stage) (strike t day) (pass_on day)

-- what is made of the order that a call names; its rows ask that it is held
abbrev pub of_named : Option Order → (Order → Made) → Result Made ℕ
of_named None make = Err 7
of_named (Some o) make = Ok (make o)

-- what a call makes, or the row that refuses it, with so many places in the run
abbrev pub own_step : Terms → Day → Call → ℕ → Result Made ℕ
own_step t day (Enter e) room = past_rows (enter_rows t day e room) (Ok (enter t day e))
own_step t day (Alter a) room =
    past_rows (alter_rows t day a room (order_named a.number day)) (of_named (order_named a.number day) (alter day a))
own_step t day (Withdraw w) room =
    past_rows (withdraw_rows day w (order_named w.number day)) (of_named (order_named w.number day) (withdraw day))
own_step t day Advance room = past_rows (advance_rows day room) (Ok (advance t day))

-- what the rules make of a call: the number of its refusal, or the day after it, its answer and its slips
pub data Outcome : Type 0 where
  refused_by : ℕ → Outcome
  done : Day → Answer Told → List Slip → Outcome

-- what is made, with the count of its slips
abbrev pub outcome_of : Made → Outcome
outcome_of m = done m.day (with_count m.told m.slips) m.slips

-- what is made, or the number of the refusal
abbrev pub outcome_or_refusal : Result Made ℕ → Outcome
outcome_or_refusal (Err n) = refused_by n
outcome_or_refusal (Ok m) = outcome_of m

-- a call on a day, with so many places in the run
abbrev pub step : Terms → Day → Call → ℕ → Outcome
step t day c room = outcome_or_refusal (own_step t day c room)

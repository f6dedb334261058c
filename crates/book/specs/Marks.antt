-- What the next reference price needs, kept beside the day: no part of the law reads it.
use Rattle.std.specs.Prelude.{ℕ, Bool, false, ◌&&◌, List, [], ◌∷◌, Some, None, Option, ◌==◌}
use Rattle.book.specs.declared.stage.Stage.{Stage}
use Rattle.book.specs.declared.stage.Stage.TheVariants.{PreOpen, Open, Closed}
use Rattle.rules.specs.Book.{Book}
use Rattle.rules.specs.Reference.{next_reference_under}
use Rattle.rules.specs.declared.order.Order.{Order}
use Rattle.rules.specs.declared.terms.Terms.{Terms}
use Rattle.book.specs.declared.slip.Slip.{Slip}
use Rattle.book.specs.declared.slip.Slip.TheVariants.{Trade, Lapse}
use Rattle.book.specs.declared.call.Call.{Call}
use Rattle.book.specs.declared.call.Call.TheVariants.{Advance}
use Rattle.rules.specs.declared.reference.DayRecord.{DayRecord}
use Rattle.tables.specs.Meaning.{Capacity}
use Rattle.book.specs.Model.{day_after}
use Rattle.book.specs.Calls.{Outcome, refused_by, done}
use Rattle.book.specs.Day.{Day, new_day}

-- before the first call
abbrev pub no_marks : DayRecord
no_marks = record { last_trade = None; buy_at_high = false; sell_at_low = false }

-- the price of the last trade
abbrev pub last_price : Option ℕ → List Slip → Option ℕ
last_price p [] = p
last_price p (Trade b s q v ∷ ss) = last_price (Some q) ss
last_price p (Lapse n v ∷ ss) = last_price p ss

-- the first order stands at this price
abbrev pub first_at : ℕ → List Order → Bool
first_at p [] = false
first_at p (o ∷ os) = o.price == p

-- right after the opening strike a mark begins, and after each enter, alter and withdraw in Open it goes on or ends; the
-- advance out of Open does not look
abbrev pub mark_on : Stage → Call → Bool → Bool → Bool
mark_on PreOpen Advance old now' = now'
mark_on Open Advance old now' = old
mark_on Open c old now' = old && now'
mark_on _ c old now' = old

-- the marks after an accepted call that was made in this stage, wrote these slips and left this book
abbrev pub marks_after : Terms → Stage → Call → DayRecord → List Slip → Book → DayRecord
marks_after t stage c m slips b =
    record {
      last_trade = last_price m.last_trade slips;
      buy_at_high = mark_on stage c m.buy_at_high (first_at t.hi b.buys);
      sell_at_low = mark_on stage c m.sell_at_low (first_at t.lo b.sells);
    }

-- a refused call leaves them as they were
abbrev pub marks_after_outcome : Terms → Stage → Call → DayRecord → Outcome → DayRecord
marks_after_outcome t stage c m (refused_by n) = m
marks_after_outcome t stage c m (done day a slips) = marks_after t stage c m slips day.table.book

-- a session that was ended before Closed leaves nothing
abbrev pub record_left : Stage → DayRecord → Option DayRecord
record_left Closed m = Some m
record_left _ m = None

-- a session: its day, and the marks of it
pub record Session : Type 0 where
  pub day : Day
  pub marks : DayRecord

-- the reference price that it leaves
abbrev pub reference_left : Terms → Session → ℕ
reference_left t s = next_reference_under t (record_left s.day.stage s.marks)

-- a session before its first call
abbrev pub new_session : Capacity → Session
new_session cap = record { day = new_day cap; marks = no_marks }

-- the session after a call with this outcome
abbrev pub session_after : Terms → Call → Session → Outcome → Session
session_after t c s out = record { day = day_after s.day out; marks = marks_after_outcome t s.day.stage c s.marks out }

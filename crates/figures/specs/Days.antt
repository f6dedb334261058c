-- What a published day leaves for the next reference price.
use Rattle.std.specs.Prelude.{ℕ, Bool, true, false, ◌&&◌, Option, ◌==◌}
use Rattle.rules.specs.declared.reference.DayRecord.{DayRecord}
use Rattle.rules.specs.declared.reference.EndedDay.{EndedDay}
use Rattle.rules.specs.declared.terms.Terms.{Terms}
use Rattle.figures.specs.declared.shown.Day.{Day}
use Rattle.figures.specs.declared.published.Best.{Best}
use Rattle.figures.specs.declared.published.Best.TheVariants.{Pair, Lone}
use Rattle.figures.specs.declared.published.Stood.{Stood}
use Rattle.figures.specs.declared.published.Stood.TheVariants.{Throughout, Part, Unsaid}

-- a buy at the highest price, and a sell at the lowest; a lone price may be either
abbrev pub at_limits : ℕ → ℕ → Best → Bool × Bool
at_limits lo hi (Pair buy sell) = ((buy == hi), (sell == lo))
at_limits lo hi (Lone price) = ((price == hi), (price == lo))

abbrev pub throughout : Stood → Bool
throughout Throughout = true
throughout Part = false
throughout Unsaid = false

abbrev pub left : ℕ → ℕ → Best → Stood → Option ℕ → DayRecord
left lo hi best stood trade =
    record {
      last_trade = trade;
      buy_at_high = throughout stood && (at_limits lo hi best).0;
      sell_at_low = throughout stood && (at_limits lo hi best).1;
    }

-- the figures of a day, from its terms and the day once it is over
abbrev pub day_of : Terms → EndedDay → Day
day_of t d = record { reference = t.reference; lowest = t.lo; highest = t.hi; next = d.reference }

-- The next reference price in the words of a journal, and that the marks of the day come to the same.
use Rattle.std.specs.Prelude.{◌≡◌, ℕ, Bool, true, false, cond, ◌&&◌, List, [], ◌∷◌, Some, None, Option, ◌==◌}
use Rattle.std.specs.Option.{option_or, unwrap_or}
use Rattle.rules.specs.Book.{Book, side}
use Rattle.rules.specs.declared.order.Direction.{Direction}
use Rattle.rules.specs.declared.order.Direction.TheVariants.{Buy, Sell}
use Rattle.rules.specs.declared.order.Order.{Order}
use Rattle.rules.specs.declared.terms.Terms.{Terms}
use Rattle.tables.specs.Meaning.{Capacity}
use Rattle.book.specs.declared.call.Call.{Call}
use Rattle.book.specs.declared.call.Call.TheVariants.{Advance}
use Rattle.book.specs.declared.slip.Slip.{Slip}
use Rattle.book.specs.declared.slip.Slip.TheVariants.{Trade, Lapse}
use Rattle.book.specs.declared.stage.Stage.{Stage}
use Rattle.book.specs.declared.stage.Stage.TheVariants.{PreOpen, Open, Closed}
use Rattle.book.specs.Journal.{Line, books}
use Rattle.book.specs.Law.{Verdict, refused, accepted}
use Rattle.book.specs.Leads.{Leads}
use Rattle.book.specs.Marks.{Session, reference_left}

-- In the journal's words ----------------------------------------------------------------------------------------------

abbrev pub slips_of : Verdict → List Slip
slips_of (refused n) = []
slips_of (accepted a slips) = slips

-- the price of the last trade among slips
abbrev pub last_in : List Slip → Option ℕ
last_in [] = None
last_in (Trade b s q v ∷ ss) = option_or (last_in ss) (Some q)
last_in (Lapse n v ∷ ss) = last_in ss

-- and of a journal, whose last line comes first
abbrev pub last_trade_of : List Line → Option ℕ
last_trade_of [] = None
last_trade_of (x ∷ past) = option_or (last_in (slips_of x.came.result)) (last_trade_of past)

-- when the best prices are looked at: right after the opening strike, and after an enter, alter or withdraw in Open
abbrev pub looked_at : Stage → Call → Bool
looked_at PreOpen Advance = true
looked_at Open Advance = false
looked_at Open c = true
looked_at _ c = false

-- the price of the best order of a side, which is the first listed
abbrev pub best_listed : List Order → Option ℕ
best_listed [] = None
best_listed (o ∷ os) = Some o.price

-- a best price is there, and it is p
abbrev pub is_price : ℕ → Option ℕ → Bool
is_price p None = false
is_price p (Some q) = q == p

-- where an accepted call is looked at, the best price of side d was p
abbrev pub stood_at : Direction → ℕ → Bool → Verdict → Book → Bool
stood_at d p look (refused n) b = true
stood_at d p look (accepted a slips) b = cond look (is_price p (best_listed (side d b))) true

-- so throughout the journal
abbrev pub throughout : Terms → Direction → ℕ → List Line → Bool
throughout t d p [] = true
throughout t d p (x ∷ past) =
    stood_at d p (looked_at (books t past).stage x.asked.call) x.came.result x.came.book && throughout t d p past

-- the last trade; else the highest price, where the best buy stood there throughout; else the lowest, likewise for the
-- best sell; else the reference price. A session that was ended before Closed keeps the reference price
abbrev pub reference_at : Terms → Stage → List Line → ℕ
reference_at t Closed past =
    unwrap_or (last_trade_of past)
    (cond (throughout t Buy t.hi past) t.hi (cond (throughout t Sell t.lo past) t.lo t.reference))
reference_at t _ past = t.reference

abbrev pub reference_by : Terms → List Line → ℕ
reference_by t past = reference_at t (books t past).stage past

-- By the marks --------------------------------------------------------------------------------------------------------

-- whatever journal leads to a session, the reference price that its marks give is the journal's
abbrev pub EndsByJournal : Type 0
EndsByJournal =
    (t : Terms) (cap : Capacity) (past : List Line) (s : Session) → Leads t cap past s →
    reference_left t s ≡ reference_by t past

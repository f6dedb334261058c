-- The refusals: of each call its rows, each a condition and the number that refuses the call where it holds. They are
-- read from the top, and the first that holds refuses.
use Rattle.std.specs.Prelude.{ℕ, ◌+◌, Bool, false, not, ◌&&◌, List, [], ◌∷◌, length, is_some, Some, None, Err, Option, Result, ◌==◌, nat_le, nat_lt}
use Rattle.std.specs.Option.{option_or}
use Rattle.rules.specs.Band.{within}
use Rattle.rules.specs.Entry.{row, is_member, is_volume}
use Rattle.rules.specs.Side.{opposite}
use Rattle.rules.specs.declared.order.Direction.{Direction}
use Rattle.rules.specs.declared.order.Order.{Order}
use Rattle.rules.specs.declared.terms.Terms.{Terms}
use Rattle.tables.specs.Meaning.{Contents, listed, lookup}
use Rattle.book.specs.declared.call.Alteration.{Alteration}
use Rattle.book.specs.declared.call.NewOrder.{NewOrder}
use Rattle.book.specs.declared.call.Withdrawal.{Withdrawal}
use Rattle.book.specs.declared.stage.Stage.{Stage}
use Rattle.book.specs.Day.{Day}
use Rattle.book.specs.Stages.{is_closed, is_open, strikes}

-- the number of the first row that refuses, if one does
abbrev pub first_row : List (Option ℕ) → Option ℕ
first_row [] = None
first_row (r ∷ rs) = option_or r (first_row rs)

-- what follows, unless the row refuses
abbrev pub past_row : {X : Type 0} → Option ℕ → Result X ℕ → Result X ℕ
past_row None r = r
past_row (Some n) r = Err n

-- what follows, unless a row refuses; the first that does gives its number
abbrev pub past_rows : {X : Type 0} → List (Option ℕ) → Result X ℕ → Result X ℕ
past_rows rows r = past_row (first_row rows) r

-- Conditions --------------------------------------------------------------------------------------------------------

-- a limit is no price of the band; a market order has none
abbrev pub beyond_band : Terms → Option ℕ → Bool
beyond_band t None = false
beyond_band t (Some p) = not (within t.lo t.hi p)

-- all arrivals of a day are given
abbrev pub all_arrivals_given : ℕ → Bool
all_arrivals_given tally = nat_le 1000000 tally

-- a side has a place left
abbrev pub has_place : Direction → Contents → Bool
has_place d c = nat_lt (length (listed d c)) c.capacity.places

-- where an order of side d may trade, the run has fewer places than one for each order of the other side and one more
abbrev pub short_of_trades : Stage → Direction → Contents → ℕ → Bool
short_of_trades stage d c room = is_open stage && nat_lt room (length (listed (opposite d) c) + 1)

-- how many orders a table holds
abbrev pub order_count : Contents → ℕ
order_count c = length c.book.buys + length c.book.sells

-- where there is a strike, the run has fewer places than one for each order held
abbrev pub short_of_strike : Stage → Contents → ℕ → Bool
short_of_strike stage c room = strikes stage && nat_lt room (order_count c)

-- the order with a number, if it is held
abbrev pub order_named : ℕ → Day → Option Order
order_named n day = lookup n day.table.book

-- the test holds of the order, if there is one
abbrev pub holds_of : Option Order → (Order → Bool) → Bool
holds_of None holds = false
holds_of (Some o) holds = holds o

-- The rows of each call ---------------------------------------------------------------------------------------------

-- the last argument is how many places the call's run has
abbrev pub enter_rows : Terms → Day → NewOrder → ℕ → List (Option ℕ)
enter_rows t day e room =
    row (is_closed day.stage) 3
    ∷ row (not (is_member e.member)) 4
    ∷ row (not (is_volume t.block e.volume)) 5
    ∷ row (beyond_band t e.limit) 6
    ∷ row (all_arrivals_given day.tally) 10
    ∷ row (not (has_place e.direction day.table)) 11
    ∷ row (short_of_trades day.stage e.direction day.table room) 12
    ∷ []

-- `held` is the order that the alter names, if it is held
abbrev pub alter_rows : Terms → Day → Alteration → ℕ → Option Order → List (Option ℕ)
alter_rows t day a room held =
    row (is_closed day.stage) 3
    ∷ row (not (is_member a.member)) 4
    ∷ row (not (is_volume t.block a.volume)) 5
    ∷ row (beyond_band t (Some a.price)) 6
    ∷ row (not (is_some held)) 7
    ∷ row (holds_of held (λ o. not (a.member == o.member))) 8
    ∷ row (holds_of held (λ o. o.market)) 9
    ∷ row (all_arrivals_given day.tally) 10
    ∷ row (holds_of held (λ o. short_of_trades day.stage o.direction day.table room)) 12
    ∷ []

-- and that the withdraw names
abbrev pub withdraw_rows : Day → Withdrawal → Option Order → List (Option ℕ)
withdraw_rows day w held =
    row (is_closed day.stage) 3
    ∷ row (not (is_member w.member)) 4
    ∷ row (not (is_some held)) 7
    ∷ row (holds_of held (λ o. not (w.member == o.member))) 8
    ∷ []

-- an advance is refused by its stage or by its run
abbrev pub advance_rows : Day → ℕ → List (Option ℕ)
advance_rows day room = row (is_closed day.stage) 3 ∷ row (short_of_strike day.stage day.table room) 12 ∷ []

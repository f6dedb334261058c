-- The refusals by example: a call for each row, calls that meet two rows, of which the first answers, and calls at the
-- edge of a row, which pass.
use Rattle.std.specs.Prelude.{◌≡◌, ℕ, List, [], ◌∷◌, Some, None}
use Rattle.rules.specs.declared.order.Direction.TheVariants.{Buy, Sell}
use Rattle.tables.specs.Meaning.{Capacity}
use Rattle.book.specs.declared.call.Call.{Call}
use Rattle.book.specs.declared.call.Call.TheVariants.{Advance}
use Rattle.book.specs.Calls.{refused_by, step}
use Rattle.book.specs.Day.{Day}
use Rattle.book.specs.Marks.{new_session}
use Rattle.book.specs.Model.{result}
use Rattle.book.specs.Pinned.{refusal}
use Rattle.book.specs.Worked.{terms_of_the_day, places, enter_call, alter_call, withdraw_call, session_after_calls, advances}

-- on this day, with so many places in the run, the call is refused with this number
abbrev pub Refuses : Day → ℕ → Call → ℕ → Type 0
Refuses day room c n = step terms_of_the_day day c room ≡ refused_by n

-- and here it is not refused
abbrev pub IsAccepted : Day → ℕ → Call → Type 0
IsAccepted day room c = refusal (result (step terms_of_the_day day c room)) ≡ None

-- the day after calls, of tables with so many places
abbrev pub after_calls : Capacity → List Call → Day
after_calls cap cs = (session_after_calls terms_of_the_day (new_session cap) cs).day

-- one place for each side
abbrev pub one_place : Capacity
one_place = record { places = 1 }

-- a buy limited to 1000 is number 1 and member 3's, a market sell number 2 and member 4's
abbrev pub two_held : List Call
two_held = enter_call 3 Buy (Some 1000) 40 ∷ enter_call 4 Sell None 20 ∷ []

-- both in Pre-open
abbrev pub morning : Day
morning = after_calls places two_held

-- in Open a buy limited to 1000 fills its side's one place
abbrev pub trading : Day
trading = after_calls one_place (enter_call 3 Buy (Some 1000) 40 ∷ Advance ∷ [])

-- the same order in Pre-close
abbrev pub closing : Day
closing = after_calls places (enter_call 3 Buy (Some 1000) 40 ∷ Advance ∷ Advance ∷ [])

abbrev pub evening : Day
evening = after_calls places advances

-- the day with so many arrivals given
abbrev pub with_tally : ℕ → Day → Day
with_tally tally day = record day { tally = tally }

-- the last arrival of a day is given
abbrev pub last_given : Day → Day
last_given day = with_tally 1000000 day

pub record RefusalsByExample : Type 0 where
  -- row by row
  pub closed : Refuses evening 512 (enter_call 1 Buy (Some 1000) 40) 3
  pub closed_alter : Refuses evening 512 (alter_call 3 1 1000 40) 3
  pub closed_withdraw : Refuses evening 512 (withdraw_call 3 1) 3
  pub closed_advance : Refuses evening 512 Advance 3
  pub member_none : Refuses morning 512 (enter_call 0 Buy (Some 1000) 40) 4
  pub member_over : Refuses morning 512 (withdraw_call 17 1) 4
  pub no_volume : Refuses morning 512 (enter_call 1 Buy (Some 1000) 0) 5
  pub great_volume : Refuses morning 512 (enter_call 1 Buy (Some 1000) 100000010) 5
  pub part_block : Refuses morning 512 (alter_call 3 1 1000 45) 5
  pub above_band : Refuses morning 512 (enter_call 1 Buy (Some 1301) 40) 6
  pub below_band : Refuses morning 512 (alter_call 3 1 699 40) 6
  pub not_held : Refuses morning 512 (withdraw_call 3 3) 7
  pub not_held_alter : Refuses morning 512 (alter_call 3 3 1000 40) 7
  -- it is member 3's, although its number is the caller's
  pub of_another : Refuses morning 512 (withdraw_call 1 1) 8
  pub of_another_alter : Refuses morning 512 (alter_call 1 1 1000 40) 8
  pub market_order : Refuses morning 512 (alter_call 4 2 1000 20) 9
  pub all_given : Refuses (last_given morning) 512 (enter_call 1 Buy (Some 1000) 40) 10
  pub side_full : Refuses trading 512 (enter_call 2 Buy (Some 1000) 40) 11
  pub run_short_enter : Refuses trading 1 (enter_call 2 Sell (Some 1000) 40) 12
  pub run_short_alter : Refuses trading 0 (alter_call 3 1 1010 40) 12
  pub run_short_strike : Refuses morning 1 Advance 12
  pub run_short_closing : Refuses closing 0 Advance 12
  -- two rows at once
  pub closed_before_member : Refuses evening 512 (enter_call 17 Buy (Some 1000) 40) 3
  pub closed_before_member_alter : Refuses evening 512 (alter_call 17 1 1000 40) 3
  pub closed_before_member_withdraw : Refuses evening 512 (withdraw_call 17 1) 3
  pub member_before_volume : Refuses morning 512 (enter_call 17 Buy (Some 1000) 45) 4
  pub member_before_volume_alter : Refuses morning 512 (alter_call 17 1 1000 45) 4
  pub member_before_held : Refuses morning 512 (withdraw_call 17 3) 4
  pub volume_before_band : Refuses morning 512 (enter_call 1 Buy (Some 1301) 45) 5
  pub volume_before_band_alter : Refuses morning 512 (alter_call 3 1 1301 45) 5
  pub band_before_given : Refuses (last_given morning) 512 (enter_call 1 Buy (Some 1301) 40) 6
  pub band_before_held : Refuses morning 512 (alter_call 3 3 1301 40) 6
  pub band_before_another : Refuses morning 512 (alter_call 1 1 1301 40) 6
  pub band_before_market : Refuses morning 512 (alter_call 4 2 1301 20) 6
  pub held_before_given : Refuses (last_given morning) 512 (alter_call 3 3 1000 40) 7
  pub another_before_market : Refuses morning 512 (alter_call 3 2 1000 20) 8
  pub market_before_given : Refuses (last_given morning) 512 (alter_call 4 2 1000 20) 9
  pub given_before_full : Refuses (last_given trading) 512 (enter_call 2 Buy (Some 1000) 40) 10
  pub given_before_run : Refuses (last_given trading) 0 (alter_call 3 1 1010 40) 10
  -- an alter too, though it would need no new arrival
  pub given_of_alter : Refuses (last_given morning) 512 (alter_call 3 1 1000 30) 10
  pub full_before_run : Refuses trading 0 (enter_call 2 Buy (Some 1000) 40) 11
  -- an alter in Open that only lowers, and so trades nothing
  pub run_where_lowered : Refuses trading 0 (alter_call 3 1 1000 30) 12
  -- at the edge of a row
  pub last_member : IsAccepted morning 512 (enter_call 16 Buy (Some 1000) 40)
  pub greatest_volume : IsAccepted morning 512 (enter_call 1 Buy (Some 1000) 100000000)
  pub top_of_band : IsAccepted morning 512 (enter_call 1 Buy (Some 1300) 40)
  pub bottom_of_band : IsAccepted morning 512 (alter_call 3 1 700 40)
  pub last_arrival : IsAccepted (with_tally 999999 morning) 512 (enter_call 1 Buy (Some 1000) 40)
  pub last_arrival_alter : IsAccepted (with_tally 999999 morning) 512 (alter_call 3 1 1010 40)
  pub last_place : IsAccepted trading 512 (enter_call 2 Sell (Some 1010) 40)
  pub run_enough_enter : IsAccepted trading 2 (enter_call 2 Sell (Some 1000) 40)
  pub run_enough_alter : IsAccepted trading 1 (alter_call 3 1 1010 40)
  pub run_enough_strike : IsAccepted morning 2 Advance
  pub run_enough_closing : IsAccepted closing 1 Advance
  -- where nothing can trade no run is needed
  pub no_run_enter : IsAccepted morning 0 (enter_call 1 Buy (Some 1000) 40)
  pub no_run_alter : IsAccepted morning 0 (alter_call 3 1 1010 40)
  pub no_run_enter_closing : IsAccepted closing 0 (enter_call 1 Buy (Some 1000) 40)
  pub no_run_alter_closing : IsAccepted closing 0 (alter_call 3 1 1010 40)
  pub no_run_withdraw_closing : IsAccepted closing 0 (withdraw_call 3 1)
  pub no_run_withdraw : IsAccepted trading 0 (withdraw_call 3 1)
  pub no_run_advance : IsAccepted trading 0 Advance

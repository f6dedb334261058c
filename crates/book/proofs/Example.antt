-- The rules on examples.
use Rattle.std.proofs.Common.{refl}
use Rattle.book.specs.Refusals.{RefusalsByExample}
use Rattle.book.specs.Worked.{WorkedDay}

pub worked_day : WorkedDay
worked_day =
    record {
      answers = refl;
      reference = refl;
      buy_at_high = refl;
      sell_at_low = refl;
      buy_below = refl;
      buy_late = refl;
      buy_gone = refl;
    }

pub refusals : RefusalsByExample
refusals =
    record {
      closed = refl;
      closed_alter = refl;
      closed_withdraw = refl;
      closed_advance = refl;
      member_none = refl;
      member_over = refl;
      no_volume = refl;
      great_volume = refl;
      part_block = refl;
      above_band = refl;
      below_band = refl;
      not_held = refl;
      not_held_alter = refl;
      of_another = refl;
      of_another_alter = refl;
      market_order = refl;
      all_given = refl;
      side_full = refl;
      run_short_enter = refl;
      run_short_alter = refl;
      run_short_strike = refl;
      run_short_closing = refl;
      closed_before_member = refl;
      closed_before_member_alter = refl;
      closed_before_member_withdraw = refl;
      member_before_volume = refl;
      member_before_volume_alter = refl;
      member_before_held = refl;
      volume_before_band = refl;
      volume_before_band_alter = refl;
      band_before_given = refl;
      band_before_held = refl;
      band_before_another = refl;
      band_before_market = refl;
      held_before_given = refl;
      another_before_market = refl;
      market_before_given = refl;
      given_before_full = refl;
      given_before_run = refl;
      given_of_alter = refl;
      full_before_run = refl;
      run_where_lowered = refl;
      last_member = refl;
      greatest_volume = refl;
      top_of_band = refl;
      bottom_of_band = refl;
      last_arrival = refl;
      last_arrival_alter = refl;
      last_place = refl;
      run_enough_enter = refl;
      run_enough_alter = refl;
      run_enough_strike = refl;
      run_enough_closing = refl;
      no_run_enter = refl;
      no_run_alter = refl;
      no_run_enter_closing = refl;
      no_run_alter_closing = refl;
      no_run_withdraw_closing = refl;
      no_run_withdraw = refl;
      no_run_advance = refl;
    }

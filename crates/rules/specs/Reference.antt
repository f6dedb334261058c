-- The next reference price, and the terms that are drawn from an ended day.
use Rattle.std.specs.Prelude.{ℕ, cond, Some, None, Ok, Err, Option, Result}
use Rattle.std.specs.Option.{unwrap_or}
use Rattle.rules.specs.Refusal.{number}
use Rattle.rules.specs.Terms.{TermsAnswer, refused, made, terms_of}
use Rattle.rules.specs.declared.reference.DayRecord.{DayRecord}
use Rattle.rules.specs.declared.reference.EndedDay.{EndedDay}
use Rattle.rules.specs.declared.reference.NoTerms.{NoTerms}
use Rattle.rules.specs.declared.terms.Terms.{Terms}

-- from the reference r and the band lo to hi of a day: the last trade; else hi, lo or r. A session that was ended
-- before Closed leaves nothing and keeps r, traded or not
abbrev pub next_reference : ℕ → ℕ → ℕ → Option DayRecord → ℕ
next_reference r lo hi None = r
next_reference r lo hi (Some d) = unwrap_or d.last_trade (cond d.buy_at_high hi (cond d.sell_at_low lo r))

-- the same from the terms of the day
abbrev pub next_reference_under : Terms → Option DayRecord → ℕ
next_reference_under t left = next_reference t.reference t.lo t.hi left

-- what comes of drawing terms from a day: terms, or a refusal's number with the day handed back
pub data Drawn : Type 0 where
  terms : ℕ → ℕ → ℕ → ℕ → Drawn
  handed_back : ℕ → EndedDay → Drawn

abbrev pub drawn : Result Terms NoTerms → Drawn
drawn (Ok t) = terms t.reference t.block t.lo t.hi
drawn (Err e) = handed_back (number e.refusal) e.day

abbrev drawn_as : EndedDay → TermsAnswer → Drawn
drawn_as day (refused n) = handed_back n day
drawn_as day (made r b lo hi) = terms r b lo hi

-- the terms of the day's next reference and a block
abbrev pub next_terms_of : EndedDay → ℕ → Drawn
next_terms_of day block = drawn_as day (terms_of day.reference block)

-- The numbers of the refusals. Promises speak of these numbers.
use Rattle.std.specs.Prelude.{ℕ}
use Rattle.rules.specs.declared.refusal.Refusal.{Refusal}
use Rattle.rules.specs.declared.refusal.Refusal.TheVariants.{
  Reference,
  Block,
  Closed,
  Member,
  Volume,
  Price,
  NotHeld,
  NotOwner,
  MarketOrder,
  ArrivalsGiven,
  SideFull,
  RunTooShort,
  BrokenForm,
}

abbrev pub number : Refusal → ℕ
-- the reference price is not 1 to 1,000,000
number Reference = 1
-- the block is not 1 to 10,000
number Block = 2
-- the session is closed
number Closed = 3
-- the member is not 1 to 16
number Member = 4
-- the volume is 0, over 100,000,000 or not whole blocks
number Volume = 5
-- the limit price is outside the band
number Price = 6
-- no order with that number is held
number NotHeld = 7
-- the order is held for another member
number NotOwner = 8
-- a market order cannot be altered
number MarketOrder = 9
-- 1,000,000 arrivals are given
number ArrivalsGiven = 10
-- the side holds as many orders as it has places
number SideFull = 11
-- the run has too few places for the slips that the call may write
number RunTooShort = 12
-- the session file breaks its form
number BrokenForm = 13

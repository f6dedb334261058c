use Rattle.std.proofs.Common.{◌≡◌, drop}
use Rattle.book.specs.Marks.{last_price}
use Rattle.market.proofs.marks.last_trade.Given as goal

-- what is still to come makes the whole
abbrev pub invariant-loop-slip : goal.invariant-loop-slip
invariant-loop-slip l = last_price l.last (drop l.slip-index l.slips) ≡ last_price l.fn.before l.slips

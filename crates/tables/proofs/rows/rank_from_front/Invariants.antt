use Rattle.std.proofs.Common.{◌≡◌, ◌+◌, drop}
use Rattle.rules.specs.Rank.{before}
use Rattle.tables.specs.Stored.{rank_of}
use Rattle.tables.proofs.rows.rank_from_front.Given as goal

abbrev pub invariant-loop-i : goal.invariant-loop-i
invariant-loop-i l = rank_of (before l.direction) l.order l.row ≡ l.i + rank_of (before l.direction) l.order (drop l.i l.row)

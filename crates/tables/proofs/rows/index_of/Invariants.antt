use Rattle.std.proofs.Common.{◌≡◌, drop}
use Rattle.tables.specs.Listing.{times}
use Rattle.tables.proofs.rows.index_of.Given as goal

abbrev pub invariant-loop-i : goal.invariant-loop-i
invariant-loop-i l = times l.number (drop l.i l.row) ≡ times l.number l.row

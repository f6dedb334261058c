use Rattle.std.proofs.Common.{◌≤◌}
use Rattle.tables.proofs.Stepwise.{Opened}
use Rattle.tables.proofs.rows.insert_stepwise.Given as goal

abbrev pub invariant-loop-i : goal.invariant-loop-i
invariant-loop-i l = (l.at ≤ l.i) × Opened l.initial.row l.row l.count l.i

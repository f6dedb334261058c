use Rattle.tables.proofs.Stepwise.{Closed}
use Rattle.tables.proofs.rows.remove_at.Given as goal

abbrev pub invariant-loop-i : goal.invariant-loop-i
invariant-loop-i l = Closed l.initial.row l.row l.at l.i

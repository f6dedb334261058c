use Rattle.std.proofs.Common.{◌≡◌}
use Rattle.std.specs.Prelude.{take}
use Rattle.session_cases.specs.Cases.{tally_after_all}
use Rattle.session_cases.proofs.shown.show_all.Given as goal

-- the cases so far are counted
abbrev pub invariant-loop-case : goal.invariant-loop-case
invariant-loop-case g l =
    l.report.tally ≡ tally_after_all l.initial.report.tally (take l.case-index l.cases)

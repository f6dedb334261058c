-- When the figures of a day agree with the published ones.
use Rattle.std.specs.Prelude.{ℕ, Bool, false, cond, ◌&&◌, Some, None, Option, ◌==◌}
use Rattle.figures.specs.declared.shown.Day.{Day}
use Rattle.report.specs.declared.verdict.Verdict.{Verdict}
use Rattle.report.specs.declared.verdict.Verdict.TheVariants.{Agrees, KnownDifference, Differs}

-- the number is there and is n
abbrev pub is : Option ℕ → ℕ → Bool
is None n = false
is (Some m) n = m == n

-- the lowest price may differ where it is known to
abbrev pub of_day : Day → Day → Option ℕ → Verdict
of_day given published known =
    cond (given.reference == published.reference && given.highest == published.highest && given.next == published.next)
    (cond (given.lowest == published.lowest) Agrees (cond (is known given.lowest) KnownDifference Differs))
    Differs

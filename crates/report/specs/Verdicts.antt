-- When two values agree, and how often they do.
use Rattle.std.specs.Prelude.{ℕ, ◌+◌, ◌%◌, ◌^◌, Bool, cond}
use Rattle.report.specs.declared.verdict.Tally.{Tally}
use Rattle.report.specs.declared.verdict.Verdict.{Verdict}
use Rattle.report.specs.declared.verdict.Verdict.TheVariants.{Agrees, KnownDifference, Differs}

-- the verdict on two that are the same or not
abbrev pub plain : Bool → Verdict
plain same = cond same Agrees Differs

abbrev one_more : ℕ → ℕ
one_more n = (n + 1) % 2 ^ 64

-- the tally with one verdict more
abbrev pub tally_after : Verdict → Tally → Tally
tally_after Agrees t = record t { agree = one_more t.agree }
tally_after KnownDifference t = record t { known = one_more t.known }
tally_after Differs t = record t { differ = one_more t.differ }

use Rattle.std.proofs.Common.{◌≡◌, count_by, vec_len}
use Rattle.session_cases.specs.Reading.{begins_case}
use Rattle.session_cases.proofs.reading.read_cases.Given as goal

-- the lines so far have begun the cases
abbrev pub invariant-loop-before : goal.invariant-loop-before
invariant-loop-before l = vec_len l.cases ≡ count_by (λ p. begins_case p.1.now) l.yielded

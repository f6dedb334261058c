use Rattle.std.proofs.Common.{◌≡◌, ◌<◌, ◌^◌, drop}
use Rattle.session_file.specs.Reading.{read_after}
use Rattle.session_file.proofs.number.digits.Given as goal

abbrev pub invariant-loop-b : goal.invariant-loop-b
invariant-loop-b l =
    (read_after l.value (drop l.b-index l.field) ≡ read_after 0 l.field) × (l.value < 10 ^ l.b-index)

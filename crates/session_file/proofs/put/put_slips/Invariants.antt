use Rattle.std.proofs.Common.{◌≡◌, ◌++◌, take}
use Rattle.std.specs.List.{flat_map}
use Rattle.std.specs.String.{string_bytes}
use Rattle.session_file.specs.Answered.{slip_text}
use Rattle.session_file.proofs.put.put_slips.Given as goal

abbrev pub invariant-loop-slip : goal.invariant-loop-slip
invariant-loop-slip l =
    string_bytes l.out ≡ string_bytes l.initial.out ++ flat_map slip_text (take l.slip-index l.slips)

use Rattle.std.proofs.Common.{◌≡◌, ◌++◌, ◌-◌, vec_items}
use Rattle.session_file.specs.Gathered.{calls_gathered}
use Rattle.session_file.specs.Lines.{ahead_in}
use Rattle.session_file.proofs.answer.read_calls.Given as goal

abbrev pub invariant-loop : goal.invariant-loop
invariant-loop l =
    (vec_items l.calls ++ (calls_gathered (l.count - l.counter) (ahead_in l.lines)).calls ≡ vec_items l.initial.calls ++ (calls_gathered l.count (ahead_in l.initial.lines)).calls)
    × ((calls_gathered (l.count - l.counter) (ahead_in l.lines)).end ≡ (calls_gathered l.count (ahead_in l.initial.lines)).end)

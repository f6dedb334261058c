use Rattle.std.proofs.Common.{arith, rules}
use Rattle.session_file.specs.Lines.{ahead_in}
use Rattle.session_file.proofs.Gathering.{stops, goes_on}
use Rattle.session_file.proofs.answer.read_calls.Goals as goal

pub returns-in_err-call : goal.returns-in_err-call
returns-in_err-call c =
    let i = c.loop.invariant in
    let s = stops c.args.count c.loop.counter (omega arith) (ahead_in c.loop.lines) _ _ _ i.0 i.1 c.in_err-call.field-0.0 c.in_err-call.ensures in
    search rules

pub loop-preserved : goal.loop-preserved
loop-preserved c =
    let i = c.loop.invariant in
    goes_on c.args.count c.loop.counter (omega arith) (ahead_in c.loop.lines) _ _ _ i.0 i.1 c.in_ok-call.call (ahead_in c.in_ok-call.behind) _ c.in_ok-call.ensures c.in_ok-push.ensures.items

use Rattle.std.proofs.Common.{◌≡◌, ◌∙◌, sym, rules}
use Rattle.session_file.specs.Reading.{call_of}
use Rattle.session_file.proofs.Calls.{call_found, call_taken}
use Rattle.session_file.proofs.reader.read_call.Goals as goal

pub returns-clause-grammar : goal.returns-clause-grammar
returns-clause-grammar c =
    let v : c.call.result ≡ call_of c.args.line.now = search rules in
    λ call. (λ e. call_found call c.args.line.now (sym v ∙ e), λ h. v ∙ call_taken call c.args.line.now h)

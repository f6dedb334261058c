use Rattle.std.proofs.Common.{◌≡◌, ◌∙◌, sym, rules}
use Rattle.session_file.proofs.Numbers.{number_found, number_taken}
use Rattle.session_file.specs.Reading.{number_of}
use Rattle.session_file.proofs.number.read_number.Goals as goal

pub returns-in_default-2-clause-grammar : goal.returns-in_default-2-clause-grammar
returns-in_default-2-clause-grammar c =
    let v : c.digits.result ≡ number_of c.args.field.now = search rules in
    λ n. (λ e. number_found n c.args.field.now (sym v ∙ e), λ h. v ∙ number_taken n c.args.field.now h)

use Rattle.session_file.proofs.Terming.{terms_by_rules}
use Rattle.session_file.proofs.theorems.terms_are_by_the_rules.Goals as goal

pub returns : goal.returns
returns c = terms_by_rules

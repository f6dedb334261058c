use Rattle.rules.proofs.Steps.{one_price}
use Rattle.rules.proofs.theorems.three_steps_leave_one_price.Goals as goal

pub returns : goal.returns
returns c = one_price

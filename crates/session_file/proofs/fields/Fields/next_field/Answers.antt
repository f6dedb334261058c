use Rattle.std.proofs.Common.{arith}
use Rattle.session_file.proofs.Cutting.{fields_some, fields_none}
use Rattle.session_file.proofs.fields.Fields.next_field.Goals as goal

pub returns-in-Some : goal.returns-in-Some
returns-in-Some c =
    let e = fields_some c.in_ok-rest.rest.now c.in-Some.field.now c.in-Some.behind.now c.in-Some.ensures in
    grind arith

pub returns-in-None : goal.returns-in-None
returns-in-None c = let e = fields_none c.in_ok-rest.rest.now c.in-None.ensures in grind arith

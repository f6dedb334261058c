use Rattle.session_file.proofs.Cutting.{is_empty-left}
use Rattle.session_file.proofs.fields.Fields.is_empty.Goals as goal

pub returns : goal.returns
returns c = is_empty-left c.args.self.now.rest c.is_none.result c.is_none.ensures

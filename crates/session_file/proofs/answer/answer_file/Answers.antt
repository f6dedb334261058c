use Rattle.std.proofs.Common.{◌≡◌, length, sym, subst, ◌∙◌, rules}
use Rattle.std.specs.String.{string_bytes}
use Rattle.session_file.specs.Answered.{file_text}
use Rattle.session_file.specs.Broken.{BrokenInTurn}
use Rattle.session_file.specs.Lawful.{AnsweredLawfully}
use Rattle.session_file.proofs.Lawful.{file_lawful}
use Rattle.session_file.proofs.Breaking.{file_broken}
use Rattle.session_file.proofs.Whole.{file_told}
use Rattle.session_file.proofs.answer.answer_file.Goals as goal

pub returns-clause-in_turn : goal.returns-clause-in_turn
returns-clause-in_turn g c =
    let exact : string_bytes c.put_line.new.out ≡ file_text (g.T.Table.contents c.args.table).capacity (length c.args.run.items) c.args.file.now = search rules in
    λ r b calls short says. exact ∙ file_told (g.T.Table.contents c.args.table).capacity (length c.args.run.items) c.args.file.now r b calls short says

pub returns-clause-broken : goal.returns-clause-broken
returns-clause-broken g c =
    let cap = (g.T.Table.contents c.args.table).capacity in
    let exact : string_bytes c.put_line.new.out ≡ file_text cap (length c.args.run.items) c.args.file.now = search rules in
    subst (BrokenInTurn cap (length c.args.run.items) c.args.file.now) (sym exact) (file_broken cap (length c.args.run.items) c.args.file.now)

pub returns-clause-lawful : goal.returns-clause-lawful
returns-clause-lawful g c =
    let cap = (g.T.Table.contents c.args.table).capacity in
    let exact : string_bytes c.put_line.new.out ≡ file_text cap (length c.args.run.items) c.args.file.now = search rules in
    subst (AnsweredLawfully cap (length c.args.run.items) c.args.file.now) (sym exact) (file_lawful cap (length c.args.run.items) c.args.file.now)

use Rattle.tables.proofs.table.keeps.Goals as goal

pub returns : goal.returns
returns g c = g.met.T.Table.sound c.args.table.now

use Rattle.std.proofs.Common.{length, sym, ap, ◌∙◌}
use Rattle.tables.proofs.InOrder.{length-in_order}
use Rattle.tables.proofs.store.count.Goals as goal

pub returns : goal.returns
returns g c = ap length c.row.ensures ∙ sym (length-in_order (g.S.Store.stored c.args.store.now).book c.args.direction)

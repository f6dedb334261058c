use Rattle.std.proofs.Common.{◌<◌, List, length, sym, ap, subst, ◌∙◌}
use Rattle.rules.specs.declared.order.Order.{Order}
use Rattle.book.specs.Calls.{entry_of}
use Rattle.market.proofs.Altering.{takes_back, other_side}
use Rattle.market.proofs.alters.enter_again.Goals as goal

pub enter_order-requires-clause-free : goal.enter_order-requires-clause-free
enter_order-requires-clause-free g c =
    let h = c.requires.stands in
    takes_back (g.T.Table.contents c.args.table.now) (g.met.T.Table.sound c.args.table.now) h.0 c.args.order h.1 h.2 _ c.remove.ensures.after

pub enter_order-requires-clause-long : goal.enter_order-requires-clause-long
enter_order-requires-clause-long g c = λ trades.
    let h = c.requires.stands in
    let same = other_side (g.T.Table.contents c.args.table.now) (g.met.T.Table.sound c.args.table.now) h.0 c.args.order h.1 h.2 _ c.remove.ensures.after in
    subst (λ (xs : List Order). length xs < length c.args.run.now) (sym same) (c.requires.long trades)

pub returns-clause-table : goal.returns-clause-table
returns-clause-table g c = c.enter_order.ensures.table ∙ ap (λ z. (entry_of c.args.trades c.args.order z).table) c.remove.ensures.after

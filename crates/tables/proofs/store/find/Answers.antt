use Rattle.std.proofs.Common.{List, Some, get_or, ap, ◌∙◌, subst}
use Rattle.rules.specs.Book.{no_order}
use Rattle.rules.specs.declared.order.Order.{Order}
use Rattle.tables.specs.Stored.{Placed}
use Rattle.tables.proofs.Stands.{found}
use Rattle.tables.proofs.store.find.Goals as goal

pub returns-in-Some : goal.returns-in-Some
returns-in-Some g c =
    let p = c.in-Some.place in
    let t = g.S.Store.stored c.args.store.now in
    let at : Placed c.args.number t (Some p) = subst (Placed c.args.number t) c.in-Some.is c.place_of.ensures in
    ap (λ (os : List Order). Some (get_or os p.index no_order)) c.row.ensures
    ∙ found t (g.met.S.Store.sound c.args.store.now) c.args.number p.direction p.index at.1

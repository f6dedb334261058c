use Rattle.std.proofs.Common.{Some, subst, rules}
use Rattle.tables.specs.Stored.{Placed}
use Rattle.tables.proofs.Stands.{removed}
use Rattle.tables.proofs.store.remove.Goals as goal

pub returns-clause-after : goal.returns-clause-after
returns-clause-after g c =
    let t = g.S.Store.stored c.args.store.now in
    let at : Placed c.args.number t (Some c.in_ok-place.place) = subst (Placed c.args.number t) c.in_ok-place.ensures.ok_part c.place_of.ensures in
    let e = removed t (g.met.S.Store.sound c.args.store.now) c.in_ok-place.place c.args.number at.1 in
    search rules

use Rattle.std.proofs.Common.{rules}
use Rattle.tables.proofs.Stands.{placed_either}
use Rattle.tables.proofs.store.place_of.Goals as goal

pub returns : goal.returns
returns g c =
    placed_either (g.S.Store.stored c.args.store.now) (g.met.S.Store.sound c.args.store.now) c.args.number c.place_on.result c.or_else.result c.place_on.ensures
    (λ e. search rules) (λ p e. search rules)

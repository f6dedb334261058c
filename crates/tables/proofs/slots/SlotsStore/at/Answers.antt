use Rattle.std.proofs.Common.{sym, subst}
use Rattle.tables.specs.Listing.{Distinct}
use Rattle.tables.specs.Slots.{stored}
use Rattle.tables.proofs.Stands.{apart}
use Rattle.tables.proofs.slots.SlotsStore.at.Goals as goal

pub at_rank-requires : goal.at_rank-requires
at_rank-requires c =
    let s = c.args.self.now in
    subst Distinct (sym c.row.ensures) (apart (stored s.inner) s.kept.sound c.args.direction)

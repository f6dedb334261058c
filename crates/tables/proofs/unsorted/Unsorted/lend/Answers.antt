use Rattle.std.proofs.Common.{refl}
use Rattle.tables.proofs.Sides.{with_same}
use Rattle.tables.proofs.unsorted.Unsorted.lend.Goals as goal

pub returns : goal.returns
returns c = (rw (c.of_mut.ensures.value, with_same c.args.place.direction c.args.self.now.orders) refl, rw (← c.of_mut.ensures.value) (record { lends = tt; item = c.get_mut.ensures.item }))

use Rattle.std.proofs.Common.{◌<◌, arith}
use Rattle.tables.specs.Both.{of}
use Rattle.tables.proofs.Halving.{length_row, volume_written, kept_volume}
use Rattle.tables.proofs.queue.QueueStore.set_volume_at.Goals as goal

pub invariant_of-self : goal.invariant_of-self
invariant_of-self c =
    let q = c.args.self.now in
    let p = c.args.place in
    let below : p.index < of p.direction q.counts = omega (arith, c.requires, length_row q.run.now q.counts q.kept p.direction) in
    record { kept = kept_volume q.run.now q.counts q.kept p c.start-start.result c.args.volume c.start-start.ensures below }

pub returns : goal.returns
returns c =
    let q = c.args.self.now in
    let p = c.args.place in
    let below : p.index < of p.direction q.counts = omega (arith, c.requires, length_row q.run.now q.counts q.kept p.direction) in
    volume_written q.run.now q.counts q.kept p c.start-start.result c.args.volume c.start-start.ensures below

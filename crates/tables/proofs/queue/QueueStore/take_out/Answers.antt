use Rattle.std.proofs.Common.{◌≡◌, ◌+◌, ◌-◌, ℕ, arith}
use Rattle.tables.specs.Run.{half}
use Rattle.tables.proofs.Halving.{kept_without}
use Rattle.tables.proofs.queue.QueueStore.take_out.Goals as goal

pub invariant_of-self : goal.invariant_of-self
invariant_of-self c =
    let q = c.args.self.now in
    let k : ℕ = c.start-start.result + c.half.result - c.start-start.result in
    let is : k ≡ half q.run.now = omega (arith, c.half.ensures) in
    record { kept = kept_without q.run.now q.counts q.kept c.args.place c.requires c.start-start.result k c.start-start.ensures is c.remove_at.new.row c.remove_at.auto.row c.of-count.result.now c.of-count.ensures c.remove_at.ensures }

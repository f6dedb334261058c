use Rattle.std.proofs.Common.{◌≡◌, ◌+◌, ◌-◌, ℕ, arith}
use Rattle.tables.specs.Run.{half}
use Rattle.tables.proofs.Halving.{kept_put, ordered_put}
use Rattle.tables.proofs.queue.QueueStore.put.Goals as goal

pub invariant_of-self : goal.invariant_of-self
invariant_of-self c =
    let q = c.args.self.now in
    let k : ℕ = c.start-start.result + c.half.result - c.start-start.result in
    let is : k ≡ half q.run.now = omega (arith, c.half.ensures) in
    record { kept = kept_put q.run.now q.counts q.kept c.args.order c.requires c.start-start.result k c.start-start.ensures is c.insert_into.new.row c.insert_into.auto.row c.of-count.result.now c.of-count.ensures c.insert_into.ensures }

pub returns : goal.returns
returns c =
    let q = c.args.self.now in
    let k : ℕ = c.start-start.result + c.half.result - c.start-start.result in
    let is : k ≡ half q.run.now = omega (arith, c.half.ensures) in
    ordered_put q.run.now q.counts q.kept c.args.order c.requires c.start-start.result k c.start-start.ensures is c.insert_into.new.row c.insert_into.auto.row c.of-count.result.now c.of-count.ensures c.insert_into.ensures

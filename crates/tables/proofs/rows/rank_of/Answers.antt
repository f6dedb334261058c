use Rattle.std.proofs.Common.{not, sym, rules, tests, arith}
use Rattle.std.proofs.lemmas.List.Sorted.{IsPartitionPoint-from_clause}
use Rattle.std.proofs.lemmas.List.Sums.{prefix_len_is}
use Rattle.rules.specs.Book.{no_order}
use Rattle.rules.specs.Rank.{before}
use Rattle.tables.proofs.Ranking.{ranking, partitioned}
use Rattle.tables.proofs.rows.rank_of.Goals as goal

pub returns-clause-place : goal.returns-clause-place
returns-clause-place c =
    let d = c.args.direction in
    let o = c.args.order.now in
    let xs = c.args.row.now in
    let i = c.partition_point.result in
    let parts = IsPartitionPoint-from_clause (λ x. not (before d o x)) xs i c.partition_point.ensures.partitioned (partitioned (ranking d) o xs c.requires) (λ a r f' k. search (rules, tests)) in
    sym (prefix_len_is (λ x. not (before d o x)) xs i no_order c.partition_point.ensures.bound (λ k l. parts.0 k no_order (omega arith) l) (λ l. parts.1 i no_order (omega arith) l))

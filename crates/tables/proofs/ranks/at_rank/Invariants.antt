use Rattle.std.proofs.Common.{◌≡◌, ◌==◌, drop}
use Rattle.std.specs.List.{find}
use Rattle.rules.specs.Rank.{before}
use Rattle.tables.specs.Listing.{ahead}
use Rattle.tables.proofs.ranks.at_rank.Given as goal

-- it is not among those that were looked at
abbrev pub invariant-loop-order : goal.invariant-loop-order
invariant-loop-order l =
    let there = find (λ x. ahead (before l.direction) x l.row == l.rank) in
    there (drop l.order-index l.row) ≡ there l.row

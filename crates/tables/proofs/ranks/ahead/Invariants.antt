use Rattle.std.proofs.Common.{◌≡◌, ◌+◌, ◌≤◌, drop}
use Rattle.rules.specs.Rank.{before}
use Rattle.tables.specs.Listing.{ahead}
use Rattle.tables.proofs.ranks.ahead.Given as goal

-- what is counted and what is still to come make the whole
abbrev pub invariant-loop-other : goal.invariant-loop-other
invariant-loop-other l =
    let those = ahead (before l.direction) l.order in
    (l.count + those (drop l.other-index l.row) ≡ those l.row) × (l.count ≤ l.other-index)

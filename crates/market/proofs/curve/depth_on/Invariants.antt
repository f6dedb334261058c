use Rattle.std.proofs.Common.{◌≡◌, ◌+◌, ◌*◌, ◌≤◌, drop}
use Rattle.rules.specs.Curve.{depth}
use Rattle.tables.specs.Meaning.{listed}
use Rattle.market.proofs.curve.depth_on.Given as goal

-- what is added and what is still to come make the whole
abbrev pub invariant-loop-rank : goal.invariant-loop-rank
invariant-loop-rank g l =
    let d = g.S.Quotes.way in
    let os = listed d (g.T.Table.contents l.table) in
    (l.sum + depth d l.p (drop l.rank os) ≡ depth d l.p os) × (l.sum ≤ 4294967295 * l.rank)

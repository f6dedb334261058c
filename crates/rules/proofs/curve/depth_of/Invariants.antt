use Rattle.std.proofs.Common.{◌≡◌, ◌+◌, ◌*◌, ◌≤◌, drop}
use Rattle.rules.specs.Book.{of_side}
use Rattle.rules.specs.Curve.{depth}
use Rattle.rules.proofs.curve.depth_of.Given as goal

-- what is added and what is still to come make the whole
abbrev pub invariant-loop-o : goal.invariant-loop-o
invariant-loop-o g l =
    let d = g.S.Quotes.way in
    (l.sum + depth d l.p (of_side d (drop l.o-index l.orders)) ≡ depth d l.p (of_side d l.orders)) ×
    (l.sum ≤ 4294967295 * l.o-index)

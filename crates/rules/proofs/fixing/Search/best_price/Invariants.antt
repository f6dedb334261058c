use Rattle.std.proofs.Common.{◌≡◌, take}
use Rattle.rules.specs.Search.{searched}
use Rattle.rules.proofs.fixing.Search.best_price.Given as goal

abbrev pub invariant-loop-i : goal.invariant-loop-i
invariant-loop-i g l =
    let t = l.self.terms.now in
    let curve = l.self.curve.now in
    l.held ≡ searched t.reference t.lo t.hi (g.C.Curve.book curve) (take l.i (g.C.Curve.orders curve))

use Rattle.std.proofs.Common.{sym, subst}
use Rattle.tables.specs.Meaning.{Contents, removed}
use Rattle.market.specs.Kept.{Kept}
use Rattle.market.proofs.Holding.{kept_as_many, removed_fewer}
use Rattle.market.proofs.Stepping.{withdrawn_day}
use Rattle.market.proofs.day.Day.withdraw.Goals as goal

pub invariant_of-self : goal.invariant_of-self
invariant_of-self g c =
    let s = c.self.inside in
    let t : Contents = g.T.Table.contents s.table in
    subst (λ x. Kept (record { stage = s.stage; tally = s.tally; table = x })) (sym c.remove.ensures.after)
    (kept_as_many _ c.self.invariant s.stage (removed c.args.named.number t) (removed_fewer c.args.named.number t))

pub invariant_of-self-2 : goal.invariant_of-self-2
invariant_of-self-2 g c =
    let s = c.self.inside in
    let t : Contents = g.T.Table.contents s.table in
    subst (λ x. Kept (record { stage = s.stage; tally = s.tally; table = x })) (sym c.remove.ensures.after)
    (kept_as_many _ c.self.invariant s.stage (removed c.args.named.number t) (removed_fewer c.args.named.number t))

pub returns-clause-day : goal.returns-clause-day
returns-clause-day g c = λ terms room.
    withdrawn_day terms c.args.self.now room _ c.self.view_is c.args.named c.in_ok-order.order c.in_ok-order.ensures.rows
    c.in_ok-order.ensures.named _ c.remove.ensures.after

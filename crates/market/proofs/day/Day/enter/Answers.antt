use Rattle.std.proofs.Common.{length}
use Rattle.book.specs.declared.call.Call.TheVariants.{Enter}
use Rattle.market.proofs.Holding.{kept_after}
use Rattle.market.proofs.Stepping.{takes_entering, entered_day}
use Rattle.market.proofs.day.Day.enter.Goals as goal

pub enter_order-requires-clause-free : goal.enter_order-requires-clause-free
enter_order-requires-clause-free g c =
    takes_entering c.args.terms.now c.args.self.now (length c.args.run.now) _ c.self.view_is c.self.invariant c.args.new
    c.in_ok-check_enter.ensures _ c.order_of-order.ensures

pub returns-clause-day : goal.returns-clause-day
returns-clause-day g c =
    entered_day c.args.terms.now c.args.self.now (length c.args.run.now) _ c.self.view_is c.args.new c.in_ok-check_enter.ensures _ _ _
    c.is_open.ensures c.order_of-order.ensures c.enter_order.ensures.table

pub invariant_of-self : goal.invariant_of-self
invariant_of-self g c =
    kept_after _ c.self.invariant c.args.self.now c.self.view_is c.args.terms.now (Enter c.args.new) (length c.args.run.now) _
    (entered_day c.args.terms.now c.args.self.now (length c.args.run.now) _ c.self.view_is c.args.new c.in_ok-check_enter.ensures _ _ _
    c.is_open.ensures c.order_of-order.ensures c.enter_order.ensures.table)

pub invariant_of-self-2 : goal.invariant_of-self-2
invariant_of-self-2 g c =
    kept_after _ c.self.invariant c.args.self.now c.self.view_is c.args.terms.now
    (Enter c.args.new) (length c.args.run.now) _ (returns-clause-day g c)

use Rattle.std.proofs.Common.{◌≡◌, length, rules}
use Rattle.book.specs.declared.call.Call.TheVariants.{Advance}
use Rattle.book.specs.Day.{Day}
use Rattle.book.specs.Calls.{step}
use Rattle.book.specs.Model.{day_after}
use Rattle.market.proofs.Holding.{kept_after}
use Rattle.market.proofs.day.Day.advance.Goals as goal

pub invariant_of-self : goal.invariant_of-self
invariant_of-self g c =
    let day : Day = record { stage = c.follow.new.self; tally = c.if-strikes.self-inside.tally; table = g.T.Table.contents c.if-strikes.self-inside.table } in
    let is : day ≡ day_after c.args.self.now (step c.args.terms.now c.args.self.now Advance (length c.args.run.now)) = search rules in
    kept_after _ c.self.invariant c.args.self.now c.self.view_is c.args.terms.now
    Advance (length c.args.run.now) day is

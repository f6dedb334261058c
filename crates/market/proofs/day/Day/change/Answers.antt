use Rattle.std.proofs.Common.{◌≡◌, sym, ap, ◌∙◌, arith}
use Rattle.tables.specs.Listing.{with_volume}
use Rattle.tables.specs.Meaning.{lookup, added, removed}
use Rattle.book.specs.Day.{Day}
use Rattle.market.proofs.Altering.{set_in_place, as_it_was}
use Rattle.market.proofs.Changing.{priced, raised, kept}
use Rattle.market.proofs.Holding.{kept_changed}
use Rattle.market.proofs.day.Day.change.Goals as goal

pub returns-then-w-o-clause-day : goal.returns-then-w-o-clause-day
returns-then-w-o-clause-day g c =
    let o = c.args.order in
    let w = c.args.wanted in
    priced _ c.args.self.now c.self.view_is w o _ _ _ c.renewed-again.ensures.tally c.renewed-again.ensures.order c.if-w-o.true _ c.is_open.ensures c.enter_again.ensures.table

pub invariant_of-self : goal.invariant_of-self
invariant_of-self g c =
    kept_changed _ c.self.invariant c.args.self.now c.self.view_is c.args.wanted c.args.order c.requires.found c.requires.given _
    (returns-then-w-o-clause-day g c)

pub returns-then-w-o-2-clause-day : goal.returns-then-w-o-2-clause-day
returns-then-w-o-2-clause-day g c =
    let o = c.args.order in
    let w = c.args.wanted in
    raised _ c.args.self.now c.self.view_is w o _ _ _ c.renewed-again-then-w-o-2.ensures.tally c.renewed-again-then-w-o-2.ensures.order c.if-w-o.false c.if-w-o-2.true
    c.enter_again-then-w-o-2.ensures.table

pub invariant_of-self-then-w-o-2 : goal.invariant_of-self-then-w-o-2
invariant_of-self-then-w-o-2 g c =
    kept_changed _ c.self.invariant c.args.self.now c.self.view_is c.args.wanted c.args.order c.requires.found c.requires.given _
    (returns-then-w-o-2-clause-day g c)

pub returns-in_ok-map_err-clause-day : goal.returns-in_ok-map_err-clause-day
returns-in_ok-map_err-clause-day g c =
    let o = c.args.order in
    let w = c.args.wanted in
    let found = ap (λ (d : Day). lookup o.number d.table.book) c.self.view_is ∙ c.requires.found in
    kept _ c.args.self.now c.self.view_is w o _ c.if-w-o.false (omega (arith, c.if-w-o-3.true))
    (c.set_volume.ensures.after
    ∙ set_in_place (g.T.Table.contents c.self.inside.table) (g.met.T.Table.sound c.self.inside.table) o found w.volume (λ z. omega (arith, c.requires.some)))

pub invariant_of-self-then-w-o-3 : goal.invariant_of-self-then-w-o-3
invariant_of-self-then-w-o-3 g c =
    kept_changed _ c.self.invariant c.args.self.now c.self.view_is c.args.wanted c.args.order c.requires.found c.requires.given _
    (returns-in_ok-map_err-clause-day g c)

pub returns-else-w-o-3-clause-day : goal.returns-else-w-o-3-clause-day
returns-else-w-o-3-clause-day g c =
    let o = c.args.order in
    let w = c.args.wanted in
    let t = g.T.Table.contents c.self.inside.table in
    let found = ap (λ (d : Day). lookup o.number d.table.book) c.self.view_is ∙ c.requires.found in
    let same : o.volume ≡ w.volume = omega (arith, c.if-w-o-2.false, c.if-w-o-3.false) in
    sym c.self.view_is
    ∙ kept _ c.args.self.now c.self.view_is w o _ c.if-w-o.false (omega (arith, c.if-w-o-2.false))
    (as_it_was t (g.met.T.Table.sound c.self.inside.table) o found (omega (arith, c.requires.some, same))
    ∙ ap (λ v. added (with_volume v o) (removed o.number t)) same)

use Rattle.std.proofs.Common.{◌≡◌, [], length, refl, sym, subst, arith}
use Rattle.std.proofs.lemmas.List.{take_all}
use Rattle.market.specs.Journaled.{run_through}
use Rattle.market.proofs.Journals.{Gone, begins, goes_one, all_gone, through_one}
use Rattle.market.proofs.journal.work_all.Goals as goal

pub loop-call-init : goal.loop-call-init
loop-call-init g c = (
  subst (λ es. Gone c.args.terms (g.T.Table.contents c.args.table).capacity [] (length c.args.run.now) es c.start-session.result)
      (sym c.in_ok-journal.ensures.items)
      (begins c.args.terms (g.T.Table.contents c.args.table).capacity (length c.args.run.now) _ c.start-session.ensures),
  subst (λ es. c.args.run.now ≡ run_through c.args.run.now es) (sym c.in_ok-journal.ensures.items) refl,
  c.in_ok-journal.ensures.len,
  c.in_ok-journal.ensures.capacity,
)

pub push_reserved-requires : goal.push_reserved-requires
push_reserved-requires g c =
    let i = c.loop-call.invariant in
    omega (arith, i.2, i.3, c.loop-call-test.true)

pub loop-call-preserved : goal.loop-call-preserved
loop-call-preserved g c =
    let i = c.loop-call.invariant in
    let calls = c.args.calls.now in (
      goes_one c.args.terms (g.T.Table.contents c.args.table).capacity calls c.loop-call.call-index (length c.args.run.now) c.loop-call.journal.items c.push_reserved.new.self.items _ _ _ c.in_ok-entry.entry _ c.loop-call-test.true c.loop-call.auto.run i.0 c.in_ok-entry.ensures.follows c.push_reserved.ensures.items,
      through_one c.loop-call.journal.items c.push_reserved.new.self.items c.args.run.now _ _ c.in_ok-entry.entry i.1 c.in_ok-entry.ensures.run c.push_reserved.ensures.items,
      omega (arith, c.push_reserved.ensures.len, i.2),
      omega (arith, c.push_reserved.ensures.capacity, i.3),
    )

pub returns-clause-journal : goal.returns-clause-journal
returns-clause-journal g c =
    let i = c.loop-call.invariant in
    all_gone c.args.terms (g.T.Table.contents c.args.table).capacity c.args.calls.now (length c.args.run.now) c.loop-call.journal.items c.loop-call.session
    (subst (λ cs. Gone c.args.terms (g.T.Table.contents c.args.table).capacity cs (length c.args.run.now) c.loop-call.journal.items c.loop-call.session)
    (take_all c.loop-call.call-index c.args.calls.now c.loop-call-test.false) i.0)

use Rattle.std.proofs.Common.{arith, take, length, refl, ap, ◌∙◌}
use Rattle.std.proofs.lemmas.List.{length-take}
use Rattle.market.specs.Outcome.{by_number}
use Rattle.market.specs.Works.{came_to}
use Rattle.market.proofs.Journals.{follows, run_is}
use Rattle.market.proofs.Working.{fits}
use Rattle.market.proofs.journal.enter_line.Goals as goal

pub slice_bounds-from_slice-end : goal.slice_bounds-from_slice-end
slice_bounds-from_slice-end g c =
    let k = fits c.args.session.now c.args.call c.args.run.now (came_to (by_number c.work-answer.result) c.work-answer.new.self c.work-answer.new.run) c.work-answer.ensures.outcome in
    omega (arith, k, c.written.ensures)

pub slice_bounds-from_slice-end-2 : goal.slice_bounds-from_slice-end-2
slice_bounds-from_slice-end-2 g c =
    let k = fits c.args.session.now c.args.call c.args.run.now (came_to (by_number c.work-answer.result) c.work-answer.new.self c.work-answer.new.run) c.work-answer.ensures.outcome in
    omega (arith, k, c.written.ensures, length-take c.written.result c.work-answer.new.run)

pub returns-clause-follows : goal.returns-clause-follows
returns-clause-follows g c =
    follows c.args.session.now c.work-answer.new.self c.args.call c.args.run.now c.work-answer.new.run c.work-answer.result c.work-answer.ensures.outcome
    (record { call = c.args.call; room = length c.work-answer.new.run; answer = c.work-answer.result; slips = c.in_ok-slips.slips }) refl (c.in_ok-slips.ensures.items ∙ ap (λ n. take n c.work-answer.new.run) c.written.ensures) refl c.work-answer.auto.run

pub returns-clause-run : goal.returns-clause-run
returns-clause-run g c =
    run_is c.args.session.now c.work-answer.new.self c.args.call c.args.run.now c.work-answer.new.run c.work-answer.result c.work-answer.ensures.outcome
    (record { call = c.args.call; room = length c.work-answer.new.run; answer = c.work-answer.result; slips = c.in_ok-slips.slips }) refl (c.in_ok-slips.ensures.items ∙ ap (λ n. take n c.work-answer.new.run) c.written.ensures)

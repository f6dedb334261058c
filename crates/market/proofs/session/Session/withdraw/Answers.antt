use Rattle.std.proofs.Common.{◌≡◌, Ok, Err, refl, ap, ◌∙◌, take, length, rules, arith}
use Rattle.std.proofs.lemmas.List.{length-take}
use Rattle.rules.specs.Refusal.{number}
use Rattle.book.specs.Marks.{marks_after}
use Rattle.book.specs.declared.answer.Told.TheVariants.{Withdrawn}
use Rattle.book.specs.declared.call.Call.TheVariants.{Withdraw}
use Rattle.market.specs.Outcome.{told_as}
use Rattle.market.specs.Works.{came_to, by_the_rules}
use Rattle.market.proofs.Working.{session_of, works_is, answer_fits, lawfully}
use Rattle.market.proofs.Stepping.{nothing_written}
use Rattle.market.proofs.session.Session.withdraw.Goals as goal

pub returns-in_err-answer-clause-outcome : goal.returns-in_err-answer-clause-outcome
returns-in_err-answer-clause-outcome g c =
    let s = c.self.inside in
    let n = number c.in_err-answer.field-0.0 in
    let e : told_as Withdrawn c.from_residual.result ≡ Err n = search rules in
    ap (λ r. came_to r (session_of s.terms c.withdraw.new.self s.marks) c.args.run.now) e
    ∙ works_is s.terms s.day s.marks (Withdraw c.args.named) c.args.run.now (Err n) c.withdraw.new.self s.marks c.args.run.now (c.in_err-answer.ensures.answer s.terms (length c.args.run.now)) (nothing_written s.terms s.day (length c.args.run.now) c.args.named c.args.run.now) (c.withdraw.ensures.day s.terms (length c.args.run.now)) refl
    ∙ ap (λ z. by_the_rules z (Withdraw c.args.named) c.args.run.now) c.self.view_is

pub returns-in_err-answer-clause-lawful : goal.returns-in_err-answer-clause-lawful
returns-in_err-answer-clause-lawful g c =
    lawfully c.args.self.now (Withdraw c.args.named) c.args.run.now _ (returns-in_err-answer-clause-outcome g c)

pub slice_bounds-marks_then-end : goal.slice_bounds-marks_then-end
slice_bounds-marks_then-end g c =
    let s = c.self.inside in
    let a = c.in_ok-answer.answer in
    answer_fits s.terms s.day s.marks (Withdraw c.args.named) c.args.run.now (Ok (record { told = Withdrawn a.told; slips = a.slips })) c.withdraw.new.self s.marks
    c.args.run.now (c.in_ok-answer.ensures.answer s.terms (length c.args.run.now)) (nothing_written s.terms s.day (length c.args.run.now) c.args.named c.args.run.now)

pub slice_bounds-marks_then-end-2 : goal.slice_bounds-marks_then-end-2
slice_bounds-marks_then-end-2 g c =
    omega (arith, slice_bounds-marks_then-end g c, length-take c.in_ok-answer.answer.slips c.args.run.now)

pub returns-clause-outcome : goal.returns-clause-outcome
returns-clause-outcome g c =
    let s = c.self.inside in
    let a = c.in_ok-answer.answer in
    let marks =
    c.marks_then-self-inside.ensures ∙
    ap (λ st. marks_after s.terms st (Withdraw c.args.named) s.marks (take a.slips c.args.run.now) c.withdraw.new.self.table.book) c.stage-stage.ensures
    in
    works_is s.terms s.day s.marks (Withdraw c.args.named) c.args.run.now (Ok (record { told = Withdrawn a.told; slips = a.slips })) c.withdraw.new.self _ c.args.run.now
    (c.in_ok-answer.ensures.answer s.terms (length c.args.run.now)) (nothing_written s.terms s.day (length c.args.run.now) c.args.named c.args.run.now) (c.withdraw.ensures.day s.terms (length c.args.run.now)) marks
    ∙ ap (λ z. by_the_rules z (Withdraw c.args.named) c.args.run.now) c.self.view_is

pub returns-clause-lawful : goal.returns-clause-lawful
returns-clause-lawful g c = lawfully c.args.self.now (Withdraw c.args.named) c.args.run.now _ (returns-clause-outcome g c)

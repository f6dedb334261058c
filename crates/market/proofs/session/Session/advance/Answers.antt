use Rattle.std.proofs.Common.{◌≡◌, Ok, Err, refl, ap, ◌∙◌, take, rules}
use Rattle.rules.specs.Refusal.{number}
use Rattle.book.specs.Marks.{marks_after}
use Rattle.book.specs.declared.answer.Told.TheVariants.{Advanced}
use Rattle.book.specs.declared.call.Call.TheVariants.{Advance}
use Rattle.market.specs.Outcome.{told_as}
use Rattle.market.specs.Works.{came_to, by_the_rules}
use Rattle.market.proofs.Working.{session_of, works_is, answer_fits, lawfully}
use Rattle.market.proofs.session.Session.advance.Goals as goal

pub returns-in_err-answer-clause-outcome : goal.returns-in_err-answer-clause-outcome
returns-in_err-answer-clause-outcome g c =
    let s = c.self.inside in
    let n = number c.in_err-answer.field-0.0 in
    let e : told_as Advanced c.from_residual.result ≡ Err n = search rules in
    ap (λ r. came_to r (session_of s.terms c.advance.new.self s.marks) c.advance.new.run) e
    ∙ works_is s.terms s.day s.marks Advance c.args.run.now (Err n) c.advance.new.self s.marks c.advance.new.run c.in_err-answer.ensures.answer c.advance.ensures.run c.advance.ensures.day refl
    ∙ ap (λ z. by_the_rules z Advance c.args.run.now) c.self.view_is

pub returns-in_err-answer-clause-lawful : goal.returns-in_err-answer-clause-lawful
returns-in_err-answer-clause-lawful g c =
    lawfully c.args.self.now Advance c.args.run.now _ (returns-in_err-answer-clause-outcome g c)

pub slice_bounds-marks_then-end : goal.slice_bounds-marks_then-end
slice_bounds-marks_then-end g c =
    let s = c.self.inside in
    let a = c.in_ok-answer.answer in
    answer_fits s.terms s.day s.marks Advance c.args.run.now (Ok (record { told = Advanced a.told; slips = a.slips })) c.advance.new.self s.marks
    c.advance.new.run c.in_ok-answer.ensures.answer c.advance.ensures.run

pub returns-clause-outcome : goal.returns-clause-outcome
returns-clause-outcome g c =
    let s = c.self.inside in
    let a = c.in_ok-answer.answer in
    let marks =
    c.marks_then-self-inside.ensures ∙
    ap (λ st. marks_after s.terms st Advance s.marks (take a.slips c.advance.new.run) c.advance.new.self.table.book) c.stage-stage.ensures
    in
    works_is s.terms s.day s.marks Advance c.args.run.now (Ok (record { told = Advanced a.told; slips = a.slips })) c.advance.new.self _ c.advance.new.run
    c.in_ok-answer.ensures.answer c.advance.ensures.run c.advance.ensures.day marks
    ∙ ap (λ z. by_the_rules z Advance c.args.run.now) c.self.view_is

pub returns-clause-lawful : goal.returns-clause-lawful
returns-clause-lawful g c = lawfully c.args.self.now Advance c.args.run.now _ (returns-clause-outcome g c)

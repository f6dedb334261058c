use Rattle.std.proofs.Common.{◌≡◌, ◌++◌, Ok, length, sym, ap, subst, ◌∙◌}
use Rattle.std.specs.String.{string_bytes}
use Rattle.book.specs.Marks.{new_session}
use Rattle.session_file.specs.Answered.{reading, calls_text, calls_section_text, sections_text, file_text}
use Rattle.session_file.specs.Lines.{ahead_in}
use Rattle.session_file.specs.Opening.{terms_from}
use Rattle.session_file.specs.Stops.{Comes}
use Rattle.session_file.proofs.Terming.{terms_found}
use Rattle.session_file.proofs.answer.answer_sections.Goals as goal

pub returns : goal.returns
returns g c =
    let cap = (g.T.Table.contents c.args.table).capacity in
    let room = length c.args.run.now in
    let s = c.in_ok-section.section in
    let t = c.in_ok-terms.terms in
    let terms = terms_found s.reference s.block (Ok t) c.in_ok-terms.ensures in
    let same : file_text cap room c.args.file.now ≡ calls_text t room c.in_ok-count.count (new_session cap) (ahead_in c.in_ok-count.lines) =
    ap (λ r. reading r (sections_text cap room)) (sym c.in_ok-lines.ensures)
    ∙ ap (λ r. reading r (λ p. calls_section_text cap room (terms_from p.0.reference p.0.block) p.1)) (sym c.in_ok-section.ensures)
    ∙ ap (λ r. calls_section_text cap room r (ahead_in c.in_ok-section.lines)) (sym terms)
    ∙ ap (λ r. reading r (λ count. calls_text t room count.0 (new_session cap) count.1)) (sym c.in_ok-count.ensures)
    in
    subst (λ text. Comes c.answer_calls.result (string_bytes c.answer_calls.new.out) (string_bytes c.args.out.now ++ text)) (sym same) c.answer_calls.ensures

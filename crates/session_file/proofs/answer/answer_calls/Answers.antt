use Rattle.std.proofs.Common.{◌++◌, Ok, Err, length, ap, subst, ◌∙◌, rules}
use Rattle.std.specs.List.{flat_map}
use Rattle.std.specs.String.{string_bytes}
use Rattle.book.specs.Marks.{new_session}
use Rattle.market.specs.Journaled.{Journaled}
use Rattle.session_file.specs.Answered.{calls_text}
use Rattle.session_file.specs.Gathered.{Gathers, calls_gathered, entry_text}
use Rattle.session_file.specs.Lines.{ahead_in}
use Rattle.session_file.specs.Stops.{Comes}
use Rattle.session_file.proofs.Ends.{answered_so}
use Rattle.session_file.proofs.answer.answer_calls.Goals as goal

pub returns-in_err-read : goal.returns-in_err-read
returns-in_err-read g c =
    let cap = (g.T.Table.contents c.args.table).capacity in
    let cs = c.read_calls-read.new.calls.items in
    let stop = c.in_err-read.field-0.0 in
    let gathers = subst (λ before. Gathers (Err stop) before cs (calls_gathered c.args.count (ahead_in c.args.lines))) c.new-calls.ensures.items c.in_err-read.ensures in
    let journal = subst (λ xs. Journaled c.args.terms cap xs (length c.args.run.now) c.in_ok-journal.journal.items c.in_ok-journal.session) c.deref.ensures.value c.in_ok-journal.ensures.journal in
    let put = c.in_ok-put_journal.ensures ∙ ap (λ es. string_bytes c.args.out.now ++ flat_map entry_text es) c.deref-2.ensures.value in
    let ends : Comes (Err stop) (string_bytes c.put_journal.new.out) (string_bytes c.args.out.now ++ calls_text c.args.terms (length c.args.run.now) c.args.count (new_session cap) (ahead_in c.args.lines)) =
    answered_so c.args.terms cap (length c.args.run.now) c.args.count (ahead_in c.args.lines) (Err stop) cs gathers
    c.in_ok-journal.journal.items c.in_ok-journal.session journal (string_bytes c.args.out.now) (string_bytes c.put_journal.new.out) put
    c.next_reference-reference.result (c.next_reference-reference.ensures ∙ c.end.ensures.marks)
    in
    search rules

pub returns : goal.returns
returns g c =
    let cap = (g.T.Table.contents c.args.table).capacity in
    let cs = c.read_calls-read.new.calls.items in
    let gathers = subst (λ before. Gathers (Ok c.in_ok-read.field-0) before cs (calls_gathered c.args.count (ahead_in c.args.lines))) c.new-calls.ensures.items c.in_ok-read.ensures in
    let journal = subst (λ xs. Journaled c.args.terms cap xs (length c.args.run.now) c.in_ok-journal.journal.items c.in_ok-journal.session) c.deref.ensures.value c.in_ok-journal.ensures.journal in
    let put = c.in_ok-put_journal.ensures ∙ ap (λ es. string_bytes c.args.out.now ++ flat_map entry_text es) c.deref-2.ensures.value in
    answered_so c.args.terms cap (length c.args.run.now) c.args.count (ahead_in c.args.lines) (Ok c.in_ok-read.field-0) cs gathers
    c.in_ok-journal.journal.items c.in_ok-journal.session journal (string_bytes c.args.out.now) (string_bytes c.put_journal.new.out) put
    c.next_reference-reference.result (c.next_reference-reference.ensures ∙ c.end.ensures.marks)

use Rattle.std.proofs.Common.{List, [], ◌∷◌, sym, refl, subst}
use Rattle.rules.specs.declared.terms.Terms.{Terms}
use Rattle.tables.specs.Meaning.{Capacity}
use Rattle.book.specs.Ledger.{Ledger, new_ledger}
use Rattle.book.specs.Calls.{Outcome}
use Rattle.book.specs.Law.{Came, book_keeping}
use Rattle.book.specs.Model.{day_after, result}
use Rattle.book.specs.Journal.{Line, books}
use Rattle.book.specs.Marks.{Session}
use Rattle.book.specs.Leads.{outcome, Leads, GoingOn}
use Rattle.book.proofs.Laws.{Agrees, start_agrees, good, after_agrees, lawful}

module _ (t : Terms) (cap : Capacity) where
  pub leads_agrees : (past : List Line) (s : Session) → Leads t cap past s → Agrees t (books t past) s.day
  leads_agrees [] s e = subst (λ (z : Session). Agrees t new_ledger z.day) (sym e) (start_agrees t cap)
  leads_agrees (x ∷ past) after h =
      let s : Session = h.0 in
      let out : Outcome = outcome t s.day x.asked in
      let L : Ledger = books t past in
      let g : Agrees t L s.day = leads_agrees past s h.1 in
      let k : Agrees t (book_keeping t x.asked.call (result out) L) (day_after s.day out) =
      after_agrees t L s.day x.asked.call out g (good t L s.day g x.asked.call x.asked.room)
      in
      subst (λ (z : Session). Agrees t (books t (x ∷ past)) z.day) h.3
      (subst (λ (c : Came). Agrees t (book_keeping t x.asked.call c.result L) (day_after s.day out)) h.2 k)

pub going_on : GoingOn
going_on t cap s x =
    let out : Outcome = outcome t s.day x in
    record {
      lawful =
          λ past h.
          let g : Agrees t (books t past) s.day = leads_agrees t cap past s h in
          lawful t (books t past) s.day x.call out g (good t (books t past) s.day g x.call x.room);
      leads = λ past h. (s, h, refl, refl);
    }

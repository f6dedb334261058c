-- The text of a file that says terms and calls is that of a lawful journal.
use Rattle.std.proofs.Common.{◌≡◌, ℕ, true, List, [], ◌∷◌, ◌++◌, map, Ok, refl, sym, ap, ◌∙◌, append_assoc, append-nil}
use Rattle.std.proofs.lemmas.Bool.{le-leb, and_from}
use Rattle.std.proofs.lemmas.List.{reverse-append}
use Rattle.rules.specs.Band.{within}
use Rattle.rules.specs.Terms as terms
use Rattle.rules.specs.declared.terms.Terms.{Terms}
use Rattle.tables.specs.Meaning.{Capacity}
use Rattle.book.specs.declared.call.Call.{Call}
use Rattle.book.specs.Day.{Day}
use Rattle.book.specs.Calls.{step}
use Rattle.book.specs.Ending.{reference_by}
use Rattle.book.specs.Journal.{Line, journal}
use Rattle.book.specs.Law.{Try}
use Rattle.book.specs.Leads.{outcome, Leads}
use Rattle.book.specs.Marks.{Session, new_session, session_after, reference_left}
use Rattle.book.specs.Model.{model, day_after, what_came, result, day_after_tries}
use Rattle.book.proofs.Endings.{ends_by_journal}
use Rattle.book.proofs.Journals.{law_of_journals}
use Rattle.book.proofs.Laws.{law}
use Rattle.market.specs.Journaled.{tries, lines}
use Rattle.session_file.specs.Answered.{line_text, verdict_text, outcome_over, file_text}
use Rattle.session_file.specs.Files.{text_of}
use Rattle.session_file.specs.Gathered.{text_in_turn, session_in_turn}
use Rattle.session_file.specs.Lawful.{journal_text, AnsweredLawfully}
use Rattle.session_file.specs.Opening.{terms_from}
use Rattle.session_file.specs.Output.{reference_line}
use Rattle.session_file.proofs.Terming.{terms_found}
use Rattle.session_file.proofs.Whole.{file_told}

module _ (t : Terms) (cap : Capacity) where
  -- the session after tries, the last first
  session_at : List Try → Session
  session_at [] = new_session cap
  session_at (x ∷ past) = session_after t x.call (session_at past) (outcome t (session_at past).day x)

  day_at : (past : List Try) → (session_at past).day ≡ day_after_tries step t cap past
  unfolding session_at
  day_at [] = refl
  day_at (x ∷ past) = ap (λ (d : Day). day_after d (step t d x.call x.room)) (day_at past)

  leads_there : (past : List Try) → Leads t cap (journal model t cap past) (session_at past)
  unfolding session_at
  leads_there [] = refl
  leads_there (x ∷ past) = (session_at past, leads_there past, ap (λ (d : Day). what_came d (step t d x.call x.room)) (day_at past), refl)

  module _ (room : ℕ) where
    abbrev trying : Call → Try
    trying c = record { call = c; room = room }

    back : List Call → List Try → List Try
    back cs past = tries cs room ++ past

    back_one : (c : Call) (cs : List Call) (past : List Try) → back (c ∷ cs) past ≡ back cs (trying c ∷ past)
    unfolding back
    back_one c cs past =
        ap (λ ts. ts ++ past) (reverse-append (trying c ∷ []) (map trying cs))
        ∙ append_assoc (tries cs room) (trying c ∷ []) past

    told_one : (past : List Try) (c : Call) → verdict_text (result (outcome t (day_after_tries step t cap past) (trying c))) ≡ verdict_text (result (outcome_over t room (session_at past) c))
    told_one past c = ap (λ (d : Day). verdict_text (result (step t d c room))) (sym (day_at past))

    -- what is said of more calls stands behind the text of the journal
    text_more : (cs : List Call) (past : List Try) → journal_text (journal model t cap (back cs past)) ≡ journal_text (journal model t cap past) ++ text_in_turn t room (session_at past) cs
    unfolding back session_at
    text_more [] past = sym (append-nil (journal_text (journal model t cap past)))
    text_more (c ∷ cs) past =
        ap (λ ts. journal_text (journal model t cap ts)) (back_one c cs past)
        ∙ text_more cs (trying c ∷ past)
        ∙ ap (λ text. (journal_text (journal model t cap past) ++ text) ++ text_in_turn t room (session_at (trying c ∷ past)) cs) (told_one past c)
        ∙ append_assoc (journal_text (journal model t cap past)) (verdict_text (result (outcome_over t room (session_at past) c))) (text_in_turn t room (session_at (trying c ∷ past)) cs)

    session_more : (cs : List Call) (past : List Try) → session_at (back cs past) ≡ session_in_turn t room (session_at past) cs
    unfolding back session_at
    session_more [] past = refl
    session_more (c ∷ cs) past = ap session_at (back_one c cs past) ∙ session_more cs (trying c ∷ past)

    abbrev written : List Call → List Line
    written cs = lines t cap cs room

    all_back : (cs : List Call) → back cs [] ≡ tries cs room
    unfolding back
    all_back cs = append-nil (tries cs room)

    text_is : (cs : List Call) → journal_text (written cs) ≡ text_in_turn t room (new_session cap) cs
    unfolding session_at
    text_is cs = ap (λ ts. journal_text (journal model t cap ts)) (sym (all_back cs)) ∙ text_more cs []

    reference_is : (cs : List Call) → reference_left t (session_in_turn t room (new_session cap) cs) ≡ reference_by t (written cs)
    unfolding session_at
    reference_is cs =
        ap (reference_left t) (sym (session_more cs []) ∙ ap session_at (all_back cs))
        ∙ ends_by_journal t cap (written cs) (session_at (tries cs room)) (leads_there (tries cs room))

-- terms are those that their own figures give
own_terms : (t : Terms) → terms_from t.reference t.block ≡ Ok t
own_terms t =
    let r : within 1 1000000 t.reference ≡ true = and_from _ _ (le-leb _ _ t.priced.0) (le-leb _ _ t.priced.1) in
    let b : within 1 10000 t.block ≡ true = and_from _ _ (le-leb _ _ t.blocked.0) (le-leb _ _ t.blocked.1) in
    sym (terms_found t.reference t.block (Ok t) (rw (r, b) (λ i. terms.made t.reference t.block (t.floor i) (t.ceiling i))))

pub file_lawful : (cap : Capacity) (room : ℕ) (file : List ℕ) → AnsweredLawfully cap room file (file_text cap room file)
file_lawful cap room file t cs short says = (
  (law_of_journals model).0 law t cap (tries cs room),
  file_told cap room file t.reference t.block cs short says
      ∙ ap (λ r. text_of cap room r cs) (own_terms t)
      ∙ (λ i. sym (text_is t cap room cs) i ++ line_text (reference_line (reference_is t cap room cs i))),
)

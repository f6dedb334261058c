-- The text of a journal is what is told of its calls in turn.
use Rattle.std.proofs.Common.{◌≡◌, ℕ, List, [], ◌∷◌, ◌++◌, refl, sym, ◌∙◌, ap, subst, append_assoc, append-nil, arith}
use Rattle.std.proofs.lemmas.Grind.{flat_map-append}
use Rattle.std.specs.List.{flat_map}
use Rattle.rules.specs.declared.terms.Terms.{Terms}
use Rattle.tables.specs.Meaning.{Capacity}
use Rattle.book.specs.declared.call.Call.{Call}
use Rattle.book.specs.Journal.{Line}
use Rattle.book.specs.Law.{Try, Came}
use Rattle.book.specs.Leads.{outcome, Leads}
use Rattle.book.specs.Marks.{Session, new_session, session_after}
use Rattle.book.specs.Model.{what_came, result}
use Rattle.market.specs.declared.journal.Entry.{Entry}
use Rattle.market.specs.Journaled.{line_in, Asked, Tells, Journaled, lines}
use Rattle.market.specs.Works.{Seen}
use Rattle.session_file.specs.Answered.{verdict_text, outcome_over, session_after_call}
use Rattle.session_file.specs.Gathered.{entry_text, text_in_turn, session_in_turn}

-- the calls but for the last, where the entries have one more than before
record Split (calls : List Call) (room : ℕ) (before : List Entry) (e : Entry) : Type 0 where
  front : List Call
  last : Call
  whole : calls ≡ front ++ (last ∷ [])
  asked : Asked front room before
  call_is : e.call ≡ last
  room_is : e.room ≡ room

asked_last : (calls : List Call) (room : ℕ) (before : List Entry) (e : Entry) → Asked calls room (before ++ (e ∷ [])) → Split calls room before e
asked_last [] room [] e h = let z : ◌≡◌ {A = ℕ} 0 1 = cc in absurd (omega arith)
asked_last [] room (f ∷ before) e h = let z : ◌≡◌ {A = ℕ} 0 1 = cc in absurd (omega arith)
asked_last (c ∷ []) room [] e h = record { front = []; last = c; whole = refl; asked = refl; call_is = h.0; room_is = h.1 }
asked_last (c ∷ d ∷ cs) room [] e h = absurd h.2
asked_last (c ∷ cs) room (f ∷ before) e h =
    let s = asked_last cs room before e h.2 in
    record { front = c ∷ s.front; last = s.last; whole = ap (λ ds. c ∷ ds) s.whole; asked = (h.0, h.1, s.asked); call_is = s.call_is; room_is = s.room_is }

module _ (t : Terms) (room : ℕ) where
  said_more : (s : Session) (cs : List Call) (c : Call) → text_in_turn t room s (cs ++ (c ∷ [])) ≡ text_in_turn t room s cs ++ verdict_text (result (outcome_over t room (session_in_turn t room s cs) c))
  said_more s [] c = append-nil (verdict_text (result (outcome_over t room s c)))
  said_more s (d ∷ cs) c =
      let mine = verdict_text (result (outcome_over t room s d)) in
      ap (λ text. mine ++ text) (said_more (session_after_call t room s d) cs c) ∙ sym (append_assoc mine (text_in_turn t room (session_after_call t room s d) cs) _)

  after_more : (s : Session) (cs : List Call) (c : Call) → session_in_turn t room s (cs ++ (c ∷ [])) ≡ session_after_call t room (session_in_turn t room s cs) c
  after_more s [] c = refl
  after_more s (d ∷ cs) c = after_more (session_after_call t room s d) cs c

  module _ (cap : Capacity) where
    journal_said :
        (past : List Line) (calls : List Call) (es : List Entry) (s : Session) → Tells past es → Asked calls room es → Leads t cap past s →
        (flat_map entry_text es ≡ text_in_turn t room (new_session cap) calls) × (s ≡ session_in_turn t room (new_session cap) calls)
    journal_said [] [] es s none asked leads = (ap (flat_map entry_text) none, leads)
    journal_said [] (c ∷ cs) es s none asked leads = absurd (subst (Asked (c ∷ cs) room) none asked)
    journal_said (x ∷ past) calls es s h asked leads =
        let before : List Entry = h.0 in
        let e : Entry = h.1 in
        let p : Split calls room before e = asked_last calls room before e (subst (Asked calls room) h.2 asked) in
        let back = journal_said past p.front before leads.0 h.4 p.asked leads.1 in
        let reached : Session = session_in_turn t room (new_session cap) p.front in
        let line : line_in e x.came.book ≡ x = h.3 in
        let x_asked : x.asked ≡ record { call = p.last; room = room } =
        sym (ap (λ (y : Line). y.asked) line) ∙ (λ i. record { call = p.call_is i; room = p.room_is i })
        in
        let come : Session → Try → Came = λ (z : Session) (y : Try). what_came z.day (outcome t z.day y) in
        let mine : entry_text e ≡ verdict_text (result (outcome_over t room reached p.last)) =
        ap (λ (y : Line). verdict_text y.came.result) line ∙ ap (λ (y : Came). verdict_text y.result) (sym leads.2 ∙ (λ i. come (back.1 i) (x_asked i)))
        in (
          ap (flat_map entry_text) h.2 ∙ flat_map-append entry_text before (e ∷ []) ∙ ap (λ text. flat_map entry_text before ++ text) (append-nil (entry_text e))
              ∙ (λ i. back.0 i ++ mine i) ∙ sym (said_more (new_session cap) p.front p.last) ∙ ap (text_in_turn t room (new_session cap)) (sym p.whole),
          sym leads.3 ∙ (λ i. session_after t (x_asked i).call (back.1 i) (outcome t (back.1 i).day (x_asked i)))
              ∙ sym (after_more (new_session cap) p.front p.last) ∙ ap (session_in_turn t room (new_session cap)) (sym p.whole),
        )

pub all_said : (t : Terms) (cap : Capacity) (calls : List Call) (room : ℕ) (es : List Entry) (s : Seen) → Journaled t cap calls room es s →
    (flat_map entry_text es ≡ text_in_turn t room (new_session cap) calls) × (s.session ≡ session_in_turn t room (new_session cap) calls)
all_said t cap calls room es s h = journal_said t room cap (lines t cap calls room) calls es s.session h.told h.asked h.leads

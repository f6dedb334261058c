-- A journal, entry by entry.
use Rattle.std.proofs.Common.{◌≡◌, ℕ, List, [], ◌∷◌, ◌++◌, map, reverse, take, length, Ok, Err, Result, refl, sym, ap, subst, ◌∙◌, arith, ◌<◌, ◌+◌, get_or, add-one}
use Rattle.std.proofs.Math.Seq.{take-suc}
use Rattle.std.proofs.lemmas.List.{reverse-append, map-append}
use Rattle.rules.specs.declared.refusal.Refusal.{Refusal}
use Rattle.rules.specs.declared.terms.Terms.{Terms}
use Rattle.tables.specs.Meaning.{Capacity}
use Rattle.book.specs.declared.answer.Answer.{Answer}
use Rattle.book.specs.declared.answer.Told.{Told}
use Rattle.book.specs.declared.call.Call.{Call}
use Rattle.book.specs.declared.slip.Slip.{Slip}
use Rattle.book.specs.Day.{Day}
use Rattle.book.specs.Calls.{step}
use Rattle.book.specs.Journal.{Line, books, LawfulJournal, journal}
use Rattle.book.specs.Law.{Try, Came, Shown}
use Rattle.book.specs.Leads.{Leads, GoesOn}
use Rattle.book.specs.Marks.{Session, new_session}
use Rattle.book.specs.Model.{model, day_after, what_came, day_after_tries}
use Rattle.book.proofs.Leading.{leads_agrees}
use Rattle.market.specs.declared.journal.Entry.{Entry}
use Rattle.market.specs.Outcome.{by_number, written_into}
use Rattle.market.specs.Works.{Seen, session_start, slips_counted, verdict, Work, by_the_rules, came_to}
use Rattle.market.specs.Journaled.{verdict_of, line_in, run_through, Follows, Asked, Tells, tries, lines, Journaled}
use Rattle.market.proofs.Working.{lawfully, wrote}

-- what was copied is what the answer counts
pub verdict_same : (r : Result (Answer Told) Refusal) (run : List Slip) → verdict (by_number r) run ≡ verdict_of r (take (slips_counted (by_number r)) run)
verdict_same (Ok a) run = refl
verdict_same (Err e) run = refl

-- A journal that leads to a session is the one that the rules write --------------------------------------------------------

abbrev asked_of : Line → Try
asked_of x = x.asked

module _ (t : Terms) (cap : Capacity) where
  by_rules : (past : List Line) (s : Session) → Leads t cap past s →
      (past ≡ journal model t cap (map asked_of past)) × (s.day ≡ day_after_tries step t cap (map asked_of past))
  by_rules [] s e = (refl, ap (λ (z : Session). z.day) e)
  by_rules (x ∷ past) after h =
      let back = by_rules past h.0 h.1 in
      let comes : Day → Came = λ d. what_came d (step t d x.asked.call x.asked.room) in
      let x_came : x.came ≡ comes (day_after_tries step t cap (map asked_of past)) = sym h.2 ∙ ap comes back.1 in (
        λ i. record { asked = x.asked; came = x_came i } ∷ back.0 i,
        sym (ap (λ (z : Session). z.day) h.3) ∙ ap (λ d. day_after d (step t d x.asked.call x.asked.room)) back.1,
      )

-- As far as the calls went --------------------------------------------------------------------------------------------------

-- the entries tell some journal of the calls, which leads to the session
pub record Gone (t : Terms) (cap : Capacity) (calls : List Call) (room : ℕ) (es : List Entry) (s : Seen) : Type 0 where
  asked : Asked calls room es
  past : List Line
  tried : map asked_of past ≡ tries calls room
  told : Tells past es
  lawful : LawfulJournal t past
  shown : Shown (books t past) s.session.day.table.book
  leads : Leads t cap past s.session
  terms : s.terms ≡ t

shown_after : (t : Terms) (cap : Capacity) (past : List Line) (s : Session) → Leads t cap past s → Shown (books t past) s.day.table.book
shown_after t cap past s h = (leads_agrees t cap past s h).inv.shown

pub begins : (t : Terms) (cap : Capacity) (room : ℕ) (s : Seen) → s ≡ session_start t cap → Gone t cap [] room [] s
begins t cap room s e =
    let leads : s.session ≡ new_session cap = ap (λ (x : Seen). x.session) e in
    record {
      asked = refl;
      past = [];
      tried = refl;
      told = refl;
      lawful = tt;
      shown = shown_after t cap [] s.session leads;
      leads = leads;
      terms = ap (λ (x : Seen). x.terms) e;
    }

asked_more : (cs : List Call) (room : ℕ) (es : List Entry) (c : Call) (e : Entry) → Asked cs room es → e.call ≡ c → e.room ≡ room → Asked (cs ++ (c ∷ [])) room (es ++ (e ∷ []))
asked_more [] room [] c e h x y = (x, y, refl)
asked_more [] room (f ∷ es) c e h x y = let z : ◌≡◌ {A = ℕ} 0 1 = cc in absurd (omega arith)
asked_more (d ∷ cs) room [] c e h x y = absurd h
asked_more (d ∷ cs) room (f ∷ es) c e h x y = (h.0, h.1, asked_more cs room es c e h.2 x y)

abbrev trying : ℕ → Call → Try
trying room c = record { call = c; room = room }

tried_more : (cs : List Call) (room : ℕ) (c : Call) → tries (cs ++ (c ∷ [])) room ≡ trying room c ∷ tries cs room
tried_more cs room c = ap reverse (map-append (trying room) cs (c ∷ [])) ∙ reverse-append (map (trying room) cs) (trying room c ∷ [])

goes_further :
    (t : Terms) (cap : Capacity) (cs : List Call) (room : ℕ) (es : List Entry) (s : Seen) (c : Call) (e : Entry) (s' : Seen) →
    Gone t cap cs room es s → Follows s c room e s' → Gone t cap (cs ++ (c ∷ [])) room (es ++ (e ∷ [])) s'
goes_further t cap cs room es s c e s' h k =
    let x : Line = line_in e s'.session.day.table.book in
    let g : GoesOn t cap s.session x s'.session = subst (λ u. GoesOn u cap s.session x s'.session) h.terms (k.goes_on cap) in
    let leads : Leads t cap (x ∷ h.past) s'.session = g.leads h.past h.leads in
    record {
      asked = asked_more cs room es c e h.asked k.call_is k.room_is;
      past = x ∷ h.past;
      tried = (λ i. record { call = k.call_is i; room = k.room_is i } ∷ h.tried i) ∙ sym (tried_more cs room c);
      told = (es, e, refl, refl, h.told);
      lawful = (g.lawful h.past h.leads, h.lawful);
      shown = shown_after t cap (x ∷ h.past) s'.session leads;
      leads = leads;
      terms = k.terms ∙ h.terms;
    }

-- the next of a list of calls
pub goes_one :
    (t : Terms) (cap : Capacity) (calls : List Call) (i : ℕ) (room : ℕ) (es es' : List Entry) (s s' : Seen) (d : Call) (e : Entry) (room' : ℕ) →
    i < length calls → room' ≡ room → Gone t cap (take i calls) room es s → Follows s (get_or calls i d) room' e s' → es' ≡ es ++ (e ∷ []) →
    Gone t cap (take (i + 1) calls) room es' s'
goes_one t cap calls i room es es' s s' d e room' lt same h k more =
    subst (λ cs. Gone t cap cs room es' s') (sym (ap (λ n. take n calls) (add-one i) ∙ take-suc calls i d lt))
    (subst (λ xs. Gone t cap (take i calls ++ (get_or calls i d ∷ [])) room xs s') (sym more)
    (goes_further t cap (take i calls) room es s (get_or calls i d) e s' h (subst (λ n. Follows s (get_or calls i d) n e s') same k)))

-- that journal is the rules'
pub all_gone : (t : Terms) (cap : Capacity) (calls : List Call) (room : ℕ) (es : List Entry) (s : Seen) → Gone t cap calls room es s → Journaled t cap calls room es s
all_gone t cap calls room es s h =
    let same : h.past ≡ lines t cap calls room = (by_rules t cap h.past s.session h.leads).0 ∙ ap (journal model t cap) h.tried in
    record {
      asked = h.asked;
      told = subst (λ p. Tells p es) same h.told;
      lawful = subst (LawfulJournal t) same h.lawful;
      shown = subst (λ p. Shown (books t p) s.session.day.table.book) same h.shown;
      leads = subst (λ p. Leads t cap p s.session) same h.leads;
      terms = h.terms;
    }

-- One call ------------------------------------------------------------------------------------------------------------------

module _ (s s' : Seen) (c : Call) (run run' : List Slip) (r : Result (Answer Told) Refusal) (is : came_to (by_number r) s' run' ≡ by_the_rules s c run)
    (e : Entry) (answer_is : e.answer ≡ r) (slips_is : e.slips.items ≡ take (slips_counted (by_number r)) run') where
  -- a call that was worked, and copied with its slips
  pub follows : e.call ≡ c → e.room ≡ length run → Follows s c (length run) e s'
  follows call_is room_is =
      record {
        call_is = call_is;
        room_is = room_is;
        terms = ap (λ (w : Work). w.after.terms) is;
        goes_on =
            λ cap.
            subst (λ x. GoesOn s.terms cap s.session x s'.session)
            (λ i.
            record {
              asked = record { call = sym call_is i; room = sym room_is i };
              came = record {
                result = (verdict_same r run' ∙ (λ j. verdict_of (sym answer_is j) (sym slips_is j))) i;
                book = s'.session.day.table.book;
              };
            })
            (lawfully s c run (came_to (by_number r) s' run') is cap);
      }

  pub run_is : run' ≡ written_into run e.slips.items
  run_is = wrote s c run (came_to (by_number r) s' run') is ∙ ap (written_into run) (sym slips_is)

-- The run -------------------------------------------------------------------------------------------------------------------

through_more : (es : List Entry) (run : List Slip) (e : Entry) → run_through run (es ++ (e ∷ [])) ≡ written_into (run_through run es) e.slips.items
through_more [] run e = refl
through_more (f ∷ es) run e = through_more es (written_into run f.slips.items) e

pub through_one : (es es' : List Entry) (run now' after : List Slip) (e : Entry) →
    now' ≡ run_through run es → after ≡ written_into now' e.slips.items → es' ≡ es ++ (e ∷ []) → after ≡ run_through run es'
through_one es es' run now' after e h x more =
    x ∙ ap (λ r. written_into r e.slips.items) h ∙ sym (through_more es run e) ∙ ap (run_through run) (sym more)

-- The journal of a list of calls, as a program holds it, and what is said of it.
use Rattle.std.specs.Prelude.{◌≡◌, ℕ, List, [], ◌∷◌, ◌++◌, map, reverse, Ok, Err, Result}
use Rattle.rules.specs.Refusal.{number}
use Rattle.rules.specs.declared.refusal.Refusal.{Refusal}
use Rattle.rules.specs.declared.terms.Terms.{Terms}
use Rattle.tables.specs.Meaning.{Capacity}
use Rattle.book.specs.declared.answer.Answer.{Answer}
use Rattle.book.specs.declared.answer.Told.{Told}
use Rattle.book.specs.declared.call.Call.{Call}
use Rattle.book.specs.declared.slip.Slip.{Slip}
use Rattle.rules.specs.Book.{Book}
use Rattle.book.specs.Journal.{Line, books, LawfulJournal, journal}
use Rattle.book.specs.Law.{Try, Verdict, refused, accepted, Shown}
use Rattle.book.specs.Leads.{Leads, GoesOn}
use Rattle.book.specs.Model.{model}
use Rattle.market.specs.declared.journal.Entry.{Entry}
use Rattle.market.specs.Outcome.{written_into}
use Rattle.market.specs.Works.{Seen}

-- what came of an entry's try
abbrev pub verdict_of : Result (Answer Told) Refusal → List Slip → Verdict
verdict_of (Err r) slips = refused (number r)
verdict_of (Ok a) slips = accepted a slips

-- the run after these entries: each wrote its slips from the first place on
abbrev pub run_through : List Slip → List Entry → List Slip
run_through run [] = run
run_through run (e ∷ es) = run_through (written_into run e.slips.items) es

-- an entry as a line of the law's journal, with the book after it
abbrev pub line_in : Entry → Book → Line
line_in e b = record { asked = record { call = e.call; room = e.room }; came = record { result = verdict_of e.answer e.slips.items; book = b } }

-- an entry of this call over this room, which is lawful after whatever journal leads to the session before it, and leads
-- to the session after it
pub record Follows (before : Seen) (call : Call) (room : ℕ) (e : Entry) (after : Seen) : Type 0 where
  pub call_is : e.call ≡ call
  pub room_is : e.room ≡ room
  pub terms : after.terms ≡ before.terms
  pub goes_on : (cap : Capacity) → GoesOn before.terms cap before.session (line_in e after.session.day.table.book) after.session

-- the entries are of these calls in turn, each over a run of so many places
abbrev pub Asked : List Call → ℕ → List Entry → Type 0
Asked [] room es = es ≡ []
Asked (c ∷ cs) room [] = ⊥
Asked (c ∷ cs) room (e ∷ es) = (e.call ≡ c) × (e.room ≡ room) × Asked cs room es

-- the entries, the first first, say what the lines say, the last first: of each its call, room, answer and slips
abbrev pub Tells : List Line → List Entry → Type 0
Tells [] es = es ≡ []
Tells (x ∷ past) es = (before : List Entry) × (e : Entry) × (es ≡ before ++ (e ∷ [])) × (line_in e x.came.book ≡ x) × Tells past before

-- the tries of calls over a run of so many places, the last first
abbrev pub tries : List Call → ℕ → List Try
tries calls room = reverse (map (λ c. record { call = c; room = room }) calls)

-- the journal that the rules of the book write of them
abbrev pub lines : Terms → Capacity → List Call → ℕ → List Line
lines t cap calls room = journal model t cap (tries calls room)

-- what is said of the entries of all calls and the session after them: they tell the journal that the rules write of
-- these calls; each line of it is lawful against the ledger of the lines before it; the lists at the end are that
-- ledger's live orders; and the journal leads to the session
pub record Journaled (t : Terms) (cap : Capacity) (calls : List Call) (room : ℕ) (es : List Entry) (s : Seen) : Type 0 where
  pub asked : Asked calls room es
  pub told : Tells (lines t cap calls room) es
  pub lawful : LawfulJournal t (lines t cap calls room)
  pub shown : Shown (books t (lines t cap calls room)) s.session.day.table.book
  pub leads : Leads t cap (lines t cap calls room) s.session
  pub terms : s.terms ≡ t

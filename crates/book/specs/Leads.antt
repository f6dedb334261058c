-- What the contract of a call says of the law: whatever journal leads to the session before the call, the call's own line
-- is lawful after it, and the longer journal leads to the session after the call.
use Rattle.std.specs.Prelude.{◌≡◌, List, [], ◌∷◌}
use Rattle.rules.specs.declared.terms.Terms.{Terms}
use Rattle.tables.specs.Meaning.{Capacity}
use Rattle.book.specs.Calls.{Outcome, step}
use Rattle.book.specs.Day.{Day}
use Rattle.book.specs.Marks.{Session, new_session, session_after}
use Rattle.book.specs.Law.{Try, Lawful}
use Rattle.book.specs.Model.{what_came}
use Rattle.book.specs.Journal.{Line, books}

-- what the rules make of a line on a day
abbrev pub outcome : Terms → Day → Try → Outcome
outcome t day x = step t day x.call x.room

-- the journal leads from a new session to this one
abbrev pub Leads : Terms → Capacity → List Line → Session → Type 0
Leads t cap [] s = s ≡ new_session cap
Leads t cap (x ∷ past) after =
    (s : Session) × Leads t cap past s × (what_came s.day (outcome t s.day x.asked) ≡ x.came) ×
    (session_after t x.asked.call s (outcome t s.day x.asked) ≡ after)

pub record GoesOn (t : Terms) (cap : Capacity) (before : Session) (x : Line) (after : Session) : Type 0 where
  pub lawful :
      (past : List Line) → Leads t cap past before →
      Lawful t (books t past) x.asked.call x.came.result x.came.book
  pub leads : (past : List Line) → Leads t cap past before → Leads t cap (x ∷ past) after

-- an outcome by the rules goes on
abbrev pub GoingOn : Type 0
GoingOn =
    (t : Terms) (cap : Capacity) (s : Session) (x : Try) →
    GoesOn t cap s (record { asked = x; came = what_came s.day (outcome t s.day x) }) (session_after t x.call s (outcome t s.day x))

-- The law of a journal: each try with what came of it. No engine stands in it.
use Rattle.std.specs.Prelude.{List, [], ◌∷◌}
use Rattle.rules.specs.declared.terms.Terms.{Terms}
use Rattle.tables.specs.Meaning.{Capacity}
use Rattle.book.specs.Ledger.{Ledger, new_ledger}
use Rattle.book.specs.Law.{Try, Came, Engine, book_keeping, Lawful, Law}

-- a try, and what came of it
pub record Line : Type 0 where
  pub asked : Try
  pub came : Came

-- the ledger of what came, the last line first
abbrev pub books : Terms → List Line → Ledger
books t [] = new_ledger
books t (x ∷ past) = book_keeping t x.asked.call x.came.result (books t past)

-- each line is lawful against the ledger of the lines before it
abbrev pub LawfulJournal : Terms → List Line → Type 0
LawfulJournal t [] = Unit {0}
LawfulJournal t (x ∷ past) =
    Lawful t (books t past) x.asked.call x.came.result x.came.book × LawfulJournal t past

-- the journal that an engine writes
abbrev pub journal : Engine → Terms → Capacity → List Try → List Line
journal e t cap [] = []
journal e t cap (x ∷ past) = record { asked = x; came = e t cap past x } ∷ journal e t cap past

-- an engine is lawful exactly if its journals are
abbrev pub LawOfJournals : Type 0
LawOfJournals =
    (e : Engine) →
    (Law e → (t : Terms) (cap : Capacity) (past : List Try) → LawfulJournal t (journal e t cap past)) ×
    (((t : Terms) (cap : Capacity) (past : List Try) → LawfulJournal t (journal e t cap past)) → Law e)

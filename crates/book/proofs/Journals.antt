use Rattle.std.proofs.Common.{◌≡◌, List, [], ◌∷◌, sym, refl, ap, subst}
use Rattle.rules.specs.declared.terms.Terms.{Terms}
use Rattle.tables.specs.Meaning.{Capacity}
use Rattle.book.specs.Ledger.{Ledger}
use Rattle.book.specs.Law.{Try, Engine, book_keeping, ledger, Lawful, Law}
use Rattle.book.specs.Journal.{books, LawfulJournal, journal, LawOfJournals}

module _ (e : Engine) (t : Terms) (cap : Capacity) where
  books_are : (past : List Try) → ledger e t cap past ≡ books t (journal e t cap past)
  books_are [] = refl
  books_are (x ∷ past) = ap (book_keeping t x.call (e t cap past x).result) (books_are past)

  line : (past : List Try) (x : Try) → Ledger → Type 0
  line past x L = Lawful t L x.call (e t cap past x).result (e t cap past x).book

  lawful_journal : Law e → (past : List Try) → LawfulJournal t (journal e t cap past)
  unfolding line
  lawful_journal law [] = tt
  lawful_journal law (x ∷ past) = (subst (line past x) (books_are past) (law t cap past x), lawful_journal law past)

  lawful_back : (past : List Try) (x : Try) → LawfulJournal t (journal e t cap (x ∷ past)) → line past x (ledger e t cap past)
  unfolding line
  lawful_back past x h = subst (line past x) (sym (books_are past)) h.0

pub law_of_journals : LawOfJournals
unfolding line
law_of_journals e =
    (λ law t cap past. lawful_journal e t cap law past, λ h t cap past x. lawful_back e t cap past x (h t cap (x ∷ past)))

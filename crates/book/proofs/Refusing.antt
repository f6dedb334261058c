-- What the law does not ask: that anything is accepted.
use Rattle.std.proofs.Common.{◌≡◌, List, [], ◌∷◌, sym, refl, subst}
use Rattle.rules.specs.declared.terms.Terms.{Terms}
use Rattle.tables.specs.Meaning.{Capacity, empty}
use Rattle.book.specs.Ledger.{new_ledger}
use Rattle.book.specs.Law.{Try, Law, Shown, ledger}
use Rattle.book.specs.Flaws.{refusing}
use Rattle.book.proofs.Laws.{start_agrees}

still_fresh : (t : Terms) (cap : Capacity) (past : List Try) → ledger refusing t cap past ≡ new_ledger
still_fresh t cap [] = refl
still_fresh t cap (x ∷ past) = still_fresh t cap past

pub refusing_is_lawful : Law refusing
refusing_is_lawful t cap past x =
    subst (λ L. Shown L empty) (sym (still_fresh t cap past)) (start_agrees t cap).inv.shown

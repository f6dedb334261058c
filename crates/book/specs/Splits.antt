-- What is said of each slip of a call, in other words: of the slip at every split of the slips, against the ledger of
-- those before it.
use Rattle.std.specs.Prelude.{◌≡◌, List, ◌∷◌, ◌++◌}
use Rattle.book.specs.declared.slip.Slip.{Slip}
use Rattle.book.specs.Ledger.{Ledger, post_all, Along}
use Rattle.book.specs.Law.{Mode, SlipRight}

abbrev pub AtSplits : (Ledger → Slip → Type 0) → Ledger → List Slip → Type 0
AtSplits P L slips = (xs : List Slip) (s : Slip) (ys : List Slip) → slips ≡ xs ++ (s ∷ ys) → P (post_all xs L) s

abbrev pub SlipsAtSplits : Type 0
SlipsAtSplits =
    (m : Mode) (L : Ledger) (slips : List Slip) →
    (Along (SlipRight m) L slips → AtSplits (SlipRight m) L slips) ×
    (AtSplits (SlipRight m) L slips → Along (SlipRight m) L slips)

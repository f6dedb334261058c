-- The price of the last trade, slip by slip.
use Rattle.std.proofs.Common.{◌≡◌, ℕ, zero, suc, ◌<◌, List, [], ◌∷◌, drop, length, get_or, Option, refl, arith}
use Rattle.book.specs.declared.slip.Slip.{Slip}
use Rattle.book.specs.declared.slip.Slip.TheVariants.{Trade, Lapse}
use Rattle.book.specs.Marks.{last_price}

pub last_step : (p : Option ℕ) (ss : List Slip) (i : ℕ) (d : Slip) → i < length ss → last_price p (drop i ss) ≡ last_price (last_price p (get_or ss i d ∷ [])) (drop (suc i) ss)
last_step p [] i d h = absurd (omega arith)
last_step p (Trade b s q v ∷ ss) zero d h = refl
last_step p (Lapse n v ∷ ss) zero d h = refl
last_step p (x ∷ ss) (suc i) d h = last_step p ss i d (omega arith)

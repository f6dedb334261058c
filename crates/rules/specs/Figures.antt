-- The published figures that the rules are shown to give, as one table.
use Rattle.std.specs.Prelude.{◌≡◌, ℕ, Bool, true, false, ◌&&◌, List, [], ◌∷◌, Some, None, Option, ◌==◌}
use Rattle.std.specs.Option.{option_map}
use Rattle.std.specs.List.{AllByRecursion}
use Rattle.rules.specs.Band.{band, lowest, highest}
use Rattle.rules.specs.Book.{limit, split}
use Rattle.rules.specs.Fixing.{fixing}
use Rattle.rules.specs.Reference.{next_reference}
use Rattle.rules.specs.Side.{same}
use Rattle.rules.specs.declared.order.Direction.{Direction}
use Rattle.rules.specs.declared.order.Direction.TheVariants.{Buy, Sell}
use Rattle.rules.specs.declared.order.Order.{Order}
use Rattle.rules.specs.declared.reference.DayRecord.{DayRecord}

pub data Figure : Type 0 where
  -- reference, lowest price, highest price
  band_is : ℕ → ℕ → ℕ → Figure
  -- reference, orders; price and volume, or none
  fixing_is : ℕ → List Order → Option (ℕ × ℕ) → Figure
  -- reference, side and price of a best order, whether it stood there throughout continuous trading; next reference
  next_is : ℕ → Direction → ℕ → Bool → ℕ → Figure

-- what a closed session without trades leaves
abbrev pub untraded : ℕ → Direction → ℕ → Bool → DayRecord
untraded r d price throughout =
    record {
      last_trade = None;
      buy_at_high = throughout && (same d Buy && price == highest r);
      sell_at_low = throughout && (same d Sell && price == lowest r);
    }

abbrev pub Holds : Figure → Type 0
Holds (band_is r lo hi) = band r ≡ (lo, hi)
Holds (fixing_is r os found) = option_map (λ c. (c.price, c.volume)) (fixing r (lowest r) (highest r) (split os)) ≡ found
Holds (next_is r d price throughout next) = next_reference r (lowest r) (highest r) (Some (untraded r d price throughout)) ≡ next

abbrev pub figures : List Figure
figures =
    band_is 1000 700 1300
    ∷ band_is 1 1 1
    ∷ fixing_is 1000 (limit 1 1 Buy 1020 20 ∷ limit 2 1 Sell 1040 20 ∷ []) None
    ∷ fixing_is 1000 (limit 1 1 Buy 1030 50 ∷ limit 2 1 Buy 1010 30 ∷ limit 3 1 Sell 1000 40 ∷ limit 4 1 Sell 1020 40 ∷ []) (Some (1020, 50))
    ∷ fixing_is 1000 (limit 1 1 Buy 1010 40 ∷ limit 2 1 Buy 1000 20 ∷ limit 3 1 Sell 990 40 ∷ []) (Some (1001, 40))
    ∷ next_is 1000 Buy 1300 true 1300
    ∷ next_is 1800 Buy 2340 false 1800
    ∷ next_is 2340 Sell 1638 true 1638
    ∷ []

abbrev pub FiguresHold : Type 0
FiguresHold = AllByRecursion Holds figures

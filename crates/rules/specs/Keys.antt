-- Tests that compare one key after another are total orders, level only where all keys are equal.
use Rattle.std.specs.Prelude.{◌≡◌, ℕ, Bool, true, false, nat_lt, refl}
use Rattle.std.proofs.Common.{arith}
use Rattle.std.specs.Cmp.{IsStrictWeakOrder}
use Rattle.std.proofs.lemmas.List.MinMax.{IsStrictWeakOrder-by_number, IsStrictWeakOrder-flip}
use Rattle.std.proofs.lemmas.Bool.Decides.{nat_tests}
use Rattle.rules.specs.Side.{better}
use Rattle.rules.specs.Rank.{by, level, greater, before, preferable}
use Rattle.rules.specs.declared.order.Direction.{Direction}
use Rattle.rules.specs.declared.order.Direction.TheVariants.{Buy, Sell}

-- lt is a total order, and Same says what is level
pub record Orders {X : Type 0} (lt : X → X → Bool) (Same : X → X → Type 0) : Type 0 where
  pub ranks : IsStrictWeakOrder lt
  pub same : (x y : X) → lt x y ≡ false → lt y x ≡ false → Same x y

abbrev pub Numbers : (ℕ → ℕ → Bool) → Type 0
Numbers first = Orders first (λ m n. m ≡ n)

pub rising : Numbers nat_lt
rising = record { ranks = IsStrictWeakOrder-by_number (λ n. n); same = λ x y h k. grind (arith, nat_tests) }

pub falling : Numbers greater
falling = record { ranks = IsStrictWeakOrder-flip nat_lt rising.ranks; same = λ x y h k. rising.same x y k h }

pub by_side : (d : Direction) → Numbers (better d)
by_side Buy = falling
by_side Sell = rising

pub levels : {X : Type 0} → Orders {X = X} level (λ x y. Unit {0})
levels = record { ranks = record { one_way = λ x y h. refl; chain = λ x y z h k. refl }; same = λ x y h k. tt }

module _ {X : Type 0} {first : ℕ → ℕ → Bool} (o : Numbers first) (key : X → ℕ) {next : X → X → Bool} {Same : X → X → Type 0} (n : Orders next Same) where
  by_one_way : (x y : X) → by first key next x y ≡ true → by first key next y x ≡ false
  by_one_way x y h = grind (arith, nat_tests, o.ranks.one_way, n.ranks.one_way)

  by_same : (x y : X) → by first key next x y ≡ false → by first key next y x ≡ false → (key x ≡ key y) × Same x y
  by_same x y h k =
      let e : key x ≡ key y = grind (arith, nat_tests, o.same) in
      (e, n.same x y (grind (arith, nat_tests)) (grind (arith, nat_tests)))

  by_chain : (x y z : X) → by first key next x y ≡ false → by first key next y z ≡ false → by first key next x z ≡ false
  by_chain x y z h k = grind (arith, nat_tests, o.ranks.chain, n.ranks.chain, o.same)

  pub by_orders : Orders (by first key next) (λ x y. (key x ≡ key y) × Same x y)
  by_orders = record { ranks = record { one_way = by_one_way; chain = by_chain }; same = by_same }

-- the two ranks
pub orders : (d : Direction) → Orders (before d) (λ x y. (x.price ≡ y.price) × ((x.arrival ≡ y.arrival) × ((x.number ≡ y.number) × Unit {0})))
orders d = by_orders (by_side d) (λ o. o.price) (by_orders rising (λ o. o.arrival) (by_orders rising (λ o. o.number) levels))

pub candidates : Orders preferable (λ x y. (x.volume ≡ y.volume) × ((x.surplus ≡ y.surplus) × ((x.distance ≡ y.distance) × ((x.price ≡ y.price) × Unit {0}))))
candidates =
    by_orders falling (λ c. c.volume) (by_orders rising (λ c. c.surplus) (by_orders rising (λ c. c.distance) (by_orders rising (λ c. c.price) levels)))

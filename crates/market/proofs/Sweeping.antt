-- One turn of the sweep.
use Rattle.std.proofs.Common.{◌≡◌, ℕ, ◌+◌, ◌-◌, min, ◌<◌, ◌≤◌, Bool, true, false, not, ◌||◌, List, [], ◌∷◌, ◌++◌, append_assoc, length, Some, None, leb, ◌==◌, refl, sym, ap, ◌∙◌, arith, ⊎_elim}
use Rattle.std.proofs.lemmas.Bool.{le-leb, lt-leb, cond-true, cond-false, cond_both, cases_lt}
use Rattle.std.specs.List.{slice_get}
use Rattle.rules.specs.Side.{opposite, willing}
use Rattle.rules.specs.declared.order.Direction.{Direction}
use Rattle.rules.specs.declared.order.Direction.TheVariants.{Buy, Sell}
use Rattle.rules.specs.declared.order.Order.{Order}
use Rattle.tables.specs.Listing.{with_volume}
use Rattle.tables.specs.Meaning.{Contents, listed, with_listed}
use Rattle.book.specs.declared.slip.Slip.{Slip}
use Rattle.book.specs.Calls.{Sweep, sweep, slip_then as slipped, trade}
use Rattle.market.specs.Fills.{first_taken}
use Rattle.market.proofs.Taking.{first_list}

pub with_same : (d : Direction) (c : Contents) → with_listed d (listed d c) c ≡ c
with_same Buy c = refl
with_same Sell c = refl

pub listed_on : (d : Direction) (xs : List Order) (c : Contents) → listed d (with_listed d xs c) ≡ xs
listed_on Buy xs c = refl
listed_on Sell xs c = refl

pub on_twice : (d : Direction) (xs ys : List Order) (c : Contents) → with_listed d xs (with_listed d ys c) ≡ with_listed d xs c
on_twice Buy xs ys c = refl
on_twice Sell xs ys c = refl

-- the same with slips before
abbrev pub after : List Slip → Sweep → Sweep
after ss w = record { slips = ss ++ w.slips; rest = w.rest; left = w.left }

pub after_more : (ss : List Slip) (s : Slip) (w : Sweep) → after (ss ++ (s ∷ [])) w ≡ after ss (slipped s w)
after_more ss s w = ap (λ xs. record { slips = xs; rest = w.rest; left = w.left }) (append_assoc ss (s ∷ []) w.slips)

-- nothing more happens
abbrev pub still : List Order → ℕ → Sweep
still xs v = record { slips = []; rest = xs; left = v }

-- the order n of side d and price p
module _ (d : Direction) (n p : ℕ) where
  abbrev a : Direction
  a = opposite d

  abbrev Stop : Order → ℕ → Bool
  Stop o v = v == 0 || not (willing a o.price p)

  stop : (o : Order) (os : List Order) (v : ℕ) → Stop o v ≡ true → sweep d n p (o ∷ os) v ≡ still (o ∷ os) v
  stop o os v h = cond-true _ _ _ h

  all : (o : Order) (os : List Order) (v : ℕ) → Stop o v ≡ false → o.volume ≤ v →
      sweep d n p (o ∷ os) v ≡ slipped (trade d n o.number o.price o.volume) (sweep d n p os (v - o.volume))
  all o os v h k = cond-false _ _ _ h ∙ cond-true _ _ _ (le-leb o.volume v k)

  part : (o : Order) (os : List Order) (v : ℕ) → Stop o v ≡ false → v < o.volume →
      sweep d n p (o ∷ os) v ≡ slipped (trade d n o.number o.price v) (still (with_volume (o.volume - v) o ∷ os) 0)
  part o os v h k = cond-false _ _ _ h ∙ cond-false _ _ _ (lt-leb o.volume v k)

  turn : (o : Order) (os : List Order) (v m : ℕ) → Stop o v ≡ false → m ≡ min v o.volume →
      sweep d n p (o ∷ os) v ≡ slipped (trade d n o.number o.price m) (sweep d n p (first_taken m (o ∷ os)) (v - m))
  turn o os v m h e = ⊎_elim some whole (cases_lt v o.volume)
    where
      Turn : Type 0
      Turn = sweep d n p (o ∷ os) v ≡ slipped (trade d n o.number o.price m) (sweep d n p (first_taken m (o ∷ os)) (v - m))

      whole : o.volume ≤ v → Turn
      whole k =
          let x = all o os v h k in
          let is : m ≡ o.volume = omega arith in
          let y : first_taken m (o ∷ os) ≡ os = cond-true _ _ _ (le-leb o.volume m (omega arith)) in
          cc

      some : v < o.volume → Turn
      some k =
          let x = part o os v h k in
          let is : m ≡ v = omega arith in
          let z : v - m ≡ 0 = omega arith in
          let y : first_taken m (o ∷ os) ≡ with_volume (o.volume - m) o ∷ os = cond-false _ _ _ (lt-leb o.volume m (omega arith)) in
          let u = stop (with_volume (o.volume - m) o) os 0 refl in
          cc

  pub sweep_none : (xs : List Order) (v : ℕ) → slice_get xs 0 ≡ None → sweep d n p xs v ≡ still xs v
  sweep_none [] v h = refl
  sweep_none (x ∷ xs) v h = let z : ◌≡◌ {A = ℕ} 0 1 = cc in absurd (omega arith)

  pub sweep_stop : (xs : List Order) (o : Order) (v : ℕ) → slice_get xs 0 ≡ Some o → Stop o v ≡ true → sweep d n p xs v ≡ still xs v
  sweep_stop xs o v h t =
      let f = first_list xs o h in
      ap (λ ys. sweep d n p ys v) f.1 ∙ stop o f.0 v t ∙ ap (λ ys. still ys v) (sym f.1)

  pub sweep_turn : (xs : List Order) (o : Order) (v m : ℕ) → slice_get xs 0 ≡ Some o → Stop o v ≡ false → m ≡ min v o.volume →
      sweep d n p xs v ≡ slipped (trade d n o.number o.price m) (sweep d n p (first_taken m xs) (v - m))
  sweep_turn xs o v m h goes e =
      let f = first_list xs o h in
      ap (λ ys. sweep d n p ys v) f.1 ∙ turn o f.0 v m goes e
      ∙ ap (λ ys. slipped (trade d n o.number o.price m) (sweep d n p (first_taken m ys) (v - m))) (sym f.1)

-- what is left to come is one less, if the entering order goes on
pub took_length : (xs : List Order) (o : Order) (v m : ℕ) → slice_get xs 0 ≡ Some o → m ≡ min v o.volume → 0 < v - m → length (first_taken m xs) + 1 ≡ length xs
took_length xs o v m h e p =
    let f = first_list xs o h in
    let b : first_taken m (o ∷ f.0) ≡ f.0 = cond-true _ _ _ (le-leb o.volume m (omega arith)) in
    omega (arith, ap (λ ys. length (first_taken m ys)) f.1, ap length b, ap length f.1)

pub took_most : (m : ℕ) (xs : List Order) → length (first_taken m xs) ≤ length xs
took_most m [] = omega arith
took_most m (o ∷ os) = cond_both (leb o.volume m) os (with_volume (o.volume - m) o ∷ os) (λ ys. length ys ≤ length (o ∷ os)) (λ _. omega arith) (λ _. omega arith)

pub took_smaller : (xs : List Order) (o : Order) (v m : ℕ) → slice_get xs 0 ≡ Some o → m ≡ min v o.volume → (v ≡ 0 → ⊥) → length (first_taken m xs) + min 1 (v - m) < length xs + min 1 v
took_smaller xs o v m h e p =
    ⊎_elim
    (λ k. omega (arith, took_length xs o v m h e k))
    (λ k. omega (arith, took_most m xs))
    (cases_lt 0 (v - m))

-- A row of which a part is moved one place on or back, element by element.
use Rattle.std.proofs.Common.{◌≡◌, ℕ, ◌+◌, ◌-◌, ◌<◌, ◌≤◌, List, [], ◌∷◌, ◌++◌, length, get_or, take, drop, set, sym, refl, ap, ◌∙◌, append-nil, add-one, arith}
use lib.Seq.{take-set-lt}
use Rattle.std.specs.List.{insert, remove}
use Rattle.std.proofs.lemmas.List.{append_assoc, length-take-le, get_or-take, take-take, take-set-le, take_more, take_more_set, drop_all, drop_more, drop-append-le, drop-set, drop-set-lt, take-append-drop}

module _ {X : Type 0} where
  front : (xs ys : List X) (m n : ℕ) → m ≤ n → take n xs ≡ take n ys → take m xs ≡ take m ys
  front xs ys m n le e = sym (take-take m n xs le) ∙ ap (take m) e ∙ take-take m n ys le

  same_at : (xs ys : List X) (i n : ℕ) (d : X) → i < n → take n xs ≡ take n ys → get_or xs i d ≡ get_or ys i d
  same_at xs ys i n d lt e = sym (get_or-take n xs i d lt) ∙ ap (λ zs. get_or zs i d) e ∙ get_or-take n ys i d lt

  -- the row `ys` began as `xs`, and those of the first `count` from `i` on stand one place on
  pub record Opened (xs ys : List X) (count i : ℕ) : Type 0 where
    pub still : take (i + 1) ys ≡ take (i + 1) xs
    pub moved : drop (i + 1) (take (count + 1) ys) ≡ drop i (take count xs)

  pub opened_none : (xs : List X) (count : ℕ) → count < length xs → Opened xs xs count count
  opened_none xs count lt =
      let l = length-take-le count xs (omega arith) in
      let m = length-take-le (count + 1) xs (omega arith) in
      record { still = refl; moved = drop_all (count + 1) (take (count + 1) xs) (omega arith) ∙ sym (drop_all count (take count xs) (omega arith)) }

  pub opened_more : (xs ys : List X) (count i : ℕ) (d : X) → i < count → count < length xs → length ys ≡ length xs → Opened xs ys count (i + 1) → Opened xs (set ys (i + 1) (get_or ys i d)) count i
  opened_more xs ys count i d below within long o =
      let x = get_or ys i d in
      let zs = take (count + 1) ys in
      let m = length-take-le (count + 1) ys (omega arith) in
      let l = length-take-le count xs (omega arith) in
      let same : x ≡ get_or (take count xs) i d =
      same_at ys xs i (i + 1 + 1) d (omega arith) o.still ∙ sym (get_or-take count xs i d below) in
      record {
        still = take-set-le (i + 1) ys (i + 1) x (omega arith) ∙ front ys xs (i + 1) (i + 1 + 1) (omega arith) o.still;
        moved =
            ap (drop (i + 1)) (take-set-lt (count + 1) ys (i + 1) x (omega arith))
            ∙ drop-set zs (i + 1) x (omega arith)
            ∙ ap (λ rest. x ∷ rest) o.moved
            ∙ ap (λ y. y ∷ drop (i + 1) (take count xs)) same
            ∙ sym (drop_more (take count xs) i d (omega arith));
      }

  -- with y written into the open place
  pub opened_all : (xs ys : List X) (count at i : ℕ) (y : X) → i ≡ at → at ≤ count → count < length xs → length ys ≡ length xs
      → Opened xs ys count i → take (count + 1) (set ys at y) ≡ insert (take count xs) at y
  opened_all xs ys count at i y is le lt long o =
      let zs = take (count + 1) ys in
      let l = length-take-le (count + 1) ys (omega arith) in
      let before : take at ys ≡ take at xs = front ys xs at (i + 1) (omega arith) o.still in
      let behind : drop (at + 1) zs ≡ drop at (take count xs) = rw (sym is) o.moved in
      take-set-lt (count + 1) ys at y (omega arith)
      ∙ sym (take-append-drop at (set zs at y))
      ∙ ap (λ b. b ++ drop at (set zs at y)) (take-set-le at zs at y (omega arith) ∙ take-take at (count + 1) ys (omega arith) ∙ before ∙ sym (take-take at count xs le))
      ∙ ap (λ b. take at (take count xs) ++ b) (drop-set zs at y (omega arith) ∙ ap (λ b. y ∷ b) behind)

  -- the row `ys` began as `xs`, and those behind `at` and up to `i` stand one place back
  pub record Closed (xs ys : List X) (at i : ℕ) : Type 0 where
    pub moved : take i ys ≡ take at xs ++ drop (at + 1) (take (i + 1) xs)
    pub still : drop i ys ≡ drop i xs

  pub closed_none : (xs : List X) (at : ℕ) → at < length xs → Closed xs xs at at
  closed_none xs at lt =
      let l = length-take-le (at + 1) xs (omega arith) in
      record {
        moved = sym (ap (λ b. take at xs ++ b) (drop_all (at + 1) (take (at + 1) xs) (omega arith)) ∙ append-nil (take at xs));
        still = refl;
      }

  pub closed_more : (xs ys : List X) (at i : ℕ) (d : X) → at ≤ i → i + 1 < length xs → length ys ≡ length xs → Closed xs ys at i → Closed xs (set ys i (get_or ys (i + 1) d)) at (i + 1)
  closed_more xs ys at i d le lt long c =
      let x = get_or ys (i + 1) d in
      let l = length-take-le (i + 1) xs (omega arith) in
      let rest : drop (i + 1) ys ≡ drop (i + 1) xs = cc (drop_more ys i d (omega arith), drop_more xs i d (omega arith), c.still) in
      let same : x ≡ get_or xs (i + 1) d = cc (drop_more ys (i + 1) d (omega arith), drop_more xs (i + 1) d (omega arith), rest) in
      record {
        moved =
            take_more_set ys i x (omega arith)
            ∙ ap (λ b. b ++ x ∷ []) c.moved
            ∙ append_assoc (take at xs) (drop (at + 1) (take (i + 1) xs)) (x ∷ [])
            ∙ ap (λ y. take at xs ++ (drop (at + 1) (take (i + 1) xs) ++ y ∷ [])) same
            ∙ ap (λ b. take at xs ++ b) (sym (drop-append-le (at + 1) (take (i + 1) xs) (get_or xs (i + 1) d ∷ []) (omega arith)))
            ∙ ap (λ b. take at xs ++ drop (at + 1) b) (sym (take_more xs (i + 1) d lt));
        still = drop-set-lt (i + 1) ys i x (omega arith) ∙ rest;
      }

  pub closed_all : (xs ys : List X) (at i count : ℕ) → at ≤ i → i + 1 ≡ count → Closed xs ys at i → take (count - 1) ys ≡ remove (take count xs) at
  closed_all xs ys at i count le is c =
      let e : count - 1 ≡ i = omega arith in
      rw e c.moved ∙ ap (λ b. b ++ drop (at + 1) (take (i + 1) xs)) (sym (take-take at (i + 1) xs (omega arith)))
      ∙ ap (λ n. take at (take n xs) ++ drop (at + 1) (take n xs)) is ∙ rw add-one refl

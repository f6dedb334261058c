-- A row of which a part was turned by one, with an element put in.
use Rattle.std.proofs.Common.{◌≡◌, ℕ, suc, ◌+◌, ◌-◌, ◌<◌, ◌≤◌, List, ◌∷◌, ◌++◌, length, take, drop, set, sym, refl, ap, ◌∙◌, arith}
use borrow.Rule.Slice.PartMut.{put_mid}
use Rattle.std.specs.List.{insert}
use Rattle.std.proofs.lemmas.List.{append_assoc, length-append, length-take-le, length-drop, take-take, take_at, drop_at, drop-drop, drop-take, set_split}

module _ {X : Type 0} (xs : List X) (i n : ℕ) (le : i ≤ n) (within : n ≤ length xs) where
  behind : drop i (take n xs) ≡ take (n - i) (drop i xs)
  behind = let e : n ≡ i + (n - i) = omega arith in ap (λ m. drop i (take m xs)) e ∙ drop-take i (n - i) xs

  front : take i (take n xs) ≡ take i xs
  front = take-take i n xs le

  one_more : i + 1 ≡ suc i
  one_more = omega arith

  length_front : length (take i xs) ≡ i
  length_front = length-take-le i xs (omega arith)

  length_part : (k : ℕ) → k ≤ length xs - i → length (take k (drop i xs)) ≡ k
  length_part k h = length-take-le k (drop i xs) (rw length-drop h)

  -- those from i on and the place behind the n turned right by one, and y written at i
  pub put_in : n < length xs → (y : X) (r : List X) → (let mid = take (n + 1 - i) (drop i xs) in r ≡ drop (length mid - 1) mid ++ take (length mid - 1) mid) → take (n + 1) (set (put_mid i (n + 1 - i) xs r) i y) ≡ insert (take n xs) i y
  put_in lt y r is =
      let mid = take (n + 1 - i) (drop i xs) in
      let post = drop (n + 1 - i) (drop i xs) in
      let a = drop (length mid - 1) mid in
      let b = take (length mid - 1) mid in
      let long = length_part (n + 1 - i) (omega arith) in
      let one : length a ≡ 1 = length-drop (length mid - 1) mid ∙ omega arith in
      let same : b ≡ take (n - i) (drop i xs) = ap (λ m. take m mid) (ap (λ m. m - 1) long ∙ omega arith) ∙ take-take (n - i) (n + 1 - i) (drop i xs) (omega arith) in
      let short : length b ≡ n - i = ap length same ∙ length_part (n - i) (omega arith) in
      let size : length r ≡ 1 + (n - i) = ap length is ∙ length-append a b ∙ rw (one, short) refl in
      let whole = take i xs ++ (r ++ post) in
      let fits : i < length whole = rw (length-append, length-append, length_front, size) (omega arith) in
      let rest : drop (suc i) whole ≡ b ++ post =
      ap (λ m. drop m whole) (sym one_more)
      ∙ sym (drop-drop 1 i whole)
      ∙ ap (drop 1) (drop_at (take i xs) (r ++ post) i length_front ∙ ap (λ ys. ys ++ post) is ∙ append_assoc a b post)
      ∙ drop_at a (b ++ post) 1 one in
      ap (take (n + 1)) (
      set_split whole i y fits
      ∙ ap (λ ys. ys ++ y ∷ drop (suc i) whole) (take_at (take i xs) (r ++ post) i length_front)
      ∙ ap (λ ys. take i xs ++ y ∷ ys) rest
      ∙ sym (append_assoc (take i xs) (y ∷ b) post))
      ∙ take_at (take i xs ++ y ∷ b) post (n + 1) (length-append (take i xs) (y ∷ b) ∙ rw (length_front, short) (omega arith))
      ∙ ap (λ ys. ys ++ y ∷ b) (sym front)
      ∙ ap (λ ys. take i (take n xs) ++ y ∷ ys) (same ∙ sym behind)

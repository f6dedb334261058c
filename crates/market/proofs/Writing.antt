-- A run that is written slip by slip, and from a place on.
use Rattle.std.proofs.Common.{◌≡◌, ℕ, ◌+◌, ◌-◌, ◌≤◌, List, [], ◌++◌, length, take, drop, set, sym, ap, ◌∙◌, arith, append-nil, append_assoc, length-append, drop_of_length-le}
use Rattle.std.proofs.Math.Seq.{take-append_seam, drop-append-add}
use Rattle.std.proofs.lemmas.List.{take-append-drop, drop-set-lt, drop-drop, length-take-le, length-drop}
use borrow.Rule.Slice.PartMut.{put_mid, post_of}
use Rattle.book.specs.declared.slip.Slip.{Slip}
use Rattle.market.specs.Outcome.{written_into}

-- k slips are written, and the places behind them are as they were
module _ (k : ℕ) (run old : List Slip) (same : drop k run ≡ drop k old) where
  pub written_so_far : k ≤ length run → run ≡ written_into old (take k run)
  written_so_far le =
      sym (take-append-drop k run) ∙ ap (λ z. take k run ++ z) same
      ∙ ap (λ n. take k run ++ drop n old) (sym (length-take-le k run le))

  pub same_behind : (s : Slip) → drop (k + 1) (set run k s) ≡ drop (k + 1) old
  same_behind s = drop-set-lt (k + 1) run k s (omega arith) ∙ sym (drop-drop 1 k run) ∙ ap (drop 1) same ∙ drop-drop 1 k old

pub length_into : (run slips : List Slip) → length slips ≤ length run → length (written_into run slips) ≡ length run
length_into run slips le = omega (arith, length-append slips (drop (length slips) run), length-drop (length slips) run)

-- a run that is written from the place a on, from its first place there
part_written : (a : ℕ) (xs slips : List Slip) → a ≤ length xs →
    put_mid a (length xs - a) xs (written_into (drop a xs) slips) ≡ (take a xs ++ slips) ++ drop (a + length slips) xs
part_written a xs slips le =
    let e : post_of a (length xs - a) xs ≡ [] = drop_of_length-le (drop a xs) (omega (arith, length-drop a xs)) in
    ap (λ z. take a xs ++ (written_into (drop a xs) slips ++ z)) e ∙
    (ap (λ z. take a xs ++ z) (append-nil (written_into (drop a xs) slips)) ∙
    (ap (λ z. take a xs ++ (slips ++ z)) (drop-drop (length slips) a xs) ∙
    sym (append_assoc (take a xs) slips (drop (a + length slips) xs))))

-- slips, and then others behind them
pub then_written : (run xs ys : List Slip) → length xs ≤ length run → (a : ℕ) (w z : List Slip) → a ≡ length xs → w ≡ written_into run xs → z ≡ written_into (drop a w) ys →
    put_mid a (length w - a) w z ≡ written_into run (xs ++ ys)
then_written run xs ys le a w z ea ew ez =
    let n = length xs in
    let v = written_into run xs in
    let front : take n v ≡ xs = take-append_seam xs (drop n run) in
    let rest : drop (n + length ys) v ≡ drop (length (xs ++ ys)) run =
    drop-append-add xs (drop n run) (length ys) ∙ drop-drop (length ys) n run ∙ ap (λ m. drop m run) (sym (length-append xs ys))
    in
    ap (put_mid a (length w - a) w) ez
    ∙ (λ i. put_mid (ea i) (length (ew i) - ea i) (ew i) (written_into (drop (ea i) (ew i)) ys))
    ∙ part_written n v ys (omega (arith, length_into run xs le))
    ∙ (λ i. (front i ++ ys) ++ rest i)

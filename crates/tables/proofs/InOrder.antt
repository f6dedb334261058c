-- A book in no order, put in rank order: what is done before or after comes to the same.
use Rattle.std.proofs.Common.{◌≡◌, ℕ, ◌+◌, [], ◌∷◌, ◌++◌, length, refl, ap, ◌∙◌, arith}
use Rattle.std.specs.List.{find}
use Rattle.std.specs.Option.{option_or}
use Rattle.rules.specs.Book.{Book, side}
use Rattle.rules.specs.Rank.{before}
use Rattle.rules.specs.declared.order.Direction.{Direction}
use Rattle.rules.specs.declared.order.Direction.TheVariants.{Buy, Sell}
use Rattle.rules.specs.declared.order.Order.{Order}
use Rattle.tables.specs.Listing.{numbered, times, Distinct, insert, arranged, without, set_volume}
use Rattle.tables.specs.Meaning.{Once, Sorted, book_of, in_order, with_side, each_side, lookup}
use Rattle.tables.proofs.Arranging.{arranged_same, counted-arranged, length-arranged, arranged_push, arranged-set_volume, arranged-without, find-arranged}
use Rattle.tables.proofs.Ranking.{ranking}

pub side_in_order : (b : Book) (d : Direction) → side d (in_order b) ≡ arranged (before d) (side d b)
side_in_order b Buy = refl
side_in_order b Sell = refl

-- a book in rank order stays as it is
pub in_order_same : (b : Book) → Sorted b → in_order b ≡ b
in_order_same b s =
    ap (λ bs. book_of bs (in_order b).sells) (arranged_same (before Buy) b.buys (s Buy)) ∙ ap (book_of b.buys) (arranged_same (before Sell) b.sells (s Sell))

pub length-in_order : (b : Book) (d : Direction) → length (side d (in_order b)) ≡ length (side d b)
length-in_order b d = ap length (side_in_order b d) ∙ length-arranged (ranking d) (side d b)

pub times-in_order : (b : Book) (n : ℕ) → times n (in_order b).buys + times n (in_order b).sells ≡ times n b.buys + times n b.sells
times-in_order b n = omega (arith, counted-arranged (ranking Buy) (numbered n) b.buys, counted-arranged (ranking Sell) (numbered n) b.sells)

pub pushed_in_order : (b : Book) (o : Order) (d : Direction) → times o.number (side d b) ≡ 0
    → in_order (with_side d (side d b ++ o ∷ []) b) ≡ with_side d (insert (before d) o (side d (in_order b))) (in_order b)
pushed_in_order b o Buy e = ap (λ bs. book_of bs (in_order b).sells) (arranged_push (ranking Buy) o b.buys e)
pushed_in_order b o Sell e = ap (book_of (in_order b).buys) (arranged_push (ranking Sell) o b.sells e)

pub volume_set_in_order : (b : Book) (n v : ℕ) → in_order (each_side (set_volume n v) b) ≡ each_side (set_volume n v) (in_order b)
volume_set_in_order b n v =
    ap (λ bs. book_of bs (arranged (before Sell) (set_volume n v b.sells))) (arranged-set_volume (ranking Buy) n v b.buys)
    ∙ ap (book_of (set_volume n v (in_order b).buys)) (arranged-set_volume (ranking Sell) n v b.sells)

module _ (b : Book) (once : Once b) where
  buys_apart : Distinct b.buys
  buys_apart n = omega (arith, once n)

  sells_apart : Distinct b.sells
  sells_apart n = omega (arith, once n)

  pub side_apart : (d : Direction) → Distinct (side d b)
  side_apart Buy = buys_apart
  side_apart Sell = sells_apart

  pub removed_in_order : (n : ℕ) → in_order (each_side (without n) b) ≡ each_side (without n) (in_order b)
  removed_in_order n =
      ap (λ bs. book_of bs (arranged (before Sell) (without n b.sells))) (arranged-without (ranking Buy) n b.buys buys_apart)
      ∙ ap (book_of (without n (in_order b).buys)) (arranged-without (ranking Sell) n b.sells sells_apart)

  pub lookup-in_order : (n : ℕ) → lookup n (in_order b) ≡ lookup n b
  lookup-in_order n =
      ap (λ o. option_or o (find (numbered n) (in_order b).sells)) (find-arranged (ranking Buy) n b.buys buys_apart)
      ∙ ap (option_or (find (numbered n) b.buys)) (find-arranged (ranking Sell) n b.sells sells_apart)

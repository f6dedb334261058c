-- One turn of the pairing.
use Rattle.std.proofs.Common.{◌≡◌, ℕ, zero, suc, ◌+◌, min, ◌<◌, ◌≤◌, Bool, true, false, ◌&&◌, List, [], ◌∷◌, ◌++◌, append_assoc, append-nil, length, take, drop, Some, None, refl, sym, ap, subst, ◌∙◌, arith, ⊎_elim}
use Rattle.std.proofs.lemmas.Bool.{le-leb, cond-true, cond-false, cases_lt, cases_Bool}
use Rattle.std.specs.List.{slice_get}
use Rattle.rules.specs.Side.{willing}
use Rattle.rules.specs.declared.order.Direction.TheVariants.{Buy, Sell}
use Rattle.rules.specs.declared.order.Order.{Order}
use Rattle.tables.specs.Meaning.{Contents, Sound, listed, holding, book_of}
use Rattle.book.specs.declared.slip.Slip.{Slip}
use Rattle.book.specs.declared.slip.Slip.TheVariants.{Trade, Lapse}
use Rattle.std.proofs.lemmas.List.{length-take-le}
use Rattle.market.specs.Outcome.{written_into}
use Rattle.market.proofs.Writing.{written_so_far}
use Rattle.book.specs.Calls.{Pairing, match_at, pair, trade_then as slipped, turnover}
use Rattle.book.specs.Rows.{order_count}
use Rattle.market.specs.Fills.{first_taken, first_taken_on}
use Rattle.market.proofs.Taking.{first_list, listed_side}
use Rattle.market.proofs.Sweeping.{took_most}

abbrev pub Both : ℕ → Order → Order → Bool
Both p b s = willing Buy b.price p && willing Sell s.price p

-- the same with slips before
abbrev pub after : List Slip → Pairing → Pairing
after ss w = record { slips = ss ++ w.slips; buys = w.buys; sells = w.sells }

pub after_more : (ss : List Slip) (s : Slip) (w : Pairing) → after (ss ++ (s ∷ [])) w ≡ after ss (slipped s w)
after_more ss s w = ap (λ xs. record { slips = xs; buys = w.buys; sells = w.sells }) (append_assoc ss (s ∷ []) w.slips)

pub turnover_append : (xs ys : List Slip) → turnover (xs ++ ys) ≡ turnover xs + turnover ys
turnover_append [] ys = omega arith
turnover_append (Trade b s p v ∷ xs) ys = omega (arith, turnover_append xs ys)
turnover_append (Lapse n v ∷ xs) ys = turnover_append xs ys

abbrev pub still : List Order → List Order → Pairing
still bs ss = record { slips = []; buys = bs; sells = ss }

took_one : (m : ℕ) (o : Order) (os : List Order) → o.volume ≤ m → length (first_taken m (o ∷ os)) ≡ length os
took_one m o os e = ap length (cond-true _ os _ (le-leb o.volume m e))

-- a trade for the smaller volume takes one order out at least
pub took_pair : (m : ℕ) (b s : Order) (bs ss : List Order) → m ≡ min b.volume s.volume →
    length (first_taken m (b ∷ bs)) + length (first_taken m (s ∷ ss)) < length (b ∷ bs) + length (s ∷ ss)
took_pair m b s bs ss e =
    ⊎_elim
    (λ k. omega (arith, took_one m b bs (omega arith), took_most m (s ∷ ss)))
    (λ k. omega (arith, took_one m s ss (omega arith), took_most m (b ∷ bs)))
    (cases_lt b.volume s.volume)

module _ (p : ℕ) where
  turn : (n m : ℕ) (b s : Order) (bs ss : List Order) → Both p b s ≡ true → m ≡ min b.volume s.volume →
      pair p (suc n) (b ∷ bs) (s ∷ ss) ≡ slipped (Trade b.number s.number p m) (pair p n (first_taken m (b ∷ bs)) (first_taken m (s ∷ ss)))
  turn n m b s bs ss h e = rw e (cond-true _ _ _ h)

  pub none : (n : ℕ) (bs ss : List Order) → slice_get bs 0 ≡ None → pair p n bs ss ≡ still bs ss
  none zero bs ss h = refl
  none (suc n) [] ss h = refl
  none (suc n) (b ∷ bs) ss h = let z : ◌≡◌ {A = ℕ} 0 1 = cc in absurd (omega arith)

  pub none_sell : (n : ℕ) (bs ss : List Order) → slice_get ss 0 ≡ None → pair p n bs ss ≡ still bs ss
  none_sell zero bs ss h = refl
  none_sell (suc n) [] ss h = refl
  none_sell (suc n) (b ∷ bs) [] h = refl
  none_sell (suc n) (b ∷ bs) (s ∷ ss) h = let z : ◌≡◌ {A = ℕ} 0 1 = cc in absurd (omega arith)

  stop : (n : ℕ) (b s : Order) (bs ss : List Order) → Both p b s ≡ false → pair p n (b ∷ bs) (s ∷ ss) ≡ still (b ∷ bs) (s ∷ ss)
  stop zero b s bs ss h = refl
  stop (suc n) b s bs ss h = cond-false _ _ _ h

  -- enough turns are enough
  enough : (n k : ℕ) (bs ss : List Order) → length bs + length ss ≤ n → length bs + length ss ≤ k → pair p n bs ss ≡ pair p k bs ss
  enough n k [] ss x y = none n [] ss refl ∙ sym (none k [] ss refl)
  enough n k (b ∷ bs) [] x y = none_sell n (b ∷ bs) [] refl ∙ sym (none_sell k (b ∷ bs) [] refl)
  enough zero k (b ∷ bs) (s ∷ ss) x y = absurd (omega arith)
  enough (suc n) zero (b ∷ bs) (s ∷ ss) x y = absurd (omega arith)
  enough (suc n) (suc k) (b ∷ bs) (s ∷ ss) x y =
      let m = min b.volume s.volume in
      let less = took_pair m b s bs ss refl in
      let ih = enough n k (first_taken m (b ∷ bs)) (first_taken m (s ∷ ss)) (omega arith) (omega arith) in
      ⊎_elim
      (λ t. turn n m b s bs ss t refl ∙ ap (slipped (Trade b.number s.number p m)) ih ∙ sym (turn k m b s bs ss t refl))
      (λ t. stop (suc n) b s bs ss t ∙ sym (stop (suc k) b s bs ss t))
      (cases_Bool (Both p b s))

  module _ (c : Contents) (b s : Order) (hb : slice_get c.book.buys 0 ≡ Some b) (hs : slice_get c.book.sells 0 ≡ Some s) where
    f : (os : List Order) × (c.book.buys ≡ b ∷ os)
    f = first_list c.book.buys b hb

    g : (os : List Order) × (c.book.sells ≡ s ∷ os)
    g = first_list c.book.sells s hs

    pub pair_stop : Both p b s ≡ false → pair p (order_count c) c.book.buys c.book.sells ≡ still c.book.buys c.book.sells
    pair_stop h =
        (λ i. pair p (order_count c) (f.1 i) (g.1 i)) ∙ stop (order_count c) b s f.0 g.0 h ∙ (λ i. still (sym f.1 i) (sym g.1 i))

    pub pair_turn : (m : ℕ) → Both p b s ≡ true → m ≡ min b.volume s.volume →
        pair p (order_count c) c.book.buys c.book.sells
        ≡ slipped (Trade b.number s.number p m) (pair p (length (first_taken m c.book.buys) + length (first_taken m c.book.sells)) (first_taken m c.book.buys) (first_taken m c.book.sells))
    pair_turn m h e =
        let n = order_count c in
        let bs = first_taken m c.book.buys in
        let ss = first_taken m c.book.sells in
        let slip = Trade b.number s.number p m in
        let more = enough n (suc n) c.book.buys c.book.sells (omega arith) (omega arith) in
        let one : pair p (suc n) c.book.buys c.book.sells ≡ slipped slip (pair p n bs ss) =
        (λ i. pair p (suc n) (f.1 i) (g.1 i)) ∙ turn n m b s f.0 g.0 h e ∙ (λ i. slipped slip (pair p n (first_taken m (sym f.1 i)) (first_taken m (sym g.1 i)))) in
        let less = enough n (length bs + length ss) bs ss (omega (arith, took_most m c.book.buys, took_most m c.book.sells)) (omega arith) in
        more ∙ one ∙ ap (slipped slip) less

    pub took_fewer : (m : ℕ) → m ≡ min b.volume s.volume → length (first_taken m c.book.buys) + length (first_taken m c.book.sells) < order_count c
    took_fewer m e =
        omega (arith, took_pair m b s f.0 g.0 e, ap (λ z. length (first_taken m z)) f.1, ap (λ z. length (first_taken m z)) g.1, ap length f.1, ap length g.1)

-- the two takes of a turn
module _ (c : Contents) (sound : Sound c) (m : ℕ) (b s : Order) (hb : slice_get c.book.buys 0 ≡ Some b) (hs : slice_get c.book.sells 0 ≡ Some s) where
  buy_side : b.direction ≡ Buy
  buy_side = listed_side c sound Buy 0 b hb

  sell_side : s.direction ≡ Sell
  sell_side = listed_side c sound Sell 0 s hs

  pub buy_first : slice_get (listed b.direction c) 0 ≡ Some b
  buy_first = subst (λ d. slice_get (listed d c) 0 ≡ Some b) (sym buy_side) hb

  module _ (after : Contents) (e : after ≡ first_taken_on b.direction m c) where
    bought : after ≡ first_taken_on Buy m c
    bought = e ∙ ap (λ d. first_taken_on d m c) buy_side

    pub sell_first : slice_get (listed s.direction after) 0 ≡ Some s
    sell_first = subst (λ d. slice_get (listed d after) 0 ≡ Some s) (sym sell_side) (ap (λ t. slice_get (listed Sell t) 0) bought ∙ hs)

    pub both_taken : (last : Contents) → last ≡ first_taken_on s.direction m after → last ≡ first_taken_on Sell m (first_taken_on Buy m c)
    both_taken last k = k ∙ ap (λ d. first_taken_on d m after) sell_side ∙ ap (first_taken_on Sell m) bought

pub record Ended (all : Pairing) (old t : Contents) (run0 now' : List Slip) (v k : ℕ) : Type 0 where
  pub traded : v ≡ turnover all.slips
  pub written : k ≡ length all.slips
  pub table : t ≡ holding old (book_of all.buys all.sells)
  pub run : now' ≡ written_into run0 all.slips

-- where the pairing ends, what is written is the slips of the whole, and what stands is what it leaves
module _ (p : ℕ) (old t : Contents) (run0 run : List Slip) (traded k : ℕ) (v : traded ≡ turnover (take k run)) (cap : t.capacity ≡ old.capacity) (rest : drop k run ≡ drop k run0) (fits : k ≤ length run)
    (e : match_at (Some p) old.book.buys old.book.sells ≡ after (take k run) (still t.book.buys t.book.sells)) where
  abbrev all : Pairing
  all = match_at (Some p) old.book.buys old.book.sells

  slips : take k run ≡ all.slips
  slips = sym (ap (λ (w : Pairing). w.slips) e ∙ append-nil (take k run))

  pub ended : Ended all old t run0 run traded k
  ended =
      record {
        traded = v ∙ ap turnover slips;
        written = sym (length-take-le k run fits) ∙ ap length slips;
        table = λ i. record { capacity = cap i; book = book_of (sym e i).buys (sym e i).sells };
        run = written_so_far k run run0 rest fits ∙ ap (written_into run0) slips;
      }

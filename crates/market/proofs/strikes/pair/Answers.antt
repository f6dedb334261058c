use Rattle.std.proofs.Common.{◌≡◌, ◌+◌, ◌<◌, true, false, [], ◌∷◌, length, take, Some, None, sym, ap, ◌∙◌, arith, length-set}
use Rattle.std.proofs.lemmas.Bool.{and_from, and_left, and_right}
use Rattle.std.proofs.lemmas.List.{take_more_set}
use Rattle.std.proofs.lemmas.Option.{slice_get_within}
use Rattle.std.specs.List.{slice_get}
use Rattle.rules.specs.Side.{willing}
use Rattle.rules.specs.declared.order.Direction.TheVariants.{Buy, Sell}
use Rattle.book.specs.declared.slip.Slip.TheVariants.{Trade}
use Rattle.book.specs.Rows.{order_count}
use Rattle.book.specs.Calls.{pair, turnover}
use Rattle.market.specs.Fills.{first_taken, first_taken_on}
use Rattle.market.proofs.Writing.{same_behind}
use Rattle.market.proofs.Pairing.{Both, after, after_more, still, none, none_sell, pair_stop, pair_turn, took_fewer, turnover_append, buy_first, sell_first, both_taken, ended}
use Rattle.market.proofs.strikes.pair.Goals as goal
use Rattle.market.proofs.strikes.pair.Goals.{then-not-willing-via-then-not-willing, then-not-willing-via-else-not-willing+then-not-willing-2}

pub take-requires-clause-first : goal.take-requires-clause-first
take-requires-clause-first g c =
    let t = g.T.Table.contents c.pairs.table in
    let b = c.in-Some-Some.buy in
    let s = c.in-Some-Some.sell in
    let hb : slice_get t.book.buys 0 ≡ Some b = let x = c.in-Some-Some.is-0 in let y = c.at.ensures in let z = c.in-Some-Some.buy-is in cc in
    let hs : slice_get t.book.sells 0 ≡ Some s = let x = c.in-Some-Some.is-1 in let y = c.at-in-pairs.ensures in cc in
    buy_first t (g.met.T.Table.sound c.pairs.table) c.min-volume.result b s hb hs

pub take-requires-in-pairs-clause-first : goal.take-requires-in-pairs-clause-first
take-requires-in-pairs-clause-first g c =
    let t = g.T.Table.contents c.pairs.table in
    let b = c.in-Some-Some.buy in
    let s = c.in-Some-Some.sell in
    let hb : slice_get t.book.buys 0 ≡ Some b = let x = c.in-Some-Some.is-0 in let y = c.at.ensures in let z = c.in-Some-Some.buy-is in cc in
    let hs : slice_get t.book.sells 0 ≡ Some s = let x = c.in-Some-Some.is-1 in let y = c.at-in-pairs.ensures in cc in
    sell_first t (g.met.T.Table.sound c.pairs.table) c.min-volume.result b s hb hs _ c.take.ensures

pub pairs-smaller : goal.pairs-smaller
pairs-smaller g c =
    let t = g.T.Table.contents c.pairs.table in
    let b = c.in-Some-Some.buy in
    let s = c.in-Some-Some.sell in
    let m = c.min-volume.result in
    let hb : slice_get t.book.buys 0 ≡ Some b = let x = c.in-Some-Some.is-0 in let y = c.at.ensures in let z = c.in-Some-Some.buy-is in cc in
    let hs : slice_get t.book.sells 0 ≡ Some s = let x = c.in-Some-Some.is-1 in let y = c.at-in-pairs.ensures in cc in
    let after = both_taken t (g.met.T.Table.sound c.pairs.table) m b s hb hs _ c.take.ensures _ c.take-in-pairs.ensures in
    let fewer = took_fewer c.args.price t b s hb hs m c.min-volume.ensures in
    omega (arith, ap order_count after, fewer)

pub bounds-run-written : goal.bounds-run-written
bounds-run-written g c =
    let t = g.T.Table.contents c.pairs.table in
    let b = c.in-Some-Some.buy in
    let s = c.in-Some-Some.sell in
    let hb : slice_get t.book.buys 0 ≡ Some b = let x = c.in-Some-Some.is-0 in let y = c.at.ensures in let z = c.in-Some-Some.buy-is in cc in
    omega (arith, slice_get_within t.book.buys 0 b hb, c.pairs.invariant.fewer, c.requires.room, c.pairs.auto.run)

pub pairs-preserved : goal.pairs-preserved
pairs-preserved g c =
    let t = g.T.Table.contents c.pairs.table in
    let b = c.in-Some-Some.buy in
    let s = c.in-Some-Some.sell in
    let hb : slice_get t.book.buys 0 ≡ Some b = let x = c.in-Some-Some.is-0 in let y = c.at.ensures in let z = c.in-Some-Some.buy-is in cc in
    let hs : slice_get t.book.sells 0 ≡ Some s = let x = c.in-Some-Some.is-1 in let y = c.at-in-pairs.ensures in cc in
    let p = c.args.price in
    let m = c.min-volume.result in
    let k = c.pairs.written in
    let slip = Trade b.number s.number p m in
    let last = g.T.Table.contents c.take-in-pairs.new.table in
    let table : last ≡ first_taken_on Sell m (first_taken_on Buy m t) = both_taken t (g.met.T.Table.sound c.pairs.table) m b s hb hs _ c.take.ensures _ c.take-in-pairs.ensures in
    let fewer = took_fewer p t b s hb hs m c.min-volume.ensures in
    let is : order_count last ≡ length (first_taken m t.book.buys) + length (first_taken m t.book.sells) = ap order_count table in
    let goes : Both p b s ≡ true = and_from (willing Buy b.price p) (willing Sell s.price p) (let x = c.if-not-willing.false in let y = c.willing.ensures in cc) (let x = c.if-not-willing-2.false in let y = c.willing-else-not-willing.ensures in cc) in
    let turn = pair_turn p t b s hb hs m goes c.min-volume.ensures in
    let inv = c.pairs.invariant in
    let same = c.from-traded.ensures in
    let place : k < length c.pairs.run = omega (arith, slice_get_within t.book.buys 0 b hb, inv.fewer, c.requires.room, c.pairs.auto.run) in
    let more = take_more_set c.pairs.run k slip place in
    record {
      pairs =
          inv.pairs ∙ ap (after (take k c.pairs.run)) turn ∙ sym (after_more (take k c.pairs.run) slip _)
          ∙ (λ i. after (sym more i) (pair p (order_count (sym table i)) (sym table i).book.buys (sym table i).book.sells));
      traded = omega (arith, ap turnover more, turnover_append (take k c.pairs.run) (slip ∷ []), inv.traded, same);
      capacity = ap (λ z. z.capacity) table ∙ inv.capacity;
      run = same_behind k c.pairs.run c.args.run.now inv.run slip;
      fits = rw length-set (omega (arith, place));
      fewer = omega (arith, is, fewer, inv.fewer);
      small = rw is (omega (arith, fewer, inv.small, same, c.min-volume.type_inv));
    }

pub returns-in_default : goal.returns-in_default
returns-in_default g c =
    let t = g.T.Table.contents c.pairs.table in
    let p = c.args.price in
    let nothing : slice_get t.book.sells 0 ≡ None = let x = c.in_default.is-1 in let y = c.at-in-pairs.ensures in cc in
    let end : pair p (order_count t) t.book.buys t.book.sells ≡ still t.book.buys t.book.sells = none_sell p (order_count t) t.book.buys t.book.sells nothing in
    let e = ended p (g.T.Table.contents c.args.table.now) t c.args.run.now c.pairs.run c.pairs.traded c.pairs.written c.pairs.invariant.traded c.pairs.invariant.capacity c.pairs.invariant.run c.pairs.invariant.fits (c.pairs.invariant.pairs ∙ ap (after (take c.pairs.written c.pairs.run)) end) in
    record { traded = e.traded; written = e.written; table = e.table; run = e.run }

pub returns-in_default-2 : goal.returns-in_default-2
returns-in_default-2 g c =
    let t = g.T.Table.contents c.pairs.table in
    let p = c.args.price in
    let nothing : slice_get t.book.buys 0 ≡ None = let x = c.in_default.is-0 in let y = c.at.ensures in cc in
    let end : pair p (order_count t) t.book.buys t.book.sells ≡ still t.book.buys t.book.sells = none p (order_count t) t.book.buys t.book.sells nothing in
    let e = ended p (g.T.Table.contents c.args.table.now) t c.args.run.now c.pairs.run c.pairs.traded c.pairs.written c.pairs.invariant.traded c.pairs.invariant.capacity c.pairs.invariant.run c.pairs.invariant.fits (c.pairs.invariant.pairs ∙ ap (after (take c.pairs.written c.pairs.run)) end) in
    record { traded = e.traded; written = e.written; table = e.table; run = e.run }

pub returns-then-not-willing : goal.returns-then-not-willing
returns-then-not-willing g c =
    let t = g.T.Table.contents c.pairs.table in
    let p = c.args.price in
    let b = c.in-Some-Some.buy in
    let s = c.in-Some-Some.sell in
    let hb : slice_get t.book.buys 0 ≡ Some b = let x = c.in-Some-Some.is-0 in let y = c.at.ensures in let z = c.in-Some-Some.buy-is in cc in
    let hs : slice_get t.book.sells 0 ≡ Some s = let x = c.in-Some-Some.is-1 in let y = c.at-in-pairs.ensures in cc in
    let stops : Both p b s ≡ false =
    elim c.then-not-willing.branch [
      | then-not-willing-via-then-not-willing w ↦ and_left (willing Buy b.price p) (willing Sell s.price p) (let x = w.if-not-willing.true in let y = c.willing.ensures in cc)
      | then-not-willing-via-else-not-willing+then-not-willing-2 w ↦ and_right (willing Buy b.price p) (willing Sell s.price p) (let x = w.if-not-willing-2.true in let y = w.willing-else-not-willing.ensures in cc)
    ] in
    let end : pair p (order_count t) t.book.buys t.book.sells ≡ still t.book.buys t.book.sells = pair_stop p t b s hb hs stops in
    let e = ended p (g.T.Table.contents c.args.table.now) t c.args.run.now c.pairs.run c.pairs.traded c.pairs.written c.pairs.invariant.traded c.pairs.invariant.capacity c.pairs.invariant.run c.pairs.invariant.fits (c.pairs.invariant.pairs ∙ ap (after (take c.pairs.written c.pairs.run)) end) in
    record { traded = e.traded; written = e.written; table = e.table; run = e.run }

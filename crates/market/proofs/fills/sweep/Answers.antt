use Rattle.std.proofs.Common.{◌≡◌, ℕ, ◌==◌, true, false, not, ◌||◌, ◌-◌, ◌<◌, [], ◌∷◌, ◌++◌, length, take, Some, None, sym, ap, ◌∙◌, subst, arith, length-set, append-nil}
use Rattle.std.proofs.lemmas.Bool.{eq-eqb, ne_eqb, or_left, or_right, or_from, not_from_true, not_from_false}
use Rattle.std.proofs.lemmas.List.{take_more_set, length-take-le}
use Rattle.std.proofs.lemmas.Option.{slice_get_within}
use Rattle.std.specs.List.{slice_get}
use Rattle.rules.specs.Side.{opposite, willing}
use Rattle.tables.specs.Meaning.{listed, with_listed}
use Rattle.book.specs.Calls.{Sweep, sweep, sweep_of}
use Rattle.market.specs.Fills.{first_taken, first_taken_on}
use Rattle.market.specs.Outcome.{written_into}
use Rattle.market.proofs.Taking.{listed_side}
use Rattle.market.proofs.Writing.{written_so_far, same_behind}
use Rattle.market.proofs.Sweeping.{after, after_more, still, sweep_none, sweep_stop, sweep_turn, took_length, took_smaller, listed_on, on_twice}
use Rattle.market.proofs.fills.sweep.Goals as goal
use Rattle.market.proofs.fills.sweep.Goals.{in_default, in-Some+then-left-eq0, then-left-eq0-via-then-left-eq0, then-left-eq0-via-else-left-eq0+then-not-meets}

pub take-requires-clause-first : goal.take-requires-clause-first
take-requires-clause-first g c =
    let a = opposite g.S.Quotes.way in
    let o = c.in-Some.first in
    let t = g.T.Table.contents c.orders.table in
    let x = g.met.S.Side.across in
    let first : slice_get (listed a t) 0 ≡ Some o = cc in
    let side : o.direction ≡ a = listed_side t (g.met.T.Table.sound c.orders.table) a 0 o first in
    subst (λ d. slice_get (listed d t) 0 ≡ Some o) (sym side) first

pub orders-smaller : goal.orders-smaller
orders-smaller g c =
    let a = opposite g.S.Quotes.way in
    let o = c.in-Some.first in
    let t = g.T.Table.contents c.orders.table in
    let m = c.min-volume.result in
    let x = g.met.S.Side.across in
    let first : slice_get (listed a t) 0 ≡ Some o = cc in
    let side : o.direction ≡ a = listed_side t (g.met.T.Table.sound c.orders.table) a 0 o first in
    let after : g.T.Table.contents c.take.new.table ≡ first_taken_on a m t = c.take.ensures ∙ ap (λ d. first_taken_on d m t) side in
    let less : length (listed a (g.T.Table.contents c.take.new.table)) ≡ length (first_taken m (listed a t)) = ap (λ z. length (listed a z)) after ∙ ap length (listed_on a (first_taken m (listed a t)) t) in
    let smaller = took_smaller (listed a t) o c.orders.left m first c.min-volume.ensures c.if-left-eq0.false in
    omega (arith, less, smaller)

pub orders-preserved : goal.orders-preserved
orders-preserved g c =
    let d = g.S.Quotes.way in
    let a = opposite d in
    let o = c.in-Some.first in
    let t = g.T.Table.contents c.orders.table in
    let m = c.min-volume.result in
    let v = c.orders.left in
    let n = c.args.order.now.number in
    let p = c.args.order.now.price in
    let k = c.orders.written in
    let inv = c.orders.invariant in
    let x = g.met.S.Side.across in
    let first : slice_get (listed a t) 0 ≡ Some o = cc in
    let side : o.direction ≡ a = listed_side t (g.met.T.Table.sound c.orders.table) a 0 o first in
    let table : g.T.Table.contents c.take.new.table ≡ first_taken_on a m t = c.take.ensures ∙ ap (λ d. first_taken_on d m t) side in
    let rest : listed a (g.T.Table.contents c.take.new.table) ≡ first_taken m (listed a t) = ap (listed a) table ∙ listed_on a (first_taken m (listed a t)) t in
    let w : willing a o.price p ≡ true = let y = c.if-not-meets.false in let z = c.meets.ensures in cc in
    let goes : (v == 0 || not (willing a o.price p)) ≡ false = or_from _ _ (ne_eqb v 0 c.if-left-eq0.false) (not_from_true _ w) in
    let turn = sweep_turn d n p (listed a t) o v m first goes c.min-volume.ensures in
    let below : k < length c.orders.run = omega (arith, inv.room (omega (arith, c.if-left-eq0.false)), slice_get_within (listed a t) 0 o first) in
    record {
      sweep =
          inv.sweep ∙ ap (after (take k c.orders.run)) turn ∙ sym (after_more (take k c.orders.run) _ (sweep d n p (first_taken m (listed a t)) (v - m)))
          ∙ (λ i. after (take k c.orders.run ++ (sym c.trade.ensures i ∷ [])) (sweep d n p (sym rest i) (v - m)))
          ∙ ap (λ ss. after ss (sweep d n p (listed a (g.T.Table.contents c.take.new.table)) (v - m))) (sym (take_more_set c.orders.run k c.trade.result below));
      table =
          table ∙ ap (with_listed a (first_taken m (listed a t))) inv.table ∙ on_twice a (first_taken m (listed a t)) (listed a t) (g.T.Table.contents c.args.table.now)
          ∙ ap (λ xs. with_listed a xs (g.T.Table.contents c.args.table.now)) (sym rest);
      run = same_behind k c.orders.run c.args.run.now inv.run c.trade.result;
      fits = rw length-set (omega (arith, below));
      room = λ q. rw (length-set, rest) (omega (arith, took_length (listed a t) o v m first c.min-volume.ensures q, inv.room (omega arith)));
      shared = omega (arith, inv.shared, c.min-volume.ensures);
    }

pub returns : goal.returns
returns g c =
    let d = g.S.Quotes.way in
    let a = opposite d in
    let t = g.T.Table.contents c.orders.table in
    let old = g.T.Table.contents c.args.table.now in
    let v = c.orders.left in
    let n = c.args.order.now.number in
    let p = c.args.order.now.price in
    let k = c.orders.written in
    let inv = c.orders.invariant in
    let x = g.met.S.Side.across in
    let end : sweep d n p (listed a t) v ≡ still (listed a t) v =
    elim c.match-at.branch [
      | in_default w ↦
          let none : slice_get (listed a t) 0 ≡ None = ap (λ z. slice_get (listed z t) 0) (sym (c.direction.ensures ∙ x)) ∙ sym c.at.ensures ∙ w.in_default.is in
          sweep_none d n p (listed a t) v none
      | in-Some+then-left-eq0 w ↦
          let o = w.in-Some.first in
          let first : slice_get (listed a t) 0 ≡ Some o = let i = w.in-Some.is in cc in
          let stop : (v == 0 || not (willing a o.price p)) ≡ true =
          elim w.then-left-eq0.branch [
            | then-left-eq0-via-then-left-eq0 u ↦ or_left _ _ (eq-eqb v 0 u.if-left-eq0.true)
            | then-left-eq0-via-else-left-eq0+then-not-meets u ↦
                let e : willing a o.price p ≡ false = let y = u.if-not-meets.true in let z = u.meets.ensures in cc in
                or_right _ _ (not_from_false _ e)
          ] in
          sweep_stop d n p (listed a t) o v first stop
    ] in
    let whole : sweep_of c.args.order.now old ≡ after (take k c.orders.run) (still (listed a t) v) =
    ap (λ z. sweep z n p (listed (opposite z) old) c.args.order.now.volume) c.requires.side ∙ inv.sweep ∙ ap (after (take k c.orders.run)) end in
    let slips : take k c.orders.run ≡ (sweep_of c.args.order.now old).slips = sym (ap (λ (s : Sweep). s.slips) whole ∙ append-nil (take k c.orders.run)) in
    let is : c.match-at.traded ≡ (c.orders.traded, v) = elim c.match-at.branch [ in_default w ↦ w.traded-is | in-Some+then-left-eq0 w ↦ w.traded-is ] in
    let traded = ap (λ (z : ℕ × ℕ). z.0) is in
    let left = ap (λ (z : ℕ × ℕ). z.1) is in
    record {
      traded = omega (arith, traded, left, inv.shared, c.from.ensures);
      left = left ∙ sym (ap (λ (s : Sweep). s.left) whole);
      written = sym (length-take-le k c.orders.run inv.fits) ∙ ap length slips;
      table = inv.table ∙ ap (λ xs. with_listed a xs old) (sym (ap (λ (s : Sweep). s.rest) whole));
      run = written_so_far k c.orders.run c.args.run.now inv.run inv.fits ∙ ap (written_into c.args.run.now) slips;
    }

use Rattle.std.proofs.Common.{◌≡◌, ◌<◌, [], ◌∷◌, ◌++◌, length, take, Some, None, sym, ap, ◌∙◌, arith, length-set, append-nil, append_assoc, add-one}
use Rattle.std.proofs.lemmas.List.{take_more_set, length-take-le}
use Rattle.std.proofs.lemmas.List.Edits.{length-remove}
use Rattle.std.proofs.lemmas.Option.{slice_get_within}
use Rattle.std.specs.List.{slice_get, remove}
use Rattle.tables.specs.Meaning.{listed, with_listed, said}
use Rattle.book.specs.Calls.{going_slips}
use Rattle.market.specs.Outcome.{written_into}
use Rattle.market.proofs.Taking.{is_held, removed_at_rank}
use Rattle.market.proofs.Writing.{written_so_far, same_behind}
use Rattle.market.proofs.Sweeping.{listed_on, on_twice}
use Rattle.market.proofs.Lapsing.{going_from, staying_from, gone, stays, over}
use Rattle.market.proofs.strikes.let_go.Goals as goal

pub orders-preserved-then-not-is_to_go : goal.orders-preserved-then-not-is_to_go
orders-preserved-then-not-is_to_go g c =
    let goes = g.L.Leaving.goes c.args.leaving.now in
    let slip_of = g.L.Leaving.slip c.args.leaving.now in
    let d = c.args.direction in
    let t = g.T.Table.contents c.orders.table in
    let o = c.in-Some.order in
    let i = c.orders.rank in
    let h : slice_get (listed d t) i ≡ Some o = sym c.at.ensures ∙ c.in-Some.is in
    let on = stays goes slip_of i (listed d t) o h (sym c.is_to_go.ensures ∙ c.if-not-is_to_go.true) in
    let inv = c.orders.invariant in
    record {
      slips = inv.slips ∙ ap (λ ss. take c.orders.written c.orders.run ++ ss) (on.0 ∙ ap (λ j. going_from goes slip_of j (listed d t)) (sym (add-one i)));
      rest = inv.rest ∙ on.1 ∙ ap (λ j. staying_from goes slip_of j (listed d t)) (sym (add-one i));
      table = inv.table;
      run = inv.run;
      fits = inv.fits;
      room = omega (arith, inv.room);
      few = inv.few;
      rank = omega (arith, slice_get_within (listed d t) i o h);
    }

pub bounds-run-written : goal.bounds-run-written
bounds-run-written g c =
    let d = c.args.direction in
    let t = g.T.Table.contents c.orders.table in
    let h : slice_get (listed d t) c.orders.rank ≡ Some c.in-Some.order = sym c.at.ensures ∙ c.in-Some.is in
    omega (arith, slice_get_within (listed d t) c.orders.rank c.in-Some.order h, c.orders.invariant.room)

pub orders-smaller : goal.orders-smaller
orders-smaller g c =
    let d = c.args.direction in
    let t = g.T.Table.contents c.orders.table in
    let o = c.in-Some.order in
    let i = c.orders.rank in
    let h : slice_get (listed d t) i ≡ Some o = sym c.at.ensures ∙ c.in-Some.is in
    let after = c.remove.ensures.after ∙ removed_at_rank t (g.met.T.Table.sound c.orders.table) d i o h in
    let is = ap (λ z. length (listed d z)) after ∙ ap length (listed_on d (remove (listed d t) i) t) in
    let below = slice_get_within (listed d t) i o h in
    omega (arith, is, length-remove (listed d t) i below, below)

pub orders-preserved : goal.orders-preserved
orders-preserved g c =
    let goes = g.L.Leaving.goes c.args.leaving.now in
    let slip_of = g.L.Leaving.slip c.args.leaving.now in
    let d = c.args.direction in
    let t = g.T.Table.contents c.orders.table in
    let old = g.T.Table.contents c.args.table.now in
    let o = c.in-Some.order in
    let i = c.orders.rank in
    let k = c.orders.written in
    let slip = c.slip_of.result in
    let h : slice_get (listed d t) i ≡ Some o = sym c.at.ensures ∙ c.in-Some.is in
    let out = gone goes slip_of i (listed d t) o h (sym c.is_to_go.ensures ∙ c.if-not-is_to_go.false) in
    let table = c.remove.ensures.after ∙ removed_at_rank t (g.met.T.Table.sound c.orders.table) d i o h in
    let left : listed d (g.T.Table.contents c.remove.new.self) ≡ remove (listed d t) i = ap (listed d) table ∙ listed_on d (remove (listed d t) i) t in
    let below = slice_get_within (listed d t) i o h in
    let less = length-remove (listed d t) i below in
    let inv = c.orders.invariant in
    let place : k < length c.orders.run = omega (arith, below, inv.room) in
    record {
      slips =
          inv.slips ∙ ap (λ ss. take k c.orders.run ++ ss) out.0
          ∙ ap (λ z. take k c.orders.run ++ (z ∷ going_from goes slip_of i (remove (listed d t) i))) (sym c.slip_of.ensures)
          ∙ sym (append_assoc (take k c.orders.run) (slip ∷ []) (going_from goes slip_of i (remove (listed d t) i)))
          ∙ (λ j. sym (take_more_set c.orders.run k slip place) j ++ going_from goes slip_of i (sym left j));
      rest = inv.rest ∙ out.1 ∙ ap (staying_from goes slip_of i) (sym left);
      table =
          table ∙ ap (with_listed d (remove (listed d t) i)) inv.table ∙ on_twice d (remove (listed d t) i) (listed d t) old
          ∙ ap (λ xs. with_listed d xs old) (sym left);
      run = same_behind k c.orders.run c.args.run.now inv.run slip;
      fits = rw length-set (omega (arith, place));
      room = rw length-set (omega (arith, ap length left, less, inv.room));
      few = omega (arith, ap length left, less, inv.few);
      rank = omega (arith, ap length left, less, below);
    }

pub unreachable-requires : goal.unreachable-requires
unreachable-requires g c =
    let d = c.args.direction in
    let t = g.T.Table.contents c.orders.table in
    let o = c.in-Some.order in
    let h : slice_get (listed d t) c.orders.rank ≡ Some o = sym c.at.ensures ∙ c.in-Some.is in
    c.in_default-remove.not-Ok tt (c.remove.ensures.answer ∙ ap said (is_held t (g.met.T.Table.sound c.orders.table) d c.orders.rank o h))

pub returns : goal.returns
returns g c =
    let goes = g.L.Leaving.goes c.args.leaving.now in
    let slip_of = g.L.Leaving.slip c.args.leaving.now in
    let d = c.args.direction in
    let t = g.T.Table.contents c.orders.table in
    let old = g.T.Table.contents c.args.table.now in
    let i = c.orders.rank in
    let k = c.orders.written in
    let inv = c.orders.invariant in
    let h : slice_get (listed d t) i ≡ None = sym c.at.ensures ∙ c.in_default.is in
    let none = over goes slip_of i (listed d t) h in
    let slips : take k c.orders.run ≡ going_slips goes slip_of (listed d old) =
    sym (inv.slips ∙ ap (λ ss. take k c.orders.run ++ ss) none.0 ∙ append-nil (take k c.orders.run)) in
    record {
      written = sym (length-take-le k c.orders.run inv.fits) ∙ ap length slips;
      table = inv.table ∙ ap (λ xs. with_listed d xs old) (sym (inv.rest ∙ none.1));
      run = written_so_far k c.orders.run c.args.run.now inv.run inv.fits ∙ ap (written_into c.args.run.now) slips;
    }

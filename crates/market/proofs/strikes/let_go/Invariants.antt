use Rattle.std.proofs.Common.{◌≡◌, ◌+◌, ◌-◌, ◌≤◌, ◌++◌, length, take, drop}
use Rattle.tables.specs.Meaning.{listed, with_listed}
use Rattle.book.specs.Calls.{going_slips, staying_orders}
use Rattle.market.proofs.Lapsing.{going_from, staying_from}
use Rattle.market.proofs.strikes.let_go.Given as goal

abbrev pub invariant-orders : goal.invariant-orders
invariant-orders g l =
    let m = g.T.Table.contents in
    let d = l.direction in
    let goes = g.L.Leaving.goes l.leaving in
    let slip_of = g.L.Leaving.slip l.leaving in
    record {
      slips : going_slips goes slip_of (listed d (m l.initial.table)) ≡ take l.written l.run ++ going_from goes slip_of l.rank (listed d (m l.table));
      rest : staying_orders goes (listed d (m l.initial.table)) ≡ staying_from goes slip_of l.rank (listed d (m l.table));
      table : m l.table ≡ with_listed d (listed d (m l.table)) (m l.initial.table);
      run : drop l.written l.run ≡ drop l.written l.initial.run;
      fits : l.written ≤ length l.run;
      room : l.written + length (listed d (m l.table)) ≤ length l.run + l.rank;
      few : length (listed d (m l.table)) ≤ 1000000;
      rank : l.rank ≤ length (listed d (m l.table));
    }

abbrev pub decreases-orders : goal.decreases-orders
decreases-orders g l = length (listed l.direction (g.T.Table.contents l.table)) - l.rank

use Rattle.std.proofs.Common.{◌≡◌, ◌+◌, ◌*◌, ◌≤◌, length, take, drop}
use Rattle.book.specs.Rows.{order_count}
use Rattle.book.specs.Calls.{pair, turnover}
use Rattle.market.proofs.Pairing.{after}
use Rattle.market.proofs.strikes.pair.Given as goal

abbrev pub invariant-pairs : goal.invariant-pairs
invariant-pairs g l =
    let m = g.T.Table.contents in
    let b = (m l.table).book in
    let old = m l.initial.table in
    record {
      pairs : pair l.price (order_count old) old.book.buys old.book.sells ≡ after (take l.written l.run) (pair l.price (order_count (m l.table)) b.buys b.sells);
      traded : l.traded ≡ turnover (take l.written l.run);
      capacity : (m l.table).capacity ≡ old.capacity;
      run : drop l.written l.run ≡ drop l.written l.initial.run;
      fits : l.written ≤ length l.run;
      fewer : l.written + order_count (m l.table) ≤ order_count old;
      small : l.traded + 4294967296 * order_count (m l.table) ≤ 4294967296000000;
    }

abbrev pub decreases-pairs : goal.decreases-pairs
decreases-pairs g l = order_count (g.T.Table.contents l.table)

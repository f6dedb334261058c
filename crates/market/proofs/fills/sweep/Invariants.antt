use Rattle.std.proofs.Common.{◌≡◌, ◌+◌, min, ◌<◌, ◌≤◌, length, take, drop}
use Rattle.rules.specs.Side.{opposite}
use Rattle.tables.specs.Meaning.{listed, with_listed}
use Rattle.book.specs.Calls.{sweep}
use Rattle.market.proofs.Sweeping.{after}
use Rattle.market.proofs.fills.sweep.Given as goal

abbrev pub invariant-orders : goal.invariant-orders
invariant-orders g l =
    let d = g.S.Quotes.way in
    let a = opposite d in
    let m = g.T.Table.contents in
    record {
      sweep : sweep d l.order.number l.order.price (listed a (m l.initial.table)) l.order.volume ≡ after (take l.written l.run) (sweep d l.order.number l.order.price (listed a (m l.table)) l.left);
      table : m l.table ≡ with_listed a (listed a (m l.table)) (m l.initial.table);
      run : drop l.written l.run ≡ drop l.written l.initial.run;
      fits : l.written ≤ length l.run;
      room : 0 < l.left → l.written + length (listed a (m l.table)) ≤ length l.run;
      shared : l.traded + l.left ≡ l.order.volume;
    }

abbrev pub decreases-orders : goal.decreases-orders
decreases-orders g l = length (listed (opposite g.S.Quotes.way) (g.T.Table.contents l.table)) + min 1 l.left

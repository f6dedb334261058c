-- The two ways in which the law speaks of live orders come to the same: the book of them, which a fixing is judged by, and
-- what is said of one order, which each slip and the lists are judged by.
use Rattle.std.specs.Prelude.{◌↔◌, List, Contains}
use Rattle.rules.specs.Book.{side}
use Rattle.rules.specs.declared.order.Direction.{Direction}
use Rattle.rules.specs.declared.order.Order.{Order}
use Rattle.rules.specs.declared.terms.Terms.{Terms}
use Rattle.tables.specs.Meaning.{Capacity}
use Rattle.book.specs.Ledger.{Ledger, Live, live_book}
use Rattle.book.specs.Law.{Try, Engine, ledger}

-- after whatever history of whatever engine, the book of the live orders holds exactly these
abbrev pub LiveBookIsLive : Type 0
LiveBookIsLive =
    (e : Engine) (t : Terms) (cap : Capacity) (past : List Try) (d : Direction) (o : Order) →
    let L : Ledger = ledger e t cap past in
    Contains (side d (live_book L)) o ↔ Live d L o

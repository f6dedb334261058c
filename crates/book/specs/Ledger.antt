-- The ledger: what the accepted calls, withdraw's answers and the slips say of every order. It sees nothing of a table.
use Rattle.std.specs.Prelude.{◌≡◌, ℕ, zero, suc, ◌+◌, ◌-◌, ◌<◌, Bool, true, cond, ◌&&◌, ◌⊎◌, List, [], ◌∷◌, Some, None, Option, is_none, ◌==◌, nat_lt}
use Rattle.std.specs.Option.{unwrap_or}
use Rattle.rules.specs.Book.{Book}
use Rattle.rules.specs.Side.{same}
use Rattle.rules.specs.declared.order.Direction.{Direction}
use Rattle.rules.specs.declared.order.Direction.TheVariants.{Buy, Sell}
use Rattle.book.specs.declared.call.Alteration.{Alteration}
use Rattle.book.specs.declared.call.NewOrder.{NewOrder}
use Rattle.book.specs.declared.stage.Stage.{Stage}
use Rattle.book.specs.declared.stage.Stage.TheVariants.{PreOpen, Open, PreClose, Closed}
use Rattle.rules.specs.declared.order.Order.{Order}
use Rattle.rules.specs.declared.terms.Terms.{Terms}
use Rattle.book.specs.declared.slip.Slip.{Slip}
use Rattle.book.specs.declared.slip.Slip.TheVariants.{Trade, Lapse}
use Rattle.book.specs.Exactly.{Before}

-- each account is an order by its number, with the balance as its volume
abbrev pub Accounts : Type 0
Accounts = ℕ → Option Order

pub record Ledger : Type 0 where
  pub stage : Stage
  pub tally : ℕ
  pub accounts : Accounts

-- before the first call
abbrev pub new_ledger : Ledger
new_ledger = record { stage = PreOpen; tally = 0; accounts = λ _. None }

-- one part set, the others as they are
abbrev pub at_stage : Stage → Ledger → Ledger
at_stage stage L = record L { stage = stage }

abbrev pub at_tally : ℕ → Ledger → Ledger
at_tally tally L = record L { tally = tally }

abbrev pub posted : Accounts → Ledger → Ledger
posted accounts L = record L { accounts = accounts }

-- the account n set, and the others as they are
abbrev pub put : ℕ → Option Order → Accounts → Accounts
put n a accounts m = cond (m == n) a (accounts m)

abbrev pub set : ℕ → Order → Ledger → Ledger
set n o L = posted (put n (Some o) L.accounts) L

-- the order with another price, balance and arrival
abbrev pub rewritten : ℕ → ℕ → ℕ → Order → Order
rewritten price volume arrival o = record o { price = price; volume = volume; arrival = arrival }

abbrev pub lowered : ℕ → Option Order → Option Order
lowered v None = None
lowered v (Some o) = Some (rewritten o.price (o.volume - v) o.arrival o)

-- the account n lowered by v
abbrev pub lower : ℕ → ℕ → Accounts → Accounts
lower n v accounts = put n (lowered v (accounts n)) accounts

abbrev pub fall : ℕ → ℕ → Ledger → Ledger
fall n v L = posted (lower n v L.accounts) L

-- without an account the balance is 0
abbrev pub balance : Option Order → ℕ
balance None = 0
balance (Some o) = o.volume

-- an order of side d whose balance is above 0
pub record Live (d : Direction) (L : Ledger) (o : Order) : Type 0 where
  pub account : L.accounts o.number ≡ Some o
  pub balance : 0 < o.volume
  pub side : o.direction ≡ d

-- o ranks first among the live orders of side d
pub record First (d : Direction) (L : Ledger) (o : Order) : Type 0 where
  pub live : Live d L o
  pub first : (x : Order) → Live d L x → (x ≡ o) ⊎ Before d o x

-- every live buy is priced below every live sell
abbrev pub Uncrossed : Ledger → Type 0
Uncrossed L = (b s : Order) → Live Buy L b → Live Sell L s → b.price < s.price

-- the order of an account before others, where it is live and of side d
abbrev pub with_live : Direction → Option Order → List Order → List Order
with_live d None os = os
with_live d (Some o) os = cond (same o.direction d && nat_lt 0 o.volume) (o ∷ os) os

-- the live orders of side d, of the accounts 1 to n
abbrev pub live_upto : Direction → Ledger → ℕ → List Order
live_upto d L zero = []
live_upto d L (suc n) = with_live d (L.accounts (suc n)) (live_upto d L n)

-- the live orders of both sides, in no rank
abbrev pub live_book : Ledger → Book
live_book L = record { buys = live_upto Buy L L.tally; sells = live_upto Sell L L.tally }

-- What is fed ---------------------------------------------------------------------------------------------------------

pub data Feed : Type 0 where
  entry : NewOrder → Feed
  -- the price and the balance wanted
  alteration : Alteration → Feed
  -- number, volume answered
  withdrawal : ℕ → ℕ → Feed
  progress : Feed

-- a market order's price: of the band, the one that is willing wherever any price is
abbrev pub at_market : Terms → Direction → ℕ
at_market t Buy = t.hi
at_market t Sell = t.lo

-- the order of an account that is opened; its number is its arrival too, and without a limit it is a market order
abbrev pub opening : Terms → ℕ → NewOrder → Order
opening t n e =
    record {
      number = n;
      member = e.member;
      direction = e.direction;
      price = unwrap_or e.limit (at_market t e.direction);
      market = is_none e.limit;
      volume = e.volume;
      arrival = n;
    }

-- the stages of a day follow each other, and none the last
abbrev pub following : Stage → Stage
following PreOpen = Open
following Open = PreClose
following PreClose = Closed
following Closed = Closed

-- the price changes or the balance rises
abbrev pub renews : Alteration → Order → Bool
renews a o = cond (o.price == a.price) (nat_lt o.volume a.volume) true

-- with a new arrival, the tally first rises
abbrev pub renew : Alteration → Order → Ledger → Ledger
renew a o L = set a.number (rewritten a.price a.volume (suc L.tally) o) (at_tally (suc L.tally) L)

abbrev pub keep : Alteration → Order → Ledger → Ledger
keep a o L = set a.number (rewritten a.price a.volume o.arrival o) L

-- without an account nothing changes
abbrev pub alter_account : Alteration → Option Order → Ledger → Ledger
alter_account a None L = L
alter_account a (Some o) L = cond (renews a o) (renew a o L) (keep a o L)

abbrev pub feed : Terms → Feed → Ledger → Ledger
feed t (entry e) L = set (suc L.tally) (opening t (suc L.tally) e) (at_tally (suc L.tally) L)
feed t (alteration a) L = alter_account a (L.accounts a.number) L
feed t (withdrawal n v) L = fall n v L
feed t progress L = at_stage (following L.stage) L

-- one slip
abbrev pub post : Slip → Ledger → Ledger
post (Trade b s price v) L = fall s v (fall b v L)
post (Lapse n v) L = fall n v L

abbrev pub post_all : List Slip → Ledger → Ledger
post_all [] L = L
post_all (s ∷ ss) L = post_all ss (post s L)

-- what holds of each slip and the ledger right before it
abbrev pub Along : (Ledger → Slip → Type 0) → Ledger → List Slip → Type 0
Along P L [] = Unit {0}
Along P L (s ∷ ss) = P L s × Along P (post s L) ss

-- the sum of the trade slips
abbrev pub slip_traded : Slip → ℕ
slip_traded (Trade b s price v) = v
slip_traded (Lapse n v) = 0

abbrev pub traded : List Slip → ℕ
traded [] = 0
traded (s ∷ ss) = slip_traded s + traded ss

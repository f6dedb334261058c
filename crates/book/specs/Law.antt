-- The law of the book, of any engine, in the words of the ledger alone.
use Rattle.std.specs.Prelude.{◌≡◌, ℕ, suc, ◌≤◌, min, true, false, ◌⊎◌, List, [], ◌∷◌, length, Some, None, Option}
use Rattle.rules.specs.declared.order.Direction.{Direction}
use Rattle.rules.specs.declared.order.Direction.TheVariants.{Buy, Sell}
use Rattle.book.specs.declared.stage.Stage.{Stage}
use Rattle.book.specs.declared.stage.Stage.TheVariants.{PreOpen, Open, PreClose, Closed}
use Rattle.rules.specs.declared.order.Order.{Order}
use Rattle.rules.specs.declared.terms.Terms.{Terms}
use Rattle.book.specs.declared.slip.Slip.{Slip}
use Rattle.book.specs.declared.slip.Slip.TheVariants.{Trade, Lapse}
use Rattle.book.specs.declared.call.Call.{Call}
use Rattle.book.specs.declared.call.Call.TheVariants.{Enter, Alter, Withdraw, Advance}
use Rattle.book.specs.declared.answer.Answer.{Answer}
use Rattle.book.specs.declared.answer.Told.{Told}
use Rattle.book.specs.declared.answer.Told.TheVariants.{Entered, Altered, Withdrawn, Advanced}
use Rattle.book.specs.Exactly.{Before, Lists}
use Rattle.rules.specs.Side.{willing}
use Rattle.rules.specs.Book.{Book, side}
use Rattle.rules.specs.Allotment.{Allotment, Idle}
use Rattle.rules.specs.Fixing.{BestBySteps}
use Rattle.tables.specs.Meaning.{Capacity}
use Rattle.book.specs.Ledger.{
  Ledger,
  new_ledger,
  balance,
  Live,
  First,
  Uncrossed,
  Feed,
  entry,
  alteration,
  withdrawal,
  progress,
  following,
  feed,
  live_book,
  post_all,
  Along,
  traded,
}

-- Engines ---------------------------------------------------------------------------------------------------------------

-- a try: a call, and how many places its run has
pub record Try : Type 0 where
  pub call : Call
  pub room : ℕ

-- what a call is answered: the number of its refusal, or an answer with the slips that it wrote
pub data Verdict : Type 0 where
  refused : ℕ → Verdict
  accepted : Answer Told → List Slip → Verdict

-- what came of a try, and the book after it
pub record Came : Type 0 where
  pub result : Verdict
  pub book : Book

-- what comes of a try after a history of tries, the last first
abbrev pub Engine : Type 0
Engine = Terms → Capacity → List Try → Try → Came

-- The ledger of a history ------------------------------------------------------------------------------------------------

-- of the answers, only the volume that withdraw names
abbrev pub volume_withdrawn : Told → ℕ
volume_withdrawn (Withdrawn w) = w.volume
volume_withdrawn _ = 0

-- what an accepted call feeds the ledger
abbrev pub feed_of : Call → Answer Told → Feed
feed_of (Enter e) a = entry e
feed_of (Alter x) a = alteration x
feed_of (Withdraw w) a = withdrawal w.number (volume_withdrawn a.told)
feed_of Advance a = progress

-- an accepted call and then its slips; a refused one is not fed
abbrev pub book_keeping : Terms → Call → Verdict → Ledger → Ledger
book_keeping t c (refused n) L = L
book_keeping t c (accepted a slips) L = post_all slips (feed t (feed_of c a) L)

abbrev pub ledger : Engine → Terms → Capacity → List Try → Ledger
ledger e t cap [] = new_ledger
ledger e t cap (x ∷ past) = book_keeping t x.call (e t cap past x).result (ledger e t cap past)

-- Mode ---------------------------------------------------------------------------------------------------------------------

-- the price that an advance tells
abbrev pub price_told : Told → Option ℕ
price_told (Advanced x) = x.price
price_told _ = None

abbrev pub price_of : Answer Told → Option ℕ
price_of a = price_told a.told

pub data Mode : Type 0 where
  -- a strike, with the price that it answered
  fixing_at : Option ℕ → Mode
  -- an enter or an alter in Open, where an order that comes trades at once
  continuous : Mode
  -- anything else: nothing trades and nothing lapses
  quiet : Mode

-- an advance fixes where it leaves Pre-open or Pre-close
abbrev pub strike_mode : Stage → Option ℕ → Mode
strike_mode PreOpen price = fixing_at price
strike_mode Open price = quiet
strike_mode PreClose price = fixing_at price
strike_mode Closed price = quiet

-- an order that comes trades at once in Open alone
abbrev pub entry_mode : Stage → Mode
entry_mode PreOpen = quiet
entry_mode Open = continuous
entry_mode PreClose = quiet
entry_mode Closed = quiet

-- how an accepted call of a stage trades, by the price that it answered
abbrev pub mode : Stage → Call → Option ℕ → Mode
mode stage (Enter e) price = entry_mode stage
mode stage (Alter x) price = entry_mode stage
mode stage Advance price = strike_mode stage price
mode stage _ price = quiet

-- Priority -----------------------------------------------------------------------------------------------------------------

-- the order with the last arrival given: in an enter, and in an alter that takes a new arrival, the call's own; any other
-- alter leaves nothing to trade
abbrev pub Entering : Ledger → Order → Type 0
Entering L o = o.arrival ≡ L.tally

-- the price of a trade of b with s
abbrev pub Priced : Mode → Ledger → Order → Order → ℕ → Type 0
Priced (fixing_at price) L b s q = price ≡ Some q
Priced continuous L b s q = (Entering L b × (q ≡ s.price)) ⊎ (Entering L s × (q ≡ b.price))
Priced quiet L b s q = ⊥

-- a trade is of the first buy with the first sell, for the smaller balance, at a price that both are willing at
pub record TradeRight (m : Mode) (L : Ledger) (b s q v : ℕ) : Type 0 where
  pub buy : Order
  pub sell : Order
  pub buy_number : buy.number ≡ b
  pub sell_number : sell.number ≡ s
  pub buy_first : First Buy L buy
  pub sell_first : First Sell L sell
  pub volume : v ≡ min buy.volume sell.volume
  pub buy_willing : willing Buy buy.price q ≡ true
  pub sell_willing : willing Sell sell.price q ≡ true
  pub price : Priced m L buy sell q

-- Lapses -------------------------------------------------------------------------------------------------------------------

abbrev pub MayLapse : Mode → Ledger → Order → Type 0
MayLapse (fixing_at price) L o = Unit {0}
MayLapse continuous L o = Entering L o
MayLapse quiet L o = ⊥

-- of the live orders of which P holds, o of side d is the first to go: buys before sells, each side in rank order
pub record InTurn (P : Order → Type 0) (d : Direction) (L : Ledger) (o : Order) : Type 0 where
  pub ranks : (x : Order) → Live d L x → P x → (x ≡ o) ⊎ Before d o x
  pub buys_first : d ≡ Sell → (x : Order) → Live Buy L x → P x → ⊥

-- those that lapse
abbrev pub IsMarket : Order → Type 0
IsMarket o = o.market ≡ true

-- a lapse is of the whole balance of a live market order in its turn, where nothing live trades any more
pub record LapseRight (m : Mode) (L : Ledger) (n v : ℕ) : Type 0 where
  pub order : Order
  pub number : order.number ≡ n
  pub live : Live order.direction L order
  pub market : order.market ≡ true
  pub whole : v ≡ order.volume
  pub stuck : Uncrossed L
  pub turn : InTurn IsMarket order.direction L order
  pub may : MayLapse m L order

-- what is said of a slip, where L is the ledger right before it
abbrev pub SlipRight : Mode → Ledger → Slip → Type 0
SlipRight m L (Trade b s q v) = TradeRight m L b s q v
SlipRight m L (Lapse n v) = LapseRight m L n v

-- the slips that a call answers for
abbrev pub own : List Slip → List Slip
own slips = slips

-- Greatest fixing ------------------------------------------------------------------------------------------------------------

-- no allotment of the live orders, at any price of the band, trades more than the strike did, and there is no price
-- exactly if every allotment trades nothing
pub record GreatestFixing (t : Terms) (L : Ledger) (price : Option ℕ) (slips : List Slip) : Type 0 where
  pub most : (p v : ℕ) → t.lo ≤ p → p ≤ t.hi → Allotment (live_book L) p v → v ≤ traded slips
  pub nothing : price ≡ None → Idle t.lo t.hi (live_book L)
  pub without : Idle t.lo t.hi (live_book L) → price ≡ None

-- Fixing price ---------------------------------------------------------------------------------------------------------------

-- of the prices of the band, the one that the three steps leave, by the live orders
abbrev pub PriceRight : Terms → Ledger → Option ℕ → Type 0
PriceRight t L None = Unit {0}
PriceRight t L (Some P) = BestBySteps t.reference t.lo t.hi (live_book L) P

-- what is said of a fixing, with L the ledger before the call
abbrev pub FixingRight : Terms → Ledger → Mode → List Slip → Type 0
FixingRight t L (fixing_at price) slips = GreatestFixing t L price (own slips) × PriceRight t L price
FixingRight t L continuous slips = Unit {0}
FixingRight t L quiet slips = Unit {0}

-- True answers ---------------------------------------------------------------------------------------------------------------

-- only a fixing has a price
abbrev pub price_of_mode : Mode → Option ℕ
price_of_mode (fixing_at price) = price
price_of_mode continuous = None
price_of_mode quiet = None

-- what is due to be told, with L the ledger before the call and M that after its slips
abbrev pub due_told : Call → Mode → Ledger → List Slip → Ledger → Told
due_told (Enter e) m L slips M =
    Entered
    (record {
      number = suc L.tally;
      traded = traded (own slips);
      held = balance (M.accounts (suc L.tally));
    })
due_told (Alter x) m L slips M =
    Altered (record { traded = traded (own slips); held = balance (M.accounts x.number) })
due_told (Withdraw w) m L slips M = Withdrawn (record { volume = balance (L.accounts w.number) })
due_told Advance m L slips M =
    Advanced (record { stage = following L.stage; price = price_of_mode m; traded = traded (own slips) })

-- the answer that is due counts all slips
abbrev pub due_answer : Call → Mode → Ledger → List Slip → Ledger → Answer Told
due_answer c m L slips M = record { told = due_told c m L slips M; slips = length slips }

-- Faithful lists and gap -------------------------------------------------------------------------------------------------------

-- trading goes on, or is over
abbrev pub IsSettled : Stage → Type 0
IsSettled PreOpen = ⊥
IsSettled Open = Unit {0}
IsSettled PreClose = ⊥
IsSettled Closed = Unit {0}

-- each side lists exactly its live orders, in rank order, with the balance as volume; in Open and Closed nothing that
-- is live trades, and no market order is live
pub record Shown (L : Ledger) (b : Book) : Type 0 where
  pub sides : (d : Direction) → Lists d (Live d L) (side d b)
  pub gap : IsSettled L.stage → Uncrossed L
  pub limit : IsSettled L.stage → (d : Direction) (o : Order) → Live d L o → o.market ≡ false

-- The law ------------------------------------------------------------------------------------------------------------------------

-- an accepted call, with L the ledger before it, M that after it and before its slips, and b the book after it
pub record Upheld (t : Terms) (L : Ledger) (c : Call) (a : Answer Told) (m : Mode) (M : Ledger) (slips : List Slip) (b : Book) : Type 0 where
  pub each : Along (SlipRight m) M slips
  pub fixing : FixingRight t L m slips
  pub answer : a ≡ due_answer c m L slips (post_all slips M)
  pub shown : Shown (post_all slips M) b

-- what comes of a call, with L the ledger before it: a refused call leaves the lists as the ledger has them
abbrev pub Lawful : Terms → Ledger → Call → Verdict → Book → Type 0
Lawful t L c (refused n) b = Shown L b
Lawful t L c (accepted a slips) b =
    Upheld t L c a (mode L.stage c (price_of a)) (feed t (feed_of c a) L) slips b

-- after whatever history, whatever is tried next is lawful
abbrev pub Law : Engine → Type 0
Law e =
    (t : Terms) (cap : Capacity) (past : List Try) (x : Try) →
    let came : Came = e t cap past x in
    Lawful t (ledger e t cap past) x.call came.result came.book

-- Rules with a flaw, most without the refusals that do not matter to it: the law must fail of each.
use Rattle.std.specs.Prelude.{fold, ltb, ℕ, zero, suc, ◌+◌, ◌-◌, ◌/◌, Bool, cond, not, ◌&&◌, nat_le, List, [], ◌∷◌, ◌++◌, Some, None, Option}
use Rattle.std.specs.Option.{option_map, option_or, unwrap_or}
use Rattle.rules.specs.Book.{Book, side}
use Rattle.rules.specs.Curve.{candidate}
use Rattle.rules.specs.Fixing.{priced}
use Rattle.rules.specs.Picking.{better_of}
use Rattle.rules.specs.Rank.{by, level, greater}
use Rattle.rules.specs.Search.{tried}
use Rattle.rules.specs.declared.candidate.Candidate.{Candidate}
use Rattle.tables.specs.Meaning.{book_of, each_side, empty, holding, listed, lookup, volume_set, with_side}
use Rattle.tables.specs.Listing.{with_volume}
use Rattle.rules.specs.declared.order.Direction.{Direction}
use Rattle.rules.specs.declared.order.Order.{Order}
use Rattle.rules.specs.declared.terms.Terms.{Terms}
use Rattle.book.specs.declared.slip.Slip.{Slip}
use Rattle.book.specs.declared.slip.Slip.TheVariants.{Trade, Lapse}
use Rattle.book.specs.declared.call.Alteration.{Alteration}
use Rattle.book.specs.declared.call.Call.{Call}
use Rattle.book.specs.declared.call.Call.TheVariants.{Enter, Alter, Advance}
use Rattle.book.specs.declared.call.NewOrder.{NewOrder}
use Rattle.book.specs.declared.answer.Answer.{Answer}
use Rattle.book.specs.declared.answer.Told.{Told}
use Rattle.book.specs.declared.answer.Told.TheVariants.{Entered, Altered, Withdrawn, Advanced}
use Rattle.rules.specs.Side.{better, opposite, willing}
use Rattle.book.specs.Law.{Law, Engine, Came, Verdict, refused, accepted}
use Rattle.book.specs.Stages.{is_open, next, strikes}
use Rattle.book.specs.Day.{Day}
use Rattle.book.specs.Calls.{market_price, order_of, Outcome, refused_by, done, step, enter_order, enter_reply, alter_reply, trade, outcome_of, Made, Execution, made_by_entry, after_sweep, entry_resting, with_left, with_rest, Sweep, sweep, sweep_of, fixing_price, Pairing, match_at, lapses, limit_orders, strike_at, book_after_strike, turnover}
use Rattle.book.specs.Model.{Step, engine, model}

-- the law fails of this engine
abbrev pub Unlawful : Engine → Type 0
Unlawful e = Law e → ⊥

-- and of these rules
abbrev pub Fails : Step → Type 0
Fails f = Unlawful (engine f)

-- Answers -------------------------------------------------------------------------------------------------------------

abbrev pub answering : (Answer Told → Answer Told) → Outcome → Outcome
answering f (refused_by n) = refused_by n
answering f (done day a slips) = done day (f a) slips

-- another thing told
abbrev with_told : (Told → Told) → Outcome → Outcome
with_told f out = answering (λ a. record a { told = f a.told }) out

abbrev one_up : Told → Told
one_up (Entered x) = Entered (record x { number = suc x.number })
one_up told = told

-- enter answers a number that is not the order's
abbrev pub wrong_number : Step
wrong_number t day c room = with_told one_up (step t day c room)

abbrev miscounted : Answer Told → Answer Told
miscounted a = record a { slips = 0 }

-- every call answers that it wrote no slip
abbrev pub no_count : Step
no_count t day c room = answering miscounted (step t day c room)

abbrev no_volume_of : Told → Told
no_volume_of (Entered x) = Entered (record x { traded = 0 })
no_volume_of (Altered x) = Altered (record x { traded = 0 })
no_volume_of (Advanced x) = Advanced (record x { traded = 0 })
no_volume_of told = told

-- every call answers that nothing was traded
abbrev pub no_volume : Step
no_volume t day c room = with_told no_volume_of (step t day c room)

abbrev one_less : Told → Told
one_less (Withdrawn x) = Withdrawn (record { volume = x.volume - 1 })
one_less told = told

-- withdraw answers less than it takes
abbrev pub part_withdrawal : Step
part_withdrawal t day c room = with_told one_less (step t day c room)

abbrev with_price : Told → Told
with_price (Advanced x) = Advanced (record x { price = option_or x.price (Some 1) })
with_price told = told

-- there is always a price
abbrev pub always_priced : Step
always_priced t day c room = with_told with_price (step t day c room)

-- One call changed ----------------------------------------------------------------------------------------------------

-- what another rule makes of some calls on some days
abbrev pub Other : Type 0
Other = Terms → Day → Call → Option Made

-- what is made, if anything is
abbrev pub done_or : Option Made → Outcome → Outcome
done_or None out = out
done_or (Some m) out = outcome_of m

-- the rules, but for what the other rule makes; what it makes is never refused
abbrev pub but_for : Other → Step
but_for f t day c room = done_or (f t day c) (step t day c room)

-- another rule for one call alone
abbrev pub of_enter : (Terms → Day → NewOrder → Option Made) → Other
of_enter f t day (Enter e) = f t day e
of_enter f t day _ = None

abbrev pub of_alter : (Terms → Day → Alteration → Option Made) → Other
of_alter f t day (Alter a) = f t day a
of_alter f t day _ = None

abbrev pub of_advance : (Terms → Day → Option Made) → Other
of_advance f t day Advance = f t day
of_advance f t day _ = None

-- made only where the test holds
abbrev pub only_if : Bool → Made → Option Made
only_if b m = cond b (Some m) None

-- Strikes -------------------------------------------------------------------------------------------------------------

-- the rules with another strike
abbrev pub striking : (Terms → Day → Made) → Step
striking f = but_for (of_advance (λ t day. only_if (strikes day.stage) (f t day)))

-- the rules with another fixing price
abbrev pub fixing_by : (Terms → Book → Option ℕ) → Step
fixing_by f =
    striking
    (λ t day.
    let b : Book = day.table.book in
    let price : Option ℕ = f t b in
    strike_at day price (match_at price b.buys b.sells))

-- says no price without looking
abbrev pub blind : Step
blind = fixing_by (λ t b. None)

-- the price is the one above the band
abbrev pub outside_band : Step
outside_band = fixing_by (λ t b. Some (suc t.hi))

-- the best price of the band by another preference
abbrev best_by : (Candidate → Candidate → Bool) → ℕ → Book → ℕ → ℕ → Candidate
best_by preferred r b lo zero = candidate r b lo
best_by preferred r b lo (suc n) = better_of preferred (best_by preferred r b lo n) (candidate r b (lo + suc n))

abbrev price_of_best : Candidate → Option ℕ
price_of_best c = option_map (λ x. x.price) (priced c)

-- by the first two steps alone
abbrev in_two_steps : Candidate → Candidate → Bool
in_two_steps = by greater (λ c. c.volume) (by ltb (λ c. c.surplus) level)

-- leaves out the third step
abbrev pub two_steps : Step
two_steps = fixing_by (λ t b. price_of_best (best_by in_two_steps t.reference b t.lo (t.hi - t.lo)))

-- by the first step and the third
abbrev by_nearest : Candidate → Candidate → Bool
by_nearest = by greater (λ c. c.volume) (by ltb (λ c. c.distance) level)

-- leaves out the second step
abbrev pub surplus_ignored : Step
surplus_ignored = fixing_by (λ t b. price_of_best (best_by by_nearest t.reference b t.lo (t.hi - t.lo)))

-- tries only the lowest price of the band and prices at which an order stands
abbrev pub standing_prices : Step
standing_prices =
    fixing_by
    (λ t b.
    price_of_best
    (fold (λ held o. tried t.reference b held o.price) (candidate t.reference b t.lo) (b.buys ++ b.sells)))

-- the market orders lapse before anything trades
abbrev lapsed_first : Terms → Day → Made
lapsed_first t day =
    let old : Book = day.table.book in
    let b : Book = each_side limit_orders old in
    let price : Option ℕ = fixing_price t b in
    let m : Pairing = match_at price b.buys b.sells in
    let slips : List Slip = lapses old.buys ++ (lapses old.sells ++ m.slips) in
    record {
      day = record day { stage = next day.stage; table = holding day.table (book_of m.buys m.sells) };
      told = Advanced (record { stage = next day.stage; price = price; traded = turnover slips });
      slips = slips;
    }

abbrev pub lapse_first : Step
lapse_first = striking lapsed_first

abbrev backwards : List Slip → List Slip → List Slip
backwards [] ys = ys
backwards (x ∷ xs) ys = backwards xs (x ∷ ys)

-- of the market orders that are left, the last lapses first
abbrev last_lapses : Terms → Day → Made
last_lapses t day =
    let b : Book = day.table.book in
    let price : Option ℕ = fixing_price t b in
    let m : Pairing = match_at price b.buys b.sells in
    let slips : List Slip = m.slips ++ backwards (lapses m.buys ++ lapses m.sells) [] in
    record {
      day = record day { stage = next day.stage; table = holding day.table (book_after_strike m) };
      told = Advanced (record { stage = next day.stage; price = price; traded = turnover slips });
      slips = slips;
    }

abbrev pub lapse_backwards : Step
lapse_backwards = striking last_lapses

-- the trades of slips at the price that their sells stand at
abbrev sold_at : Book → List Slip → List Slip
sold_at b [] = []
sold_at b (Trade n m q v ∷ ss) = Trade n m (unwrap_or (option_map (λ o. o.price) (lookup m b)) q) v ∷ sold_at b ss
sold_at b (Lapse n v ∷ ss) = Lapse n v ∷ sold_at b ss

-- at a strike each trade is at the lower price of its two orders
abbrev pub lower_price : Step
lower_price =
    striking
    (λ t day.
    let b : Book = day.table.book in
    let price : Option ℕ = fixing_price t b in
    let m : Pairing = match_at price b.buys b.sells in
    strike_at day price (record m { slips = sold_at b m.slips }))

-- Trading in Open -----------------------------------------------------------------------------------------------------

-- the rules with another enter in Open
abbrev pub dealing_by : (Terms → Day → Order → Made) → Step
dealing_by f = but_for (of_enter (λ t day e. only_if (is_open day.stage) (f t day (order_of t (suc day.tally) e))))

-- an order that enters, and what comes of it
abbrev enters : Day → Order → Execution → Made
enters day e a = made_by_entry day e.number (enter_reply e.number) a

-- in Open with this sweep
abbrev arrive : Day → Order → Sweep → Made
arrive day e s = enters day e (after_sweep e day.table s)

-- an entering order pays whatever the first of the other side asks
abbrev pub above_limit : Step
above_limit =
    dealing_by
    (λ t day e.
    arrive day e
    (sweep e.direction e.number (market_price t e.direction) (listed (opposite e.direction) day.table) e.volume))

-- what is left of a market order stands, and does not lapse
abbrev pub never_lapse : Step
never_lapse =
    dealing_by
    (λ t day e.
    let s : Sweep = sweep_of e day.table in
    enters day e
    (record {
      slips = s.slips;
      traded = e.volume - s.left;
      held = s.left;
      table = with_left e s.left (with_rest e.direction s.rest day.table);
    }))

-- the slips, with the prices and the volumes of the trades changed
abbrev trades_by : (ℕ → ℕ) → (ℕ → ℕ) → List Slip → List Slip
trades_by price volume [] = []
trades_by price volume (Trade b s q v ∷ ss) = Trade b s (price q) (volume v) ∷ trades_by price volume ss
trades_by price volume (Lapse n v ∷ ss) = Lapse n v ∷ trades_by price volume ss

-- the rules with other trade slips of an enter in Open
abbrev slips_by : (Order → List Slip → List Slip) → Step
slips_by f =
    dealing_by
    (λ t day e.
    let s : Sweep = sweep_of e day.table in
    arrive day e
    (record s { slips = f e s.slips }))

-- an entering order trades at its own price
abbrev pub own_price : Step
own_price = slips_by (λ e ss. trades_by (λ q. e.price) (λ v. v) ss)

-- a trade of an enter in Open is for one less than the smaller of the two
abbrev pub short_trade : Step
short_trade = slips_by (λ e ss. trades_by (λ q. q) (λ v. v - 1) ss)

-- an order that enters in Open does not trade
abbrev pub never_trades : Step
never_trades = dealing_by (λ t day e. enters day e (entry_resting e day.table))

-- half of the first order before the rest, where an order of this price and volume fills it on side d
abbrev half_of_filled : Direction → ℕ → ℕ → List Order → List Order → List Order
half_of_filled d p v [] rest = rest
half_of_filled d p v (o ∷ os) rest =
    cond (willing d o.price p && nat_le o.volume v) (with_volume (o.volume / 2) o ∷ rest) rest

-- where an enter in Open fills the first order of the other side, half of it stays
abbrev pub half_stays : Step
half_stays =
    dealing_by
    (λ t day e.
    let against : List Order = listed (opposite e.direction) day.table in
    let s : Sweep = sweep e.direction e.number e.price against e.volume in
    arrive day e
    (record s { rest = half_of_filled (opposite e.direction) e.price e.volume against s.rest }))

abbrev of_nothing : Direction → ℕ → List Order → List Slip → List Slip
of_nothing d n [] ss = ss
of_nothing d n (o ∷ os) ss = trade d n o.number o.price 0 ∷ ss

-- an entering order first trades nothing with the first of the other side
abbrev pub empty_trade : Step
empty_trade =
    dealing_by
    (λ t day e.
    let against : List Order = listed (opposite e.direction) day.table in
    let s : Sweep = sweep e.direction e.number e.price against e.volume in
    arrive day e
    (record s { slips = of_nothing e.direction e.number against s.slips }))

-- the first two change places
abbrev swapped : List Order → List Order
swapped [] = []
swapped (x ∷ []) = x ∷ []
swapped (x ∷ (y ∷ xs)) = y ∷ (x ∷ xs)

-- an entering order passes the first over
abbrev pub passed_over : Step
passed_over =
    dealing_by
    (λ t day e.
    arrive day e
    (sweep e.direction e.number e.price (swapped (listed (opposite e.direction) day.table)) e.volume))

-- Price and rank ------------------------------------------------------------------------------------------------------

-- a market buy has the lowest price of the band, and a market sell the highest
abbrev pub exchanged_ends : Step
exchanged_ends =
    but_for
    (of_enter
    (λ t day e.
    let o : Order = order_of t (suc day.tally) e in
    only_if o.market (enter_order day (record o { price = market_price t (opposite e.direction) }))))

-- before all at its price
abbrev ahead_at_price : Direction → Order → List Order → List Order
ahead_at_price d o [] = o ∷ []
ahead_at_price d o (x ∷ xs) = cond (better d x.price o.price) (x ∷ ahead_at_price d o xs) (o ∷ (x ∷ xs))

-- outside Open the last comer stands first at its price
abbrev pub last_first : Step
last_first =
    but_for
    (of_enter
    (λ t day e.
    let o : Order = order_of t (suc day.tally) e in
    let d : Direction = e.direction in
    let b : Book = day.table.book in
    only_if (not (is_open day.stage))
    (enters day o
    (record {
      slips = [];
      traded = 0;
      held = o.volume;
      table = holding day.table (with_side d (ahead_at_price d o (side d b)) b);
    }))))

-- an alter leaves price, place and arrival as they are, and sets the volume
abbrev pub old_arrival : Step
old_arrival =
    but_for
    (of_alter
    (λ t day a.
    Some
    (made_by_entry day day.tally alter_reply
    (record { slips = []; traded = 0; held = a.volume; table = volume_set a.number a.volume day.table }))))

-- Refusals ------------------------------------------------------------------------------------------------------------

abbrev emptied : Came → Verdict → Came
emptied c (refused n) = record { result = refused n; book = empty }
emptied c (accepted a slips) = c

-- after a refusal the book is empty
abbrev pub forgetful : Engine
forgetful t cap past x = let c : Came = model t cap past x in emptied c c.result

-- refuses every call: the law has no word on what is to be accepted
abbrev pub refusing : Engine
refusing t cap past x = record { result = refused 3; book = empty }

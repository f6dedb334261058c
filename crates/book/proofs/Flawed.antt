-- The law fails of rules with a flaw.
use Rattle.std.proofs.Common.{◌≡◌, ℕ, ◌<◌, ◌≤◌, true, false, List, [], ◌∷◌, Some, None, Option, sym, refl, ap, ◌∙◌, inl, ⊎_elim, arith, lit<, lit≤}
use Rattle.std.specs.Option.{unwrap_or}
use Rattle.rules.specs.declared.order.Direction.{Direction}
use Rattle.rules.specs.declared.order.Direction.TheVariants.{Buy, Sell}
use Rattle.rules.specs.declared.order.Order.{Order}
use Rattle.rules.specs.declared.terms.Terms.{Terms}
use Rattle.book.specs.declared.call.Call.{Call}
use Rattle.book.specs.declared.call.Call.TheVariants.{Advance}
use Rattle.book.specs.declared.answer.Answer.{Answer}
use Rattle.book.specs.declared.answer.Told.{Told}
use Rattle.book.specs.declared.answer.Told.TheVariants.{Entered, Advanced}
use Rattle.tables.specs.Meaning.{Capacity}
use Rattle.rules.specs.Book.{Book}
use Rattle.rules.proofs.Allots.{allotment_most}
use Rattle.book.specs.Ledger.{live_book, Ledger, entry, progress, feed}
use Rattle.book.specs.Exactly.{Before}
use Rattle.book.specs.Calls.{order_of}
use Rattle.book.specs.Law.{volume_withdrawn, Entering, Try, ledger, continuous, fixing_at, TradeRight, LapseRight}
use Rattle.book.specs.Model.{engine}
use Rattle.book.specs.Worked.{terms_of_the_day, new_order, enter_call, alter_call, withdraw_call}
use Rattle.book.specs.Flaws.{no_volume, own_price, short_trade, never_trades, Fails, wrong_number, no_count, blind, two_steps, surplus_ignored, outside_band, standing_prices, lapse_first, above_limit, never_lapse, last_first, old_arrival, passed_over, lapse_backwards, part_withdrawal, always_priced, forgetful, Unlawful, half_stays, empty_trade, lower_price, exchanged_ends}
use Rattle.book.proofs.Members.{listing}
use Rattle.book.proofs.Ranks.{no_later}
use Rattle.std.proofs.lemmas.Bool.{leb-true}

abbrev t : Terms
t = terms_of_the_day

abbrev cap : Capacity
cap = record { places = 4 }

abbrev try : Call → Try
try c = record { call = c; room = 9 }

abbrev number_of : Told → ℕ
number_of (Entered x) = x.number
number_of _ = 0

pub wrong_number_fails : Fails wrong_number
wrong_number_fails law =
    let u = law t cap [] (try (enter_call 1 Buy (Some 1000) 10)) in
    let e : ◌≡◌ {A = ℕ} 2 1 = ap (λ (a : Answer Told). number_of a.told) u.answer in
    omega (arith, e)

-- a market sell that meets nobody in Open lapses, and that is one slip
pub no_count_fails : Fails no_count
no_count_fails law =
    let u = law t cap (try Advance ∷ []) (try (enter_call 1 Sell None 10)) in
    let e : ◌≡◌ {A = ℕ} 0 1 = ap (λ (a : Answer Told). a.slips) u.answer in
    omega (arith, e)

-- a buy at 1010 and a sell at 990, with no price
abbrev two_orders : List Try
two_orders = try (enter_call 2 Sell (Some 990) 10) ∷ (try (enter_call 1 Buy (Some 1010) 10) ∷ [])

-- the lowest of the prices that trade all is 990, and 1000 is nearer
pub two_steps_fails : Fails two_steps
two_steps_fails law =
    let u = law t cap two_orders (try Advance) in
    let e : 10 ≤ 0 = u.fixing.1.nearest 1000 (lit≤ tt) (lit≤ tt) refl refl in
    omega (arith, e)

-- 1000 is nearest of the prices that trade all, and leaves a surplus of 20, where 1001 leaves none
pub surplus_ignored_fails : Fails surplus_ignored
surplus_ignored_fails law =
    let u =
    law t cap
    (try (enter_call 3 Sell (Some 990) 20) ∷ (try (enter_call 2 Buy (Some 1000) 20) ∷ (try (enter_call 1 Buy (Some 1010) 20) ∷ [])))
    (try Advance)
    in
    let e : 20 ≤ 0 = u.fixing.1.smallest 1001 (lit≤ tt) (lit≤ tt) refl in
    omega (arith, e)

-- 1301 is no price of the band, which ends at 1300
pub outside_band_fails : Fails outside_band
outside_band_fails law =
    let u = law t cap [] (try Advance) in
    let e : 1301 ≤ 1300 = u.fixing.1.high in
    omega (arith, e)

-- 1010 is the best price at which an order stands, and 1001 is nearer
pub standing_prices_fails : Fails standing_prices
standing_prices_fails law =
    let u =
    law t cap
    (try (enter_call 3 Sell (Some 990) 40) ∷ (try (enter_call 2 Buy (Some 1000) 20) ∷ (try (enter_call 1 Buy (Some 1010) 40) ∷ [])))
    (try Advance)
    in
    let e : 10 ≤ 1 = u.fixing.1.nearest 1001 (lit≤ tt) (lit≤ tt) refl refl in
    omega (arith, e)

-- the market buy that came first lapses while a sell at 1000 is live
pub lapse_first_fails : Fails lapse_first
lapse_first_fails law =
    let past : List Try =
    try (enter_call 3 Sell (Some 1000) 10) ∷ (try (enter_call 2 Buy (Some 1000) 10) ∷ (try (enter_call 1 Buy None 10) ∷ []))
    in
    let u = law t cap past (try Advance) in
    let e : 1300 < 1000 =
    u.each.0.stuck (order_of t 1 (new_order 1 Buy None 10)) (order_of t 3 (new_order 3 Sell (Some 1000) 10))
    (record { account = refl; balance = lit< tt; side = refl }) (record { account = refl; balance = lit< tt; side = refl })
    in
    omega (arith, e)

-- a market sell stands in Open
pub never_lapse_fails : Fails never_lapse
never_lapse_fails law =
    let u = law t cap (try Advance ∷ []) (try (enter_call 1 Sell None 10)) in
    let e : true ≡ false =
    u.shown.limit tt Sell (order_of t 1 (new_order 1 Sell None 10)) (record { account = refl; balance = lit< tt; side = refl })
    in
    let z : ◌≡◌ {A = ℕ} 0 1 = cc in
    omega arith

-- the order of a later arrival is listed first
pub last_first_fails : Fails last_first
last_first_fails law =
    let u = law t cap (try (enter_call 1 Buy (Some 1000) 10) ∷ []) (try (enter_call 2 Buy (Some 1000) 10)) in
    let e : false ≡ true = (listing (u.shown.sides Buy)).sorted in
    let z : ◌≡◌ {A = ℕ} 0 1 = cc in
    omega arith

abbrev arrival_of : Option Order → ℕ
arrival_of None = 0
arrival_of (Some o) = o.arrival

-- the order raised is listed with the arrival that it had
pub old_arrival_fails : Fails old_arrival
old_arrival_fails law =
    let past : List Try = try (enter_call 2 Buy (Some 1000) 10) ∷ (try (enter_call 1 Buy (Some 1000) 10) ∷ []) in
    let u = law t cap past (try (alter_call 1 1 1000 20)) in
    let e : ◌≡◌ {A = ℕ} 3 1 = ap arrival_of ((listing (u.shown.sides Buy)).sound (order_of t 1 (new_order 1 Buy (Some 1000) 20)) (inl refl)).account in
    omega (arith, e)

abbrev price_in : Option Order → ℕ
price_in None = 0
price_in (Some o) = o.price

-- a buy limited to 1000 pays 1040
pub above_limit_fails : Fails above_limit
above_limit_fails law =
    let past : List Try = try Advance ∷ (try (enter_call 2 Sell (Some 1040) 20) ∷ []) in
    let u = law t cap past (try (enter_call 1 Buy (Some 1000) 20)) in
    let M : Ledger = feed t (entry (new_order 1 Buy (Some 1000) 20)) (ledger (engine above_limit) t cap past) in
    let r : TradeRight continuous M 2 1 1040 20 = u.each.0 in
    let e : 1000 ≡ r.buy.price =
    ap price_in (sym (ap M.accounts r.buy_number) ∙ r.buy_first.live.account)
    in
    omega (arith, e, leb-true 1040 r.buy.price r.buy_willing)

-- no price, where 1000 trades 10
pub blind_fails : Fails blind
blind_fails law =
    let u = law t cap two_orders (try Advance) in
    let b : Book = live_book (ledger (engine blind) t cap two_orders) in
    let a : ◌≡◌ {A = ℕ} 10 0 = u.fixing.0.nothing refl 1000 10 (lit≤ tt) (lit≤ tt) (allotment_most b 1000) in
    omega (arith, a)

-- the sell that came second trades before the first
pub passed_over_fails : Fails passed_over
passed_over_fails law =
    let past : List Try = try Advance ∷ (try (enter_call 3 Sell (Some 1000) 10) ∷ (try (enter_call 2 Sell (Some 1000) 10) ∷ [])) in
    let u = law t cap past (try (enter_call 1 Buy (Some 1000) 10)) in
    let M : Ledger = feed t (entry (new_order 1 Buy (Some 1000) 10)) (ledger (engine passed_over) t cap past) in
    let r : TradeRight continuous M 3 2 1000 10 = u.each.0 in
    let k : M.accounts 2 ≡ Some r.sell = sym (ap M.accounts r.sell_number) ∙ r.sell_first.live.account in
    let first : Order = order_of t 1 (new_order 2 Sell (Some 1000) 10) in
    let a : 2 ≡ r.sell.arrival = ap arrival_of k in
    let p : 1000 ≡ r.sell.price = ap price_in k in
    ⊎_elim (λ (q : first ≡ r.sell). omega (arith, a, ap (λ (z : Order). z.arrival) q))
    (λ (b : Before Sell r.sell first). omega (arith, a, no_later Sell r.sell first b (sym p)))
    (r.sell_first.first first (record { account = refl; balance = lit< tt; side = refl }))

pub part_withdrawal_fails : Fails part_withdrawal
part_withdrawal_fails law =
    let u = law t cap (try (enter_call 1 Buy (Some 1000) 10) ∷ []) (try (withdraw_call 1 1)) in
    let e : ◌≡◌ {A = ℕ} 9 10 = ap (λ (a : Answer Told). volume_withdrawn a.told) u.answer in
    omega (arith, e)

abbrev price_or : Told → ℕ
price_or (Advanced x) = unwrap_or x.price 0
price_or _ = 0

-- out of Open there is no fixing
pub always_priced_fails : Fails always_priced
always_priced_fails law =
    let u = law t cap (try (enter_call 1 Buy None 10) ∷ (try Advance ∷ [])) (try Advance) in
    let e : ◌≡◌ {A = ℕ} 1 0 = ap (λ (a : Answer Told). price_or a.told) u.answer in
    omega (arith, e)

-- an order that stood is gone after a refusal
pub forgetful_fails : Unlawful forgetful
forgetful_fails law =
    let u = law t cap (try (enter_call 1 Buy (Some 1000) 10) ∷ []) (try (enter_call 1 Buy (Some 1400) 10)) in
    absurd
    ((listing (u.sides Buy)).complete (order_of t 1 (new_order 1 Buy (Some 1000) 10)) (record { account = refl; balance = lit< tt; side = refl }))

abbrev side_in : Option Order → Direction
side_in None = Buy
side_in (Some o) = o.direction

-- of two market buys the second lapses before the first
pub lapse_backwards_fails : Fails lapse_backwards
lapse_backwards_fails law =
    let past : List Try = try (enter_call 2 Buy None 10) ∷ (try (enter_call 1 Buy None 10) ∷ []) in
    let u = law t cap past (try Advance) in
    let M : Ledger = feed t progress (ledger (engine lapse_backwards) t cap past) in
    let r : LapseRight (fixing_at None) M 2 10 = u.each.0 in
    let k : M.accounts 2 ≡ Some r.order = sym (ap M.accounts r.number) ∙ r.live.account in
    let first : Order = order_of t 1 (new_order 1 Buy None 10) in
    let side : Buy ≡ r.order.direction = ap side_in k in
    let a : 2 ≡ r.order.arrival = ap arrival_of k in
    let p : 1300 ≡ r.order.price = ap price_in k in
    ⊎_elim (λ (q : first ≡ r.order). omega (arith, a, ap (λ (z : Order). z.arrival) q))
    (λ (b : Before r.order.direction r.order first). omega (arith, a, no_later r.order.direction r.order first b (sym p)))
    (r.turn.ranks first (record { account = refl; balance = lit< tt; side = side }) refl)

-- a sell at 990 stands, and a buy at 1000 comes to trade in Open
abbrev one_sell : List Try
one_sell = try Advance ∷ (try (enter_call 2 Sell (Some 990) 20) ∷ [])

abbrev buys_it : Try
buys_it = try (enter_call 1 Buy (Some 1000) 20)

abbrev sum_of : Told → ℕ
sum_of (Entered x) = x.traded
sum_of _ = 0

pub no_volume_fails : Fails no_volume
no_volume_fails law =
    let u = law t cap one_sell buys_it in
    let e : ◌≡◌ {A = ℕ} 0 20 = ap (λ (a : Answer Told). sum_of a.told) u.answer in
    omega (arith, e)

-- the buy pays 1000 to the sell that stands at 990
pub own_price_fails : Fails own_price
own_price_fails law =
    let u = law t cap one_sell buys_it in
    let M : Ledger = feed t (entry (new_order 1 Buy (Some 1000) 20)) (ledger (engine own_price) t cap one_sell) in
    let r : TradeRight continuous M 2 1 1000 20 = u.each.0 in
    let k : M.accounts 1 ≡ Some r.sell = sym (ap M.accounts r.sell_number) ∙ r.sell_first.live.account in
    let p : 990 ≡ r.sell.price = ap price_in k in
    let a : 1 ≡ r.sell.arrival = ap arrival_of k in
    ⊎_elim (λ (x : Entering M r.buy × (1000 ≡ r.sell.price)). omega (arith, p, x.1))
    (λ (x : Entering M r.sell × (1000 ≡ r.buy.price)). let b : r.sell.arrival ≡ 2 = x.0 in omega (arith, a, b)) r.price

abbrev volume_in : Option Order → ℕ
volume_in None = 0
volume_in (Some o) = o.volume

-- 19 are traded of 20 and 20
pub short_trade_fails : Fails short_trade
short_trade_fails law =
    let u = law t cap one_sell buys_it in
    let M : Ledger = feed t (entry (new_order 1 Buy (Some 1000) 20)) (ledger (engine short_trade) t cap one_sell) in
    let r : TradeRight continuous M 2 1 990 19 = u.each.0 in
    let b : 20 ≡ r.buy.volume = ap volume_in (sym (ap M.accounts r.buy_number) ∙ r.buy_first.live.account) in
    let s : 20 ≡ r.sell.volume = ap volume_in (sym (ap M.accounts r.sell_number) ∙ r.sell_first.live.account) in
    omega (arith, b, s, r.volume)

-- a buy at 1000 and a sell at 990 stand in Open
pub never_trades_fails : Fails never_trades
never_trades_fails law =
    let u = law t cap one_sell buys_it in
    let e : 1000 < 990 =
    u.shown.gap tt (order_of t 2 (new_order 1 Buy (Some 1000) 20)) (order_of t 1 (new_order 2 Sell (Some 990) 20))
    (record { account = refl; balance = lit< tt; side = refl }) (record { account = refl; balance = lit< tt; side = refl })
    in
    omega (arith, e)

-- the sell is filled, and 10 of it are listed
pub half_stays_fails : Fails half_stays
half_stays_fails law =
    let u = law t cap one_sell buys_it in
    let e : ◌≡◌ {A = ℕ} 0 10 = ap volume_in ((listing (u.shown.sides Sell)).sound (order_of t 1 (new_order 2 Sell (Some 990) 10)) (inl refl)).account in
    omega (arith, e)

pub empty_trade_fails : Fails empty_trade
empty_trade_fails law =
    let u = law t cap one_sell buys_it in
    let M : Ledger = feed t (entry (new_order 1 Buy (Some 1000) 20)) (ledger (engine empty_trade) t cap one_sell) in
    let r : TradeRight continuous M 2 1 990 0 = u.each.0 in
    omega (arith, r.volume, r.buy_first.live.balance, r.sell_first.live.balance)

-- the price is 1000, and the sell at 990 is traded at 990
pub lower_price_fails : Fails lower_price
lower_price_fails law =
    let u = law t cap two_orders (try Advance) in
    let e : ◌≡◌ {A = ℕ} 1000 990 = ap (λ q. unwrap_or q 0) u.each.0.price in
    omega (arith, e)

-- a market buy is listed at 700
pub exchanged_ends_fails : Fails exchanged_ends
exchanged_ends_fails law =
    let u = law t cap [] (try (enter_call 1 Buy None 10)) in
    let o : Order = record (order_of t 1 (new_order 1 Buy None 10)) { price = 700 } in
    let e : ◌≡◌ {A = ℕ} 1300 700 = ap price_in ((listing (u.shown.sides Buy)).sound o (inl refl)).account in
    omega (arith, e)

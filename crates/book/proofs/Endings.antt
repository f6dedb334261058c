-- The marks of the day say what the journal says.
use Rattle.std.proofs.Common.{◌≡◌, ℕ, Bool, true, false, cond, ◌&&◌, List, [], ◌∷◌, Some, None, Option, sym, refl, ap, ◌∙◌, subst}
use Rattle.std.specs.Option.{option_or, unwrap_or}
use Rattle.rules.specs.Reference.{next_reference_under}
use Rattle.rules.specs.declared.order.Direction.TheVariants.{Buy, Sell}
use Rattle.rules.specs.declared.order.Order.{Order}
use Rattle.rules.specs.declared.reference.DayRecord.{DayRecord}
use Rattle.rules.specs.declared.terms.Terms.{Terms}
use Rattle.tables.specs.Meaning.{Capacity}
use Rattle.book.specs.declared.call.Call.{Call}
use Rattle.book.specs.declared.call.Call.TheVariants.{Advance}
use Rattle.book.specs.declared.slip.Slip.{Slip}
use Rattle.book.specs.declared.slip.Slip.TheVariants.{Trade, Lapse}
use Rattle.book.specs.declared.stage.Stage.{Stage}
use Rattle.book.specs.declared.stage.Stage.TheVariants.{PreOpen, Open, PreClose, Closed}
use Rattle.book.specs.Calls.{Outcome, refused_by, done}
use Rattle.book.specs.Journal.{Line, books}
use Rattle.book.specs.Law.{Try, feed_of}
use Rattle.book.specs.Leads.{outcome, Leads}
use Rattle.book.specs.Marks.{Session, session_after, last_price, first_at, mark_on, marks_after_outcome, record_left}
use Rattle.book.specs.Model.{day_after, what_came}
use Rattle.book.specs.Ending.{last_in, last_trade_of, best_listed, is_price, looked_at, throughout, reference_at, EndsByJournal}
use Rattle.book.specs.Ledger.{Ledger, feed}
use Rattle.book.proofs.Kept.{post_stage, stage_followed, feed_stage}
use Rattle.book.proofs.Leading.{leads_agrees}

last_is : (p : Option ℕ) (ss : List Slip) → last_price p ss ≡ option_or (last_in ss) p
last_is p [] = refl
last_is p (Trade b s q v ∷ ss) = last_is (Some q) ss ∙ go (last_in ss)
  where
    go : (o : Option ℕ) → option_or o (Some q) ≡ option_or (option_or o (Some q)) p
    go None = refl
    go (Some x) = refl
last_is p (Lapse n v ∷ ss) = last_is p ss

-- a mark and what the journal says of it: before Open nothing was looked at
abbrev Marked : Stage → Bool → Bool → Type 0
Marked PreOpen mark stood = stood ≡ true
Marked Open mark stood = mark ≡ stood
Marked PreClose mark stood = mark ≡ stood
Marked Closed mark stood = mark ≡ stood

swap : (x y : Bool) → (x && y) ≡ (y && x)
swap true true = refl
swap true false = refl
swap false true = refl
swap false false = refl

marks_on : (stage : Stage) (c : Call) (mark now' stood : Bool) → Marked stage mark stood
    → Marked (stage_followed stage c) (mark_on stage c mark now') (cond (looked_at stage c) now' true && stood)
marks_on PreOpen Advance mark now' stood h = sym (ap (λ x. now' && x) h ∙ swap now' true)
marks_on PreOpen c mark now' stood h = h
marks_on Open Advance mark now' stood h = h
marks_on Open c mark now' stood h = ap (λ x. x && now') h ∙ swap stood now'
marks_on PreClose Advance mark now' stood h = h
marks_on PreClose c mark now' stood h = h
marks_on Closed Advance mark now' stood h = h
marks_on Closed c mark now' stood h = h

-- the first order stands at p exactly if the best price is p
best_is : (p : ℕ) (os : List Order) → first_at p os ≡ is_price p (best_listed os)
best_is p [] = refl
best_is p (o ∷ os) = refl

marks_best : (stage : Stage) (c : Call) (mark stood : Bool) (p : ℕ) (os : List Order) → Marked stage mark stood
    → Marked (stage_followed stage c) (mark_on stage c mark (first_at p os)) (cond (looked_at stage c) (is_price p (best_listed os)) true && stood)
marks_best stage c mark stood p os h =
    subst (λ b. Marked (stage_followed stage c) (mark_on stage c mark (first_at p os)) (cond (looked_at stage c) b true && stood)) (best_is p os)
    (marks_on stage c mark (first_at p os) stood h)

-- the marks say what the journal says
pub record Says (t : Terms) (past : List Line) (stage : Stage) (m : DayRecord) : Type 0 where
  pub last : m.last_trade ≡ last_trade_of past
  pub high : Marked stage m.buy_at_high (throughout t Buy t.hi past)
  pub low : Marked stage m.sell_at_low (throughout t Sell t.lo past)

-- one line more
module _ (t : Terms) (past : List Line) (b : Session) (x : Try) (g : Says t past b.day.stage b.marks) (same : b.day.stage ≡ (books t past).stage) where
  abbrev line_of : Outcome → Line
  line_of out = record { asked = x; came = what_came b.day out }

  one_more : (out : Outcome) → (day_after b.day out).stage ≡ (books t (line_of out ∷ past)).stage
      → Says t (line_of out ∷ past) (day_after b.day out).stage (marks_after_outcome t b.day.stage x.call b.marks out)
  one_more (refused_by n) e = record { last = g.last; high = g.high; low = g.low }
  one_more (done after a slips) e =
      let L : Ledger = books t past in
      let stage : after.stage ≡ stage_followed L.stage x.call = e ∙ post_stage slips (feed t (feed_of x.call a) L) ∙ feed_stage t x.call a L in
      let from : stage_followed b.day.stage x.call ≡ after.stage = ap (λ s. stage_followed s x.call) same ∙ sym stage in
      record {
        last = last_is b.marks.last_trade slips ∙ ap (option_or (last_in slips)) g.last;
        high =
            subst (λ s. Marked s (mark_on b.day.stage x.call b.marks.buy_at_high (first_at t.hi after.table.book.buys)) (cond (looked_at L.stage x.call) (is_price t.hi (best_listed after.table.book.buys)) true && throughout t Buy t.hi past)) from
            (subst (λ s. Marked (stage_followed b.day.stage x.call) (mark_on b.day.stage x.call b.marks.buy_at_high (first_at t.hi after.table.book.buys)) (cond (looked_at s x.call) (is_price t.hi (best_listed after.table.book.buys)) true && throughout t Buy t.hi past)) same
            (marks_best b.day.stage x.call b.marks.buy_at_high (throughout t Buy t.hi past) t.hi after.table.book.buys g.high));
        low =
            subst (λ s. Marked s (mark_on b.day.stage x.call b.marks.sell_at_low (first_at t.lo after.table.book.sells)) (cond (looked_at L.stage x.call) (is_price t.lo (best_listed after.table.book.sells)) true && throughout t Sell t.lo past)) from
            (subst (λ s. Marked (stage_followed b.day.stage x.call) (mark_on b.day.stage x.call b.marks.sell_at_low (first_at t.lo after.table.book.sells)) (cond (looked_at s x.call) (is_price t.lo (best_listed after.table.book.sells)) true && throughout t Sell t.lo past)) same
            (marks_best b.day.stage x.call b.marks.sell_at_low (throughout t Sell t.lo past) t.lo after.table.book.sells g.low));
      }

marks_say : (t : Terms) (cap : Capacity) (past : List Line) (s : Session) → Leads t cap past s → Says t past s.day.stage s.marks
marks_say t cap [] s e = subst (λ y. Says t [] y.day.stage y.marks) (sym e) (record { last = refl; high = refl; low = refl })
marks_say t cap (x ∷ past) s h =
    let b : Session = h.0 in
    let out : Outcome = outcome t b.day x.asked in
    let y : Line = record { asked = x.asked; came = what_came b.day out } in
    let here : y ≡ x = ap (λ c. record { asked = x.asked; came = c }) h.2 in
    let same : b.day.stage ≡ (books t past).stage = ap (λ d. d.stage) (leads_agrees t cap past b h.1).day_is in
    let next_same : (day_after b.day out).stage ≡ (books t (y ∷ past)).stage =
    ap (λ d. d.stage) (leads_agrees t cap (y ∷ past) (session_after t x.asked.call b out) (b, h.1, refl, refl)).day_is in
    subst (λ o. Says t (x ∷ past) o.day.stage o.marks) h.3
    (subst (λ z. Says t (z ∷ past) (day_after b.day out).stage (marks_after_outcome t b.day.stage x.asked.call b.marks out)) here
    (one_more t past b x.asked (marks_say t cap past b h.1) same out next_same))

-- what the marks give at the end
closing : (t : Terms) (past : List Line) (stage : Stage) (m : DayRecord) → Says t past stage m → next_reference_under t (record_left stage m) ≡ reference_at t stage past
closing t past PreOpen m g = refl
closing t past Open m g = refl
closing t past PreClose m g = refl
closing t past Closed m g =
    ap (λ p. unwrap_or p (cond m.buy_at_high t.hi (cond m.sell_at_low t.lo t.reference))) g.last
    ∙ ap (λ h. unwrap_or (last_trade_of past) (cond h t.hi (cond m.sell_at_low t.lo t.reference))) g.high
    ∙ ap (λ l. unwrap_or (last_trade_of past) (cond (throughout t Buy t.hi past) t.hi (cond l t.lo t.reference))) g.low

pub ends_by_journal : EndsByJournal
ends_by_journal t cap past s h =
    closing t past s.day.stage s.marks (marks_say t cap past s h)
    ∙ ap (λ stage. reference_at t stage past) (ap (λ d. d.stage) (leads_agrees t cap past s h).day_is)

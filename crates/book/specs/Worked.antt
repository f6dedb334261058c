-- Days worked by the rules, call after call.
use Rattle.std.specs.Prelude.{◌≡◌, ℕ, List, [], ◌∷◌, Some, None, Option, refl}
use Rattle.std.proofs.Common.{lit≤}
use Rattle.rules.specs.declared.order.Direction.{Direction}
use Rattle.rules.specs.declared.order.Direction.TheVariants.{Buy, Sell}
use Rattle.rules.specs.declared.terms.Terms.{Terms}
use Rattle.tables.specs.Meaning.{Capacity}
use Rattle.book.specs.declared.answer.Answer.{Answer}
use Rattle.book.specs.declared.answer.Told.{Told}
use Rattle.book.specs.declared.answer.Told.TheVariants.{Entered, Advanced}
use Rattle.book.specs.declared.call.Call.{Call}
use Rattle.book.specs.declared.call.Call.TheVariants.{Enter, Alter, Withdraw, Advance}
use Rattle.book.specs.declared.call.NewOrder.{NewOrder}
use Rattle.book.specs.declared.slip.Slip.TheVariants.{Trade, Lapse}
use Rattle.book.specs.declared.stage.Stage.{Stage}
use Rattle.book.specs.declared.stage.Stage.TheVariants.{Open, PreClose, Closed}
use Rattle.book.specs.Law.{Try, Verdict, refused, accepted}
use Rattle.book.specs.Leads.{outcome}
use Rattle.book.specs.Marks.{Session, new_session, session_after, reference_left}
use Rattle.book.specs.Model.{result}

-- reference price 1000, block 10, and so the band 700 to 1300; the last six are the facts that every terms has
abbrev pub terms_of_the_day : Terms
terms_of_the_day =
    record {
      reference = 1000;
      block = 10;
      lo = 700;
      hi = 1300;
      priced = (lit≤ tt, lit≤ tt);
      blocked = (lit≤ tt, lit≤ tt);
      floor = refl;
      ceiling = refl;
      low = lit≤ tt;
      high = lit≤ tt;
    }

-- 128 places for each side, and a run of 512 slips
abbrev pub places : Capacity
places = record { places = 128 }

-- a call with that run
abbrev pub with_run : Call → Try
with_run c = record { call = c; room = 512 }

-- calls from their values
abbrev pub new_order : ℕ → Direction → Option ℕ → ℕ → NewOrder
new_order member d limit volume = record { member = member; direction = d; limit = limit; volume = volume }

-- an enter, an alter and a withdraw
abbrev pub enter_call : ℕ → Direction → Option ℕ → ℕ → Call
enter_call member d limit volume = Enter (new_order member d limit volume)

abbrev pub alter_call : ℕ → ℕ → ℕ → ℕ → Call
alter_call member n price volume = Alter (record { member = member; number = n; price = price; volume = volume })

abbrev pub withdraw_call : ℕ → ℕ → Call
withdraw_call member n = Withdraw (record { member = member; number = n })

-- the day's calls, the first first
abbrev pub calls : List Call
calls =
    enter_call 1 Buy (Some 1050) 40
    ∷ enter_call 2 Sell (Some 990) 30
    ∷ enter_call 3 Buy (Some 1400) 10
    ∷ Advance
    ∷ enter_call 4 Sell None 20
    ∷ Advance
    ∷ Advance
    ∷ []

-- what comes of calls from a session on
abbrev pub results : Terms → Session → List Call → List Verdict
results t s [] = []
results t s (c ∷ cs) = result (outcome t s.day (with_run c)) ∷ results t (session_after t c s (outcome t s.day (with_run c))) cs

-- the session after calls
abbrev pub session_after_calls : Terms → Session → List Call → Session
session_after_calls t s [] = s
session_after_calls t s (c ∷ cs) = session_after_calls t (session_after t c s (outcome t s.day (with_run c))) cs

-- answers from their values, the count of slips last
abbrev entered_as : ℕ → ℕ → ℕ → ℕ → Answer Told
entered_as n traded held slips = record { told = Entered (record { number = n; traded = traded; held = held }); slips = slips }

abbrev advanced_to : Stage → Option ℕ → ℕ → ℕ → Answer Told
advanced_to stage price traded slips =
    record { told = Advanced (record { stage = stage; price = price; traded = traded }); slips = slips }

-- what should come of the day's calls
abbrev pub expected : List Verdict
expected =
    accepted (entered_as 1 0 40 0) []
    ∷ accepted (entered_as 2 0 30 0) []
    ∷ refused 6
    ∷ accepted (advanced_to Open (Some 1000) 30 1) (Trade 1 2 1000 30 ∷ [])
    ∷ accepted (entered_as 3 10 0 2) (Trade 1 3 1050 10 ∷ Lapse 3 10 ∷ [])
    ∷ accepted (advanced_to PreClose None 0 0) []
    ∷ accepted (advanced_to Closed None 0 0) []
    ∷ []

-- the next reference price that a day of these calls leaves
abbrev pub reference_after : List Call → ℕ
reference_after cs = reference_left terms_of_the_day (session_after_calls terms_of_the_day (new_session places) cs)

-- the three calls that end a day
abbrev pub advances : List Call
advances = Advance ∷ Advance ∷ Advance ∷ []

-- the day above; then days without a trade: an order at the end of the band that stands from the opening on, one that is
-- 10 off it, one that comes only after the opening, and one that leaves in Open
pub record WorkedDay : Type 0 where
  pub answers : results terms_of_the_day (new_session places) calls ≡ expected
  pub reference : reference_after calls ≡ 1050
  pub buy_at_high : reference_after (enter_call 1 Buy (Some 1300) 40 ∷ advances) ≡ 1300
  pub sell_at_low : reference_after (enter_call 1 Sell (Some 700) 40 ∷ advances) ≡ 700
  pub buy_below : reference_after (enter_call 1 Buy (Some 1290) 40 ∷ advances) ≡ 1000
  pub buy_late : reference_after (Advance ∷ enter_call 1 Buy (Some 1300) 40 ∷ Advance ∷ Advance ∷ []) ≡ 1000
  pub buy_gone : reference_after (enter_call 1 Buy (Some 1300) 40 ∷ Advance ∷ withdraw_call 1 1 ∷ Advance ∷ Advance ∷ []) ≡ 1000

-- What a call comes to that no row refuses, and that the first row refuses.
use Rattle.std.proofs.Common.{◌≡◌, ℕ, ◌+◌, ◌<◌, Bool, true, Some, None, Option, Ok, Result, List, length, refl, sym, ap, subst, ◌∙◌, arith, add-one}
use Rattle.rules.specs.declared.order.Order.{Order}
use Rattle.rules.specs.declared.terms.Terms.{Terms}
use Rattle.tables.specs.Meaning.{Contents, listed, takes, removed}
use Rattle.book.specs.declared.call.Alteration.{Alteration}
use Rattle.book.specs.declared.call.Call.TheVariants.{Enter, Alter, Withdraw}
use Rattle.book.specs.declared.call.NewOrder.{NewOrder}
use Rattle.book.specs.declared.call.Withdrawal.{Withdrawal}
use Rattle.book.specs.declared.slip.Slip.{Slip}
use Rattle.book.specs.Calls.{Made, outcome_of, outcome_or_refusal, of_named, order_of, entry_of, alter, withdraw, step}
use Rattle.book.specs.Day.{Day}
use Rattle.book.specs.Model.{day_after}
use Rattle.book.specs.Rows.{first_row, past_row, order_named, enter_rows, alter_rows, withdraw_rows}
use Rattle.book.specs.Stages.{is_open}
use Rattle.book.proofs.Gate.{Enters, Alters, passes, enter_passes, alter_passes}
use Rattle.market.specs.Kept.{Kept}
use Rattle.market.specs.Outcome.{run_after}
use Rattle.market.proofs.Altering.{found_number}
use Rattle.market.proofs.Keeping.{takes_new}

passed : (r : Option ℕ) (x : Result Made ℕ) (m : Made) → None ≡ r → Ok m ≡ x → outcome_of m ≡ outcome_or_refusal (past_row r x)
passed r x m e h = λ i. outcome_or_refusal (past_row (e i) (h i))

module _ (t : Terms) (day : Day) (room : ℕ) where
  pub alter_is :
      (a : Alteration) (o : Order) → None ≡ first_row (alter_rows t day a room (order_named a.number day)) →
      order_named a.number day ≡ Some o → outcome_of (alter day a o) ≡ step t day (Alter a) room
  alter_is a o e f = passed _ _ (alter day a o) e (ap (λ z. of_named z (alter day a)) (sym f))

  pub withdraw_is :
      (w : Withdrawal) (o : Order) → None ≡ first_row (withdraw_rows day w (order_named w.number day)) →
      order_named w.number day ≡ Some o → outcome_of (withdraw day o) ≡ step t day (Withdraw w) room
  withdraw_is w o e f = passed _ _ (withdraw day o) e (ap (λ z. of_named z (withdraw day)) (sym f))

  pub alter_asked :
      (a : Alteration) (o : Order) → None ≡ first_row (alter_rows t day a room (order_named a.number day)) →
      order_named a.number day ≡ Some o → Alters t day a room o
  alter_asked a o e f =
      alter_passes t day a room o f (passes (alter_rows t day a room (Some o)) (subst (λ z. first_row (alter_rows t day a room z) ≡ None) f (sym e)))

  -- a withdraw writes nothing
  pub nothing_written : (w : Withdrawal) (run : List Slip) → run ≡ run_after run (step t day (Withdraw w) room)
  nothing_written w run = at (first_row (withdraw_rows day w (order_named w.number day))) (order_named w.number day)
    where
      at : (r : Option ℕ) (held : Option Order) → run ≡ run_after run (outcome_or_refusal (past_row r (of_named held (withdraw day))))
      at (Some n) held = refl
      at None None = refl
      at None (Some o) = refl

  -- if v is the day before
  module _ (v : Day) (same : v ≡ day) where
    -- a table takes the order that an enter makes
    pub takes_entering :
        Kept v → (new : NewOrder) → None ≡ first_row (enter_rows t day new room) → (e : Order) → e ≡ order_of t (v.tally + 1) new →
        takes v.table e ≡ true
    takes_entering h new e x ex =
        let k : Enters t day new room = enter_passes t day new room (passes (enter_rows t day new room) (sym e)) in
        let place = subst (λ u. length (listed new.direction u.table) < u.table.capacity.places) (sym same) k.place in
        subst (λ z. takes v.table z ≡ true) (sym ex) (takes_new v.table (order_of t (v.tally + 1) new) place (h.known (v.tally + 1) (omega arith)))

    pub entered_day :
        (new : NewOrder) → None ≡ first_row (enter_rows t day new room) → (trades : Bool) (e : Order) (x : Contents) →
        trades ≡ is_open v.stage → e ≡ order_of t (v.tally + 1) new → x ≡ (entry_of trades e v.table).table →
        record v { tally = v.tally + 1; table = x } ≡ day_after day (step t day (Enter new) room)
    entered_day new passes trades e x et ee ex =
        let made : ℕ → Day → Day = λ n u. record u { tally = n; table = (entry_of (is_open u.stage) (order_of t n new) u.table).table } in
        ap (λ z. record v { tally = v.tally + 1; table = z }) (ex ∙ (λ i. (entry_of (et i) (ee i) v.table).table))
        ∙ (λ i. made (add-one (same i).tally i) (same i))
        ∙ ap (day_after day) (passed _ _ _ passes refl)

    pub withdrawn_day :
        (w : Withdrawal) (o : Order) → None ≡ first_row (withdraw_rows day w (order_named w.number day)) → order_named w.number day ≡ Some o →
        (x : Contents) → x ≡ removed w.number v.table →
        record v { table = x } ≡ day_after day (step t day (Withdraw w) room)
    withdrawn_day w o e f x ex =
        let number : o.number ≡ w.number = found_number w.number day.table.book o f in
        ap (λ z. record v { table = z }) ex
        ∙ (λ i. record (same i) { table = removed (sym number i) (same i).table })
        ∙ ap (day_after day) (withdraw_is w o e f)

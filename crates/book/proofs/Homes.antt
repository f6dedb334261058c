-- A day's table keeps its capacity.
use Rattle.std.proofs.Common.{◌≡◌, ℕ, suc, Bool, true, false, eqb, List, [], ◌∷◌, refl, ◌∙◌}
use Rattle.std.proofs.lemmas.Bool.{cond_both}
use Rattle.rules.specs.declared.order.Order.{Order}
use Rattle.rules.specs.declared.terms.Terms.{Terms}
use Rattle.tables.specs.Listing.{with_volume, without}
use Rattle.tables.specs.Meaning.{Capacity, Contents, added, each_side, held, holding, put_in, removed, takes}
use Rattle.book.specs.declared.call.Alteration.{Alteration}
use Rattle.book.specs.declared.call.Call.{Call}
use Rattle.book.specs.Stages.{is_open, strikes}
use Rattle.book.specs.Day.{Day}
use Rattle.book.specs.Calls.{Made, Outcome, refused_by, done, order_of, altered_order, Sweep, sweep_of, after_sweep, entry_of, with_rest, with_left, trades_again, alter, advance, step}
use Rattle.book.specs.Law.{Try}
use Rattle.book.specs.Model.{day_after, day_after_tries}
use Rattle.book.proofs.Gate.{of_step}

abbrev Home : Capacity → Outcome → Type 0
Home cap (refused_by n) = Unit {0}
Home cap (done day a slips) = day.table.capacity ≡ cap

added_home : (e : Order) (T : Contents) → (added e T).capacity ≡ T.capacity
added_home e T = cond_both (takes T e) (put_in e T) T (λ (X : Contents). X.capacity ≡ T.capacity) (λ _. refl) (λ _. refl)

removed_home : (n : ℕ) (T : Contents) → (removed n T).capacity ≡ T.capacity
removed_home n T =
    cond_both (held n T.book) (holding T (each_side (without n) T.book)) T (λ (X : Contents). X.capacity ≡ T.capacity)
    (λ _. refl) (λ _. refl)

placed_home : (e : Order) (v : ℕ) (T : Contents) → (with_left e v T).capacity ≡ T.capacity
placed_home e v T =
    cond_both (eqb v 0) T (added (with_volume v e) T) (λ (X : Contents). X.capacity ≡ T.capacity) (λ _. refl)
    (λ _. added_home (with_volume v e) T)

settled_home : (e : Order) (T : Contents) (s : Sweep) → (after_sweep e T s).table.capacity ≡ T.capacity
settled_home e T s =
    cond_both e.market _ _ (λ (X : Contents). X.capacity ≡ T.capacity) (λ _. refl) (λ _. placed_home e s.left (with_rest e.direction s.rest T))

entered_home : (trades : Bool) (e : Order) (T : Contents) → (entry_of trades e T).table.capacity ≡ T.capacity
entered_home true e T = settled_home e T (sweep_of e T)
entered_home false e T = added_home e T

alter_home : (day : Day) (a : Alteration) (o : Order) → (alter day a o).day.table.capacity ≡ day.table.capacity
alter_home day a o =
    entered_home (trades_again day.stage a o) (altered_order day.tally a o) (removed o.number day.table) ∙ removed_home o.number day.table

advance_home : (t : Terms) (day : Day) → (advance t day).day.table.capacity ≡ day.table.capacity
advance_home t day = cond_both (strikes day.stage) _ _ (λ (m : Made). m.day.table.capacity ≡ day.table.capacity) (λ _. refl) (λ _. refl)

step_home : (t : Terms) (day : Day) (c : Call) (room : ℕ) → Home day.table.capacity (step t day c room)
step_home t day c room =
    of_step t day room (λ c out. Home day.table.capacity out)
    (record {
      refused = λ c n. tt;
      enters = λ e _. entered_home (is_open day.stage) (order_of t (suc day.tally) e) day.table;
      alters = λ a o _. alter_home day a o;
      withdraws = λ w o _. removed_home o.number day.table;
      advances = λ _. advance_home t day;
    }) c

moved_home : (day : Day) (out : Outcome) → Home day.table.capacity out → (day_after day out).table.capacity ≡ day.table.capacity
moved_home day (refused_by n) h = refl
moved_home day (done after a slips) h = h

pub home_after : (t : Terms) (cap : Capacity) (past : List Try) → (day_after_tries step t cap past).table.capacity ≡ cap
home_after t cap [] = refl
home_after t cap (x ∷ past) =
    let day : Day = day_after_tries step t cap past in
    moved_home day (step t day x.call x.room) (step_home t day x.call x.room) ∙ home_after t cap past

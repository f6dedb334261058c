-- The next number is never held.
use Rattle.std.proofs.Common.{subst, ◌≤◌, ◌≡◌, suc, Bool, true, false, not, ◌&&◌, length, refl, ap, ◌∙◌, arith, nat_lt}
use Rattle.rules.specs.Book.{side}
use Rattle.rules.specs.declared.order.Direction.{Direction}
use Rattle.rules.specs.declared.order.Direction.TheVariants.{Buy, Sell}
use Rattle.rules.specs.declared.terms.Terms.{Terms}
use Rattle.tables.specs.Listing.{times}
use Rattle.tables.specs.Meaning.{held, listed}
use Rattle.tables.proofs.Keeps.{held_none}
use Rattle.book.specs.Day.{Day}
use Rattle.book.specs.Calls.{step}
use Rattle.book.specs.Ledger.{Ledger}
use Rattle.book.specs.Law.{ledger}
use Rattle.book.specs.Model.{model, day_after_tries}
use Rattle.book.specs.Places.{TakesByPlaces}
use Rattle.tables.specs.Meaning.{Capacity}
use Rattle.book.proofs.Homes.{home_after}
use Rattle.book.proofs.Members.{listing}
use Rattle.book.proofs.Calls.{none_next}
use Rattle.book.proofs.Laws.{Agrees, history_agrees}
use Rattle.book.proofs.Ranks.{none_numbered}

and_true : (b : Bool) → (b && true) ≡ b
and_true true = refl
and_true false = refl

module _ (t : Terms) (L : Ledger) (day : Day) (g : Agrees t L day) where
  none_on : (d : Direction) → times (suc day.tally) (side d day.table.book) ≡ 0
  none_on d =
      none_numbered (suc day.tally) (side d day.table.book)
      (λ x m q.
      none_next t L day.table g.inv d x ((listing (g.inv.shown.sides d)).sound x m) (q ∙ ap (λ (z : Day). suc z.tally) g.day_is))

  not_held : held (suc day.tally) day.table.book ≡ false
  not_held = held_none day.table.book (suc day.tally) (omega (arith, none_on Buy, none_on Sell))

pub takes_by_places : TakesByPlaces
takes_by_places t cap past =
    let day : Day = day_after_tries step t cap past in
    let home : day.table.capacity ≡ cap = home_after t cap past in
    let g : Agrees t (ledger model t cap past) day = history_agrees t cap past in
    record {
      capacity = home;
      fits = λ d. subst (λ (c : Capacity). length (listed d day.table) ≤ c.places) home (g.inv.fits d);
      taken =
          λ e.
          let room : Bool = nat_lt (length (listed e.direction day.table)) day.table.capacity.places in
          ap (λ h. room && not h) (not_held t (ledger model t cap past) day g) ∙ and_true room;
    }

-- The ways in which an alter changes its order, and the day after each.
use Rattle.std.proofs.Common.{◌≡◌, ℕ, suc, ◌+◌, ◌<◌, ◌≤◌, Bool, true, false, not, cond, ◌&&◌, ◌||◌, ◌==◌, nat_lt, refl, sym, ap, ◌∙◌, add-one}
use Rattle.std.proofs.lemmas.Bool.{ne_eqb, eq-eqb, lt-ltb, le-ltb, or_left}
use Rattle.rules.specs.declared.order.Order.{Order}
use Rattle.tables.specs.Listing.{with_volume}
use Rattle.tables.specs.Meaning.{Contents, added, removed}
use Rattle.book.specs.declared.call.Alteration.{Alteration}
use Rattle.book.specs.Stages.{is_open}
use Rattle.book.specs.Day.{Day}
use Rattle.book.specs.Calls.{Made, takes_new_arrival, entry_of, made_by_entry, alter_reply, alter}

-- the order with the price and volume wanted, and an arrival
abbrev arriving : ℕ → Alteration → Order → Order
arriving arrival a o = record o { price = a.price; volume = a.volume; arrival = arrival }

and_false : (a : Bool) → (a && false) ≡ false
and_false true = refl
and_false false = refl

and_true : (a : Bool) → (a && true) ≡ a
and_true true = refl
and_true false = refl

abbrev other : Alteration → Order → Bool
other a o = not (a.price == o.price)

-- an alter where the price is another or not, and the order moves or not
abbrev made : Day → Alteration → Order → Bool → Bool → Made
made day a o b m =
    made_by_entry day (cond m (suc day.tally) day.tally) alter_reply
    (entry_of (is_open day.stage && b) (arriving (cond m (suc day.tally) o.arrival) a o) (removed o.number day.table))

-- if v is the day before
module _ (v day : Day) (same : v ≡ day) (a : Alteration) (o : Order) where
  abbrev after : ℕ → Contents → Day
  after tally x = record { stage = v.stage; tally = tally; table = x }

  changed : (alter v a o).day ≡ (alter day a o).day
  changed = ap (λ d. (alter d a o).day) same

  -- the order enters again with the next arrival
  module _ (tally : ℕ) (e : Order) (x : Contents) (next : tally ≡ v.tally + 1) (as_wanted : e ≡ arriving (v.tally + 1) a o) where
    again : (b trades : Bool) → other a o ≡ b → takes_new_arrival a o ≡ true → (is_open v.stage && b) ≡ trades →
        x ≡ (entry_of trades e (removed e.number v.table)).table → after tally x ≡ (alter day a o).day
    again b trades eb em et ex =
        let due : e ≡ arriving (suc v.tally) a o = as_wanted ∙ ap (λ n. arriving n a o) (add-one v.tally) in
        let table = ex ∙ (λ i. (entry_of (sym et i) (due i) (removed (due i).number v.table)).table) in
        (λ i. after ((next ∙ add-one v.tally) i) (table i)) ∙ (λ i. (made v a o (sym eb i) (sym em i)).day) ∙ changed

    pub priced : (a.price ≡ o.price → ⊥) → (trades : Bool) → trades ≡ is_open v.stage → x ≡ (entry_of trades e (removed e.number v.table)).table →
        after tally x ≡ (alter day a o).day
    priced differs trades et ex =
        let b : other a o ≡ true = ap not (ne_eqb a.price o.price differs) in
        again true trades b (or_left (other a o) (nat_lt o.volume a.volume) b) (and_true (is_open v.stage) ∙ sym et) ex

    pub raised : a.price ≡ o.price → o.volume < a.volume → x ≡ (entry_of false e (removed e.number v.table)).table → after tally x ≡ (alter day a o).day
    raised at more ex =
        let b : other a o ≡ false = ap not (eq-eqb a.price o.price at) in
        again false false b (ap (λ q. q || nat_lt o.volume a.volume) b ∙ lt-ltb o.volume a.volume more) (and_false (is_open v.stage)) ex

  pub kept : (x : Contents) → a.price ≡ o.price → a.volume ≤ o.volume → x ≡ added (with_volume a.volume o) (removed o.number v.table) →
      after v.tally x ≡ (alter day a o).day
  kept x at less ex =
      let b : other a o ≡ false = ap not (eq-eqb a.price o.price at) in
      let m : takes_new_arrival a o ≡ false = ap (λ q. q || nat_lt o.volume a.volume) b ∙ le-ltb o.volume a.volume less in
      ap (after v.tally) (ex ∙ ap (λ p. added (record o { price = p; volume = a.volume; arrival = o.arrival }) (removed o.number v.table)) (sym at))
      ∙ ap (λ t. after v.tally (entry_of t (arriving o.arrival a o) (removed o.number v.table)).table) (sym (and_false (is_open v.stage)))
      ∙ (λ i. (made v a o (sym b i) (sym m i)).day)
      ∙ changed

use Rattle.std.proofs.Common.{◌≡◌, ◌<◌, ◌≤◌, length, nat_lt, false, sym, ◌∙◌, arith, rules}
use Rattle.std.specs.Option.{is_none}
use Rattle.std.proofs.lemmas.Bool.{and_left, le-ltb}
use Rattle.tables.specs.Meaning.{listed, takes}
use Rattle.tables.proofs.Stands.{room_left, same_takes}
use Rattle.tables.proofs.store.takes.Goals as goal

pub returns-then-row-places : goal.returns-then-row-places
returns-then-row-places g c =
    let t = g.S.Store.stored c.args.store.now in
    let s = g.met.S.Store.sound c.args.store.now in
    let o = c.args.order.now in
    let below : length (listed o.direction t) < t.capacity.places = search rules in
    let none : c.is_none.result ≡ is_none c.place_of.result = grind (arith, c.is_none.ensures) in
    let e : c.is_none.result ≡ takes t o = none ∙ room_left t s o c.place_of.result below c.place_of.ensures in
    record { stored = e; meant = e ∙ sym (same_takes t s o) }

pub returns-else-row-places : goal.returns-else-row-places
returns-else-row-places g c =
    let t = g.S.Store.stored c.args.store.now in
    let s = g.met.S.Store.sound c.args.store.now in
    let o = c.args.order.now in
    let full : t.capacity.places ≤ length (listed o.direction t) = search rules in
    let e : takes t o ≡ false = and_left _ _ (le-ltb _ _ full) in
    let h : nat_lt (length c.row.result.now) c.places.result ≡ takes t o = le-ltb _ _ c.if-row-places.false ∙ sym e in
    record { stored = h; meant = h ∙ sym (same_takes t s o) }

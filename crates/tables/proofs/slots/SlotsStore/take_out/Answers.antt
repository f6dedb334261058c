use Rattle.std.proofs.Common.{List, ap, sym, ◌∙◌, subst, vec_capacity}
use Rattle.std.specs.List.{remove}
use Rattle.rules.specs.declared.order.Order.{Order}
use Rattle.tables.specs.Meaning.{Contents, Sound, ordered}
use Rattle.tables.specs.Slots.{stored}
use Rattle.tables.proofs.Slotted.{changed_row, kept_with}
use Rattle.tables.proofs.Stands.{sound_without}
use Rattle.tables.proofs.slots.SlotsStore.take_out.Goals as goal

pub invariant_of-self : goal.invariant_of-self
invariant_of-self c =
    let u = c.args.self.now.inner in
    let k = c.args.self.now.kept in
    let p = c.args.place in
    let e = changed_row (λ (os : List Order). remove os p.index) p.direction c.remove.new.self u (rw (← c.of_mut.ensures.value) c.remove.ensures.items) in
    record {
      kept = kept_with p.direction c.remove.new.self u k (c.remove.ensures.capacity ∙ ap vec_capacity c.of_mut.ensures.value) (subst (λ (t : Contents). Sound (ordered t)) (sym e) (sound_without (stored u) k.sound p c.requires));
    }

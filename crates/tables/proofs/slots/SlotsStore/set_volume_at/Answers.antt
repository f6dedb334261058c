use Rattle.std.proofs.Common.{sym, refl, subst}
use Rattle.rules.specs.Book.{no_order}
use Rattle.tables.specs.Meaning.{Contents, Sound, ordered}
use Rattle.tables.specs.Slots.{stored}
use Rattle.tables.proofs.Slotted.{written, kept_with}
use Rattle.tables.proofs.Stands.{sound_with_volume}
use Rattle.tables.proofs.slots.SlotsStore.set_volume_at.Goals as goal

pub invariant_of-self : goal.invariant_of-self
invariant_of-self c =
    let u = c.args.self.now.inner in
    let k = c.args.self.now.kept in
    let p = c.args.place in
    let e = written p c.args.volume c.in-Some.order.now u (c.in-Some.ensures.item.3.1 no_order) in
    record {
      kept = kept_with p.direction _ u k refl (subst (λ (t : Contents). Sound (ordered t)) (sym e) (sound_with_volume (stored u) k.sound p c.requires c.args.volume));
    }

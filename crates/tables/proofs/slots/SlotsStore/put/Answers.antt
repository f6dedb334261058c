use Rattle.std.proofs.Common.{[], ◌∷◌, ◌++◌, ap, sym, ◌∙◌, subst, vec_capacity}
use Rattle.tables.specs.Meaning.{Contents, Sound, ordered}
use Rattle.tables.specs.Slots.{stored}
use Rattle.tables.proofs.Slotted.{changed_row, kept_with}
use Rattle.tables.proofs.Stands.{pushed, sound_pushed}
use Rattle.tables.proofs.slots.SlotsStore.put.Goals as goal

pub invariant_of-self : goal.invariant_of-self
invariant_of-self c =
    let u = c.args.self.now.inner in
    let k = c.args.self.now.kept in
    let o = c.args.order in
    let e = changed_row (λ os. os ++ o ∷ []) o.direction c.push_reserved.new.self u (rw (← c.of_mut.ensures.value) c.push_reserved.ensures.items) in
    record {
      kept = kept_with o.direction c.push_reserved.new.self u k (c.push_reserved.ensures.capacity ∙ ap vec_capacity c.of_mut.ensures.value) (subst (λ (t : Contents). Sound (ordered t)) (sym e) (sound_pushed (stored u) k.sound o c.requires));
    }

pub returns : goal.returns
returns c =
    let u = c.args.self.now.inner in
    let o = c.args.order in
    ap ordered (changed_row (λ os. os ++ o ∷ []) o.direction c.push_reserved.new.self u (rw (← c.of_mut.ensures.value) c.push_reserved.ensures.items))
    ∙ pushed (stored u) c.args.self.now.kept.sound o c.requires

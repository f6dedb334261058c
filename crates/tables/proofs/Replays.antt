-- One call more of a list that is worked in turn.
use Rattle.std.proofs.Common.{◌≡◌, ℕ, List, [], ◌∷◌, ◌++◌, drop, refl, ◌∙◌}
use Rattle.std.proofs.lemmas.Bool.{cond_both}
use Rattle.tables.specs.declared.calls.Call.{Call}
use Rattle.tables.specs.declared.calls.Call.TheVariants.{Clear, At, Count, Places, Find, Add, SetVolume, Remove}
use Rattle.tables.specs.declared.calls.Reply.{Reply}
use Rattle.tables.specs.Calls.{after, replies, all_after}
use Rattle.tables.specs.Meaning.{Contents, takes, sets_volume, held}

-- what is answered so far, with what the rest will be, is the whole; and so for what the table means
pub record Replayed (from : Contents) (calls : List Call) (i : ℕ) (given : List Reply) (t : Contents) : Type 0 where
  pub answers : given ++ replies t (drop i calls) ≡ replies from calls
  pub contents : all_after t (drop i calls) ≡ all_after from calls

-- no call changes what a table has room for
after_room : (t : Contents) (call : Call) → (after t call).capacity ≡ t.capacity
after_room t Clear = refl
after_room t (At d i) = refl
after_room t (Count d) = refl
after_room t Places = refl
after_room t (Find n) = refl
after_room t (Add o) = cond_both (takes t o) _ t (λ u. u.capacity ≡ t.capacity) (λ _. refl) (λ _. refl)
after_room t (SetVolume n v) = cond_both (sets_volume n v t) _ t (λ u. u.capacity ≡ t.capacity) (λ _. refl) (λ _. refl)
after_room t (Remove n) = cond_both (held n t.book) _ t (λ u. u.capacity ≡ t.capacity) (λ _. refl) (λ _. refl)

pub all_after_room : (t : Contents) (calls : List Call) → (all_after t calls).capacity ≡ t.capacity
all_after_room t [] = refl
all_after_room t (call ∷ calls) = all_after_room (after t call) calls ∙ after_room t call

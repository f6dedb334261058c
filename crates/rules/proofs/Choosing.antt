-- What is picked is chosen of the list.
use Rattle.std.proofs.Common.{◌≡◌, Bool, true, false, List, [], ◌∷◌, Option, sym, refl, ◌∙◌, subst, arith}
use Rattle.std.specs.Cmp.{IsStrictWeakOrder}
use Rattle.std.specs.List.{best_of}
use Rattle.std.proofs.lemmas.List.MinMax.{IsFirstBest-from_best_of}
use Rattle.std.proofs.lemmas.List.{get_or_default}
use Rattle.rules.specs.Picking.{picked, Chosen}

module _ {X : Type 0} (precedes : X → X → Bool) (o : IsStrictWeakOrder precedes) where
  pub strict : (a : X) → precedes a a ≡ false
  strict a = grind (arith, o.one_way)

  chosen : (xs : List X) → Chosen precedes xs (picked precedes xs)
  chosen [] = refl
  chosen (a ∷ xs) =
      let f = IsFirstBest-from_best_of o a xs in
      (f.0, f.1, get_or_default (a ∷ xs) f.0 (best_of precedes a xs) a f.1.0 ∙ f.2)

-- the same by the laws of a trait
pub chosen_by_laws : {X : Type 0} (precedes : X → X → Bool) → ((a b : X) → precedes a b ≡ true → precedes b a ≡ false)
    → ((a b c : X) → precedes a b ≡ false → precedes b c ≡ false → precedes a c ≡ false)
    → (xs : List X) (found : Option X) → found ≡ picked precedes xs → Chosen precedes xs found
chosen_by_laws precedes oneway chain xs found e =
    subst (Chosen precedes xs) (sym e) (chosen precedes (record { one_way = oneway; chain = chain }) xs)

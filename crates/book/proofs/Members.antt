-- The members of a list by recursion, and what a side lists in these words.
use Rattle.std.proofs.Common.{◌≡◌, true, ◌⊎◌, List, [], ◌∷◌, Contains, refl, sym, subst, inl, inr}
use Rattle.std.specs.List.{AllByRecursion}
use Rattle.std.proofs.lemmas.List.Elements.{All-from_recursion, recursion_from_All, All-contains, All-contains_itself}
use Rattle.rules.specs.Rank.{before}
use Rattle.rules.specs.declared.order.Direction.{Direction}
use Rattle.rules.specs.declared.order.Order.{Order}
use Rattle.tables.specs.Listing.{in_rank}
use Rattle.book.specs.Exactly.{Lists}

-- x is an element of the list
abbrev pub Member : {X : Type 0} → X → List X → Type 0
Member x [] = ⊥
Member x (y ∷ ys) = (x ≡ y) ⊎ Member x ys

module _ {X : Type 0} (P : X → Type 0) where
  each : (xs : List X) → ((x : X) → Member x xs → P x) → AllByRecursion P xs
  each [] h = tt
  each (y ∷ ys) h = (h y (inl refl), each ys (λ x m. h x (inr m)))

  one_of : (xs : List X) → AllByRecursion P xs → (x : X) → Member x xs → P x
  one_of [] a x m = absurd m
  one_of (y ∷ ys) a x (inl e) = subst P (sym e) a.0
  one_of (y ∷ ys) a x (inr m) = one_of ys a.1 x m

pub member_of : {X : Type 0} (xs : List X) (x : X) → Contains xs x → Member x xs
member_of xs x c = All-contains (λ y. Member y xs) xs x (All-from_recursion (λ y. Member y xs) xs (each (λ y. Member y xs) xs (λ y m. m))) c

pub contains_of : {X : Type 0} (xs : List X) (x : X) → Member x xs → Contains xs x
contains_of xs x m = one_of (Contains xs) xs (recursion_from_All (Contains xs) xs (All-contains_itself xs)) x m

-- what a side lists, member by member
pub record Exactly (d : Direction) (P : Order → Type 0) (xs : List Order) : Type 0 where
  pub sorted : in_rank (before d) xs ≡ true
  pub sound : (o : Order) → Member o xs → P o
  pub complete : (o : Order) → P o → Member o xs

pub listing : {d : Direction} {P : Order → Type 0} {xs : List Order} → Lists d P xs → Exactly d P xs
listing {d} {P} {xs} l =
    record {
      sorted = l.sorted;
      sound = one_of P xs (recursion_from_All P xs l.sound);
      complete = λ o p. member_of xs o (l.complete o p);
    }

pub listed : {d : Direction} {P : Order → Type 0} {xs : List Order} → Exactly d P xs → Lists d P xs
listed {d} {P} {xs} l =
    record {
      sorted = l.sorted;
      sound = All-from_recursion P xs (each P xs l.sound);
      complete = λ o p. contains_of xs o (l.complete o p);
    }

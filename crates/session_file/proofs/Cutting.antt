-- The fields of a line, as they are cut off it one by one.
use Rattle.std.proofs.Common.{◌≡◌, ℕ, ◌+◌, ◌≤◌, suc, Bool, true, false, not, List, [], ◌∷◌, Option, Some, None, cond, eqb, length, refl, sym, arith, ◌<◌, inl, inr, lt-ltb, le-ltb, get_or, ◌∙◌, ap, ◌++◌, ltb, take, drop}
use Rattle.std.specs.Option.{is_some}
use Rattle.std.specs.List.{slice_split, onto_first, position_or_len, before_first, after_first}
use Rattle.std.proofs.lemmas.List.Splits.{slice_split_first}
use Rattle.std.proofs.lemmas.Bool.{cases_lt, eqb-true}
use Rattle.std.proofs.lemmas.List.{drop_more, take-append-drop}
use Rattle.std.proofs.lemmas.List.Sums.{prefix_len_stops}
use Rattle.session_file.specs.Cut.{is, cut, fields, fields_left, is_empty}
use denote.Ref.{Bor}

onto_first-full : (x : ℕ) (ps : List (List ℕ)) → is_empty (onto_first x ps) ≡ false
onto_first-full x [] = refl
onto_first-full x (p ∷ ps) = refl

pub is_empty-fields : (line : List ℕ) → is_empty (fields line) ≡ false
is_empty-fields [] = refl
is_empty-fields (b ∷ bs) =
    elim (eqb b 32) as (λ t. is_empty (cond t ([] ∷ fields bs) (onto_first b (fields bs))) ≡ false) [
      | true ↦ refl
      | false ↦ onto_first-full b (fields bs)
    ]

pub is_empty-left : (rest : Option (Bor (List ℕ))) (none : Bool) → is_some rest ≡ not none → none ≡ is_empty (fields_left rest)
is_empty-left None true e = refl
is_empty-left None false e = cc
is_empty-left (Some line) true e = cc
is_empty-left (Some line) false e = sym (is_empty-fields line.now)

pub slice_split_past : (p : ℕ → Bool) (xs : List ℕ) → length xs ≤ position_or_len p xs → slice_split p xs ≡ xs ∷ []
slice_split_past p [] h = refl
slice_split_past p (x ∷ xs) h =
    elim (p x) as (λ b. suc (length xs) ≤ cond (not b) (1 + position_or_len p xs) 0 → cond b ([] ∷ slice_split p xs) (onto_first x (slice_split p xs)) ≡ (x ∷ xs) ∷ []) [
      | true ↦ λ h'. absurd (omega arith)
      | false ↦ λ h'. let ih = slice_split_past p xs (omega arith) in rw ih refl
    ] h

pub fields_some : (line a b : List ℕ) → Some (a, b) ≡ cut 32 line → fields line ≡ a ∷ fields b
fields_some line a b e = let p = slice_split_first (is 32) line 0 in grind arith

pub fields_none : (line : List ℕ) → None ≡ cut 32 line → fields line ≡ line ∷ []
fields_none line e = let p = slice_split_past (is 32) line in grind arith

not_false : (b : Bool) → not b ≡ false → b ≡ true
not_false true e = refl
not_false false e = cc

pub cut_whole : (mark : ℕ) (line : List ℕ) → position_or_len (is mark) line < length line → line ≡ before_first (is mark) line ++ mark ∷ after_first (is mark) line
cut_whole mark line h =
    let i : ℕ = position_or_len (is mark) line in
    let stop : not (is mark (get_or line i 0)) ≡ false = prefix_len_stops (λ b. not (is mark b)) line 0 h in
    let mark : get_or line i 0 ≡ mark = eqb-true (get_or line i 0) mark (not_false (is mark (get_or line i 0)) stop) in
    let rest = drop_more line i 0 h in
    sym (take-append-drop i line) ∙ ap (λ (xs : List ℕ). take i line ++ xs) (rest ∙ ap (λ (b : ℕ). b ∷ drop (i + 1) line) mark)

none_some : {X : Type 0} (x : X) → None ≡ Some x → ⊥
none_some x e = cc

same_parts : (a b : List ℕ × List ℕ) → Some a ≡ Some b → a ≡ b
same_parts a b e = cc

-- what was cut at a mark is joined by it
pub cut_joins : (mark : ℕ) (text front back : List ℕ) → cut mark text ≡ Some (front, back) → text ≡ front ++ mark ∷ back
cut_joins mark text front back e =
    elim (cases_lt (position_or_len (is mark) text) (length text)) [
      | inl h ↦
          let t : ltb (position_or_len (is mark) text) (length text) ≡ true = lt-ltb _ _ h in
          let parts = same_parts (before_first (is mark) text, after_first (is mark) text) (front, back) (rw t at e) in
          cut_whole mark text h ∙ ap (λ (p : List ℕ × List ℕ). p.0 ++ mark ∷ p.1) parts
      | inr h ↦
          let t : ltb (position_or_len (is mark) text) (length text) ≡ false = le-ltb _ _ h in
          absurd (none_some (front, back) (rw t at e))
    ]

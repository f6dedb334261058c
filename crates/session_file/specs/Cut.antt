-- Text that is cut at a byte.
use Rattle.std.specs.Prelude.{◌≡◌, ℕ, ◌+◌, Bool, true, false, List, [], ◌∷◌, Option, Some, None, take, drop, ◌==◌}
use Rattle.std.specs.List.{position, slice_split}
use denote.Ref.{Bor}
use Rattle.session_file.specs.declared.fields.Fields.{Fields}

abbrev pub is : ℕ → ℕ → Bool
is mark b = b == mark

abbrev pub split_at : List ℕ → Option ℕ → Option (List ℕ × List ℕ)
split_at text None = None
split_at text (Some at) = Some (take at text, drop (at + 1) text)

-- what stands before the first mark, and what behind it
abbrev pub cut : ℕ → List ℕ → Option (List ℕ × List ℕ)
cut mark text = split_at text (position (is mark) text)

-- what two lent parts hold
abbrev pub parts : Option (Bor (List ℕ) × Bor (List ℕ)) → Option (List ℕ × List ℕ)
parts (Some p) = Some (p.0.now, p.1.now)
parts None = None

-- the fields between the spaces
abbrev pub fields : List ℕ → List (List ℕ)
fields line = slice_split (is 32) line

abbrev pub fields_left : Option (Bor (List ℕ)) → List (List ℕ)
fields_left (Some rest) = fields rest.now
fields_left None = []

abbrev pub left : Fields → List (List ℕ)
left f = fields_left f.rest

abbrev pub Taken : List (List ℕ) → Option (Bor (List ℕ)) → List (List ℕ) → Type 0
Taken before (Some field) after = before ≡ field.now ∷ after
Taken before None after = (before ≡ []) × (after ≡ [])

abbrev pub is_empty : List (List ℕ) → Bool
is_empty [] = true
is_empty (field ∷ behind) = false

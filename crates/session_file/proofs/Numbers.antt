-- What is read as a number is one, and the other way round.
use Rattle.std.proofs.Common.{lt-ltb, le-ltb, ne_eqb, inl, inr, Option, ◌≡◌, ℕ, ◌+◌, ◌*◌, ◌<◌, ◌≤◌, Bool, true, false, List, [], ◌∷◌, Some, None, cond, ltb, length, get_or, refl, sym, ◌∙◌, ap, arith}
use Rattle.std.specs.Char.{digit_value}
use Rattle.std.specs.Str.Parse.{AllDigits, digits_value_after}
use Rattle.std.specs.List.{All}
use Rattle.std.proofs.lemmas.Bool.{cases_lt}
use Rattle.std.proofs.lemmas.Bool.Decides.{nat_tests}
use Rattle.std.proofs.lemmas.List.Elements.{All-nil, All-cons}
use Rattle.session_file.specs.Cut.{is}
use Rattle.session_file.specs.Grammar.{Number}
use Rattle.session_file.specs.Reading.{read_after, is_sized, number_of}

some_same : (m n : ℕ) → Some m ≡ Some n → m ≡ n
some_same m n e = cc

none_some : (n : ℕ) → None ≡ Some n → ⊥
none_some n e = cc

sized_if_some : (b : Bool) (n : ℕ) (r : Option ℕ) → cond b r None ≡ Some n → b ≡ true
sized_if_some true n r e = refl
sized_if_some false n r e = absurd (none_some n e)

all_read : (n : ℕ) (cs : List ℕ) → AllDigits 10 cs → read_after n cs ≡ Some (digits_value_after 10 n cs)
all_read n [] d = refl
all_read n (c ∷ cs) d =
    let digit : ltb (digit_value c) 10 ≡ true = lt-ltb (digit_value c) 10 d.0 in
    rw digit (all_read (n * 10 + digit_value c) cs d.1)

pub record Digits (n m : ℕ) (cs : List ℕ) : Type 0 where
  pub digits : AllDigits 10 cs
  pub value : m ≡ digits_value_after 10 n cs

read_all : (n m : ℕ) (cs : List ℕ) → read_after n cs ≡ Some m → Digits n m cs
read_all n m [] e = record { digits = tt; value = sym (some_same n m e) }
read_all n m (c ∷ cs) e =
    elim (cases_lt (digit_value c) 10) [
      | inl h ↦
          let digit : ltb (digit_value c) 10 ≡ true = lt-ltb (digit_value c) 10 h in
          let rest = read_all (n * 10 + digit_value c) m cs (rw digit at e) in
          record { digits = (h, rest.digits); value = rest.value }
      | inr h ↦
          let other : ltb (digit_value c) 10 ≡ false = le-ltb (digit_value c) 10 h in
          let none : None ≡ Some m = rw other at e in
          absurd (none_some m none)
    ]

digit_high : (c : ℕ) → digit_value c < 10 → 48 ≤ c
digit_high c d =
    elim (cases_lt c 48) [
      | inl h ↦
          let low : ltb c 48 ≡ true = lt-ltb c 48 h in
          let much : digit_value c ≡ 36 = rw low refl in
          absurd (omega arith)
      | inr h ↦ h
    ]

-- no byte of the text is the mark
abbrev pub Free : ℕ → List ℕ → Type 0
Free mark text = All (λ b. is mark b ≡ false) text

no_mark : (mark : ℕ) → mark < 48 → (c : ℕ) → 48 ≤ c → is mark c ≡ false
no_mark mark low c h = ne_eqb c mark (λ e. omega (arith, e))

digits_free : (mark : ℕ) → mark < 48 → (cs : List ℕ) → AllDigits 10 cs → Free mark cs
digits_free mark low [] d = All-nil (λ b. is mark b ≡ false)
digits_free mark low (c ∷ cs) d =
    All-cons (λ b. is mark b ≡ false) c cs (no_mark mark low c (digit_high c d.0)) (digits_free mark low cs d.1)

pub number_free : (mark : ℕ) → mark < 48 → (n : ℕ) (field : List ℕ) → Number n field → Free mark field
number_free mark low n field h = digits_free mark low field h.digits.1

sized : (field : List ℕ) → 0 < length field → length field ≤ 9 → (get_or field 0 0 ≡ 48 → length field ≡ 1) → is_sized field ≡ true
sized field some nine zero = grind (arith, nat_tests)

size_some : (field : List ℕ) → is_sized field ≡ true → 0 < length field
size_some field s = grind (arith, nat_tests)

size_nine : (field : List ℕ) → is_sized field ≡ true → length field ≤ 9
size_nine field s = grind (arith, nat_tests)

size_zero : (field : List ℕ) → is_sized field ≡ true → get_or field 0 0 ≡ 48 → length field ≡ 1
size_zero field s z = grind (arith, nat_tests)

pub number_taken : (n : ℕ) (field : List ℕ) → Number n field → number_of field ≡ Some n
number_taken n field h =
    rw (sized field h.digits.0 h.at_most_nine h.no_leading_zero) (all_read 0 field h.digits.1 ∙ ap (λ (k : ℕ). Some k) (sym h.value))

pub number_found : (n : ℕ) (field : List ℕ) → number_of field ≡ Some n → Number n field
number_found n field e =
    let s : is_sized field ≡ true = sized_if_some (is_sized field) n (read_after 0 field) e in
    let d = read_all 0 n field (rw s at e) in
    record { digits = (size_some field s, d.digits); at_most_nine = size_nine field s; no_leading_zero = size_zero field s; value = d.value }

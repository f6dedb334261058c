-- A field of a line and the form that it is to have.
use Rattle.std.proofs.Common.{lit<, ne_eqb, subst, ◌<◌, ◌≡◌, ℕ, false, List, [], ◌∷◌, ◌++◌, Option, Some, None, inl, inr, ◌⊎◌, eqb, length, refl, ap, arith}
use Rattle.std.specs.Char.{digit_value}
use Rattle.std.specs.List.{position_or_len, before_first, after_first}
use Rattle.std.proofs.lemmas.List.Elements.{All-nil, All-cons}
use Rattle.std.proofs.lemmas.List.Splits.{slice_split_first, slice_split_none, slice_split_at}
use Rattle.std.proofs.lemmas.Bool.{cases_lt, cases_eq}
use Rattle.rules.specs.declared.order.Direction.{Direction}
use Rattle.rules.specs.declared.order.Direction.TheVariants.{Buy, Sell}
use Rattle.session_file.specs.Cut.{is, fields}
use Rattle.session_file.specs.Grammar.{Number, Text, Side, Price, Spaced}
use Rattle.session_file.specs.Reading.{letter_of, number_of, side_of, limit_of, as_limit, lettered_side, onward, taking}
use Rattle.session_file.proofs.Cutting.{cut_whole, slice_split_past}
use Rattle.session_file.proofs.Numbers.{number_found, number_taken, Free, number_free}

-- what has this form is read as x, and has no space
pub record Takes {X : Type 0} (read : List ℕ → Option X) (x : X) (Form : List ℕ → Type 0) : Type 0 where
  pub taken : (field : List ℕ) → Form field → read field ≡ Some x
  pub unspaced : (field : List ℕ) → Form field → Free 32 field

pub letter_free : (mark c : ℕ) (field : List ℕ) → is mark c ≡ false → field ≡ c ∷ [] → Free mark field
letter_free mark c field s e = rw e (All-cons (λ b. is mark b ≡ false) c [] s (All-nil (λ b. is mark b ≡ false)))

pub letter_takes : (c : ℕ) → is 32 c ≡ false → Takes letter_of c (Text (c ∷ []))
letter_takes c s = record { taken = λ field e. rw e refl; unspaced = λ field e. letter_free 32 c field s e }

pub number_takes : (n : ℕ) → Takes number_of n (Number n)
number_takes n = record { taken = number_taken n; unspaced = number_free 32 (lit< tt) n }

pub side_takes : (side : Direction) → Takes side_of side (Side side)
side_takes Buy = record { taken = λ field e. rw e refl; unspaced = λ field e. letter_free 32 66 field refl e }
side_takes Sell = record { taken = λ field e. rw e refl; unspaced = λ field e. letter_free 32 83 field refl e }

not_market : (n c : ℕ) → Number n (c ∷ []) → eqb c 77 ≡ false
not_market n c h = ne_eqb c 77 (λ e. let d : digit_value 77 < 10 = rw e at h.digits.1.0 in omega (arith, d))

number_limit : (n : ℕ) (field : List ℕ) → Number n field → limit_of field ≡ Some (Some n)
number_limit n [] h = absurd (omega (arith, h.digits.0))
number_limit n (c ∷ []) h = rw (not_market n c h) (ap as_limit (number_taken n (c ∷ []) h))
number_limit n (c ∷ d ∷ cs) h = ap as_limit (number_taken n (c ∷ d ∷ cs) h)

pub limit_takes : (price : Option ℕ) → Takes limit_of price (Price price)
limit_takes None = record { taken = λ field e. rw e refl; unspaced = λ field e. letter_free 32 77 field refl e }
limit_takes (Some n) = record { taken = number_limit n; unspaced = number_free 32 (lit< tt) n }

some_side : (a b : Direction) → Some a ≡ Some b → a ≡ b
some_side a b e = cc

some_price : (a b : Option ℕ) → Some a ≡ Some b → a ≡ b
some_price a b e = cc

-- what is read has the form
pub letter_found : (c : ℕ) (field : List ℕ) → letter_of field ≡ Some c → field ≡ c ∷ []
letter_found c [] e = cc
letter_found c (b ∷ []) e = cc
letter_found c (b ∷ d ∷ bs) e = cc

lettered_side_found : (side : Direction) (c : ℕ) → lettered_side c ≡ Some side → Side side (c ∷ [])
lettered_side_found side c e =
    elim (cases_eq c 66) [
      | inl b ↦
          let is_buy : Some Buy ≡ Some side = rw b at e in
          subst (λ d. Side d (c ∷ [])) (some_side Buy side is_buy) (rw b refl)
      | inr nb ↦
          let no : eqb c 66 ≡ false = ne_eqb c 66 nb in
          elim (cases_eq c 83) [
            | inl s ↦
                let is_sell : Some Sell ≡ Some side = rw s at e in
                subst (λ d. Side d (c ∷ [])) (some_side Sell side is_sell) (rw s refl)
            | inr ns ↦
                let no_sell : eqb c 83 ≡ false = ne_eqb c 83 ns in
                let none : None ≡ Some side = rw (no, no_sell) at e in
                cc
          ]
    ]

pub side_found : (side : Direction) (field : List ℕ) → side_of field ≡ Some side → Side side field
side_found side [] e = cc
side_found side (c ∷ []) e = lettered_side_found side c e
side_found side (c ∷ d ∷ cs) e = cc

numbered_found : (price : Option ℕ) (field : List ℕ) (read : Option ℕ) → number_of field ≡ read → as_limit read ≡ Some price → Price price field
numbered_found price field None r e = cc
numbered_found price field (Some n) r e = subst (λ p. Price p field) (some_price (Some n) price e) (number_found n field r)

pub limit_found : (price : Option ℕ) (field : List ℕ) → limit_of field ≡ Some price → Price price field
limit_found price [] e = numbered_found price [] (number_of []) refl e
limit_found price (c ∷ []) e =
    elim (cases_eq c 77) [
      | inl m ↦
          let market : Some None ≡ Some price = rw m at e in
          subst (λ p. Price p (c ∷ [])) (some_price None price market) (rw m refl)
      | inr n ↦
          let no : eqb c 77 ≡ false = ne_eqb c 77 n in
          numbered_found price (c ∷ []) (number_of (c ∷ [])) refl (rw no at e)
    ]
limit_found price (c ∷ d ∷ cs) e = numbered_found price (c ∷ d ∷ cs) (number_of (c ∷ d ∷ cs)) refl e

module _ {X Y : Type 0} (read : List ℕ → Option X) (x : X) (Form : List ℕ → Type 0) (t : Takes read x Form) (next : X → List (List ℕ) → Option Y) where
  pub past_first : (Next : List ℕ → Type 0) (line : List ℕ) (s : Spaced Form Next line) → taking read (fields line) next ≡ next x (fields s.rest)
  past_first Next line s =
      let cut : fields line ≡ s.field ∷ fields s.rest = rw s.whole (slice_split_at (is 32) s.field 32 s.rest (t.unspaced s.field s.first) refl) in
      let got : read s.field ≡ Some x = t.taken s.field s.first in
      rw cut (rw got refl)

  pub past_last : (line : List ℕ) → Form line → taking read (fields line) next ≡ next x []
  past_last line f =
      let cut : fields line ≡ line ∷ [] = slice_split_none (is 32) line (t.unspaced line f) in
      let got : read line ≡ Some x = t.taken line f in
      rw cut (rw got refl)

-- the first field was read as x, and what is behind it goes on to y
pub record More {X Y : Type 0} (read : List ℕ → Option X) (next : X → List (List ℕ) → Option Y) (y : Y) (line : List ℕ) : Type 0 where
  pub x : X
  pub field : List ℕ
  pub rest : List ℕ
  pub got : read field ≡ Some x
  pub whole : line ≡ field ++ 32 ∷ rest
  pub then : next x (fields rest) ≡ Some y

-- or it is the only one
pub record Last {X Y : Type 0} (read : List ℕ → Option X) (next : X → List (List ℕ) → Option Y) (y : Y) (line : List ℕ) : Type 0 where
  pub x : X
  pub got : read line ≡ Some x
  pub then : next x [] ≡ Some y

module _ {X Y : Type 0} (read : List ℕ → Option X) (next : X → List (List ℕ) → Option Y) (y : Y) where
  onward_found : (got : Option X) (fs : List (List ℕ)) → onward got (λ x. next x fs) ≡ Some y → (x : X) × (got ≡ Some x) × (next x fs ≡ Some y)
  onward_found None fs e = cc
  onward_found (Some x) fs e = (x, refl, e)

  pub one_or_more : (line : List ℕ) → taking read (fields line) next ≡ Some y → More read next y line ⊎ Last read next y line
  one_or_more line e =
      elim (cases_lt (position_or_len (is 32) line) (length line)) [
        | inl h ↦
            let cut = slice_split_first (is 32) line 0 h in
            let f = onward_found (read (before_first (is 32) line)) (fields (after_first (is 32) line)) (rw cut at e) in
            inl (record { x = f.0; field = before_first (is 32) line; rest = after_first (is 32) line; got = f.1; whole = cut_whole 32 line h; then = f.2 })
        | inr h ↦
            let cut = slice_split_past (is 32) line h in
            let f = onward_found (read line) [] (rw cut at e) in
            inr (record { x = f.0; got = f.1; then = f.2 })
      ]

-- How a line is read. That this is the grammar is promised beside it, of `read_number` and `read_call`.
use Rattle.std.specs.Prelude.{ℕ, ◌+◌, ◌*◌, Bool, List, [], ◌∷◌, Option, Some, None, length, slice_index, nat_lt, nat_le, ◌==◌, ◌&&◌, not, if◌then◌else◌}
use Rattle.std.specs.Char.{digit_value}
use Rattle.rules.specs.declared.order.Direction.{Direction}
use Rattle.rules.specs.declared.order.Direction.TheVariants.{Buy, Sell}
use Rattle.book.specs.declared.call.Call.{Call}
use Rattle.book.specs.declared.call.Call.TheVariants.{Enter, Alter, Withdraw, Advance}
use Rattle.session_file.specs.Cut.{fields, is_empty}

-- the number that the digits write behind those of n, if all are digits
abbrev pub read_after : ℕ → List ℕ → Option ℕ
read_after n [] = Some n
read_after n (c ∷ cs) = if nat_lt (digit_value c) 10 then read_after (n * 10 + digit_value c) cs else None

abbrev pub has_leading_zero : List ℕ → Bool
has_leading_zero field = (slice_index field 0 == 48) && nat_lt 1 (length field)

abbrev pub is_sized : List ℕ → Bool
is_sized field = nat_lt 0 (length field) && nat_le (length field) 9 && not (has_leading_zero field)

abbrev pub number_of : List ℕ → Option ℕ
number_of field = if is_sized field then read_after 0 field else None

abbrev pub letter_of : List ℕ → Option ℕ
letter_of [] = None
letter_of (c ∷ []) = Some c
letter_of (c ∷ d ∷ cs) = None

abbrev pub onward : {X Y : Type 0} → Option X → (X → Option Y) → Option Y
onward None f = None
onward (Some x) f = f x

abbrev pub lettered_side : ℕ → Option Direction
lettered_side c = if c == 66 then Some Buy else (if c == 83 then Some Sell else None)

abbrev pub side_of : List ℕ → Option Direction
side_of field = onward (letter_of field) lettered_side

-- a price is a limit
abbrev pub as_limit : Option ℕ → Option (Option ℕ)
as_limit None = None
as_limit (Some n) = Some (Some n)

abbrev pub limit_or : Option ℕ → Option (Option ℕ) → Option (Option ℕ)
limit_or None other = other
limit_or (Some c) other = if c == 77 then Some None else other

abbrev pub limit_of : List ℕ → Option (Option ℕ)
limit_of field = limit_or (letter_of field) (as_limit (number_of field))

-- the first field, and what follows from it and the fields behind it
abbrev pub taking : {X Y : Type 0} → (List ℕ → Option X) → List (List ℕ) → (X → List (List ℕ) → Option Y) → Option Y
taking read [] next = None
taking read (field ∷ behind) next = onward (read field) (λ x. next x behind)

-- the call, if no field is left
abbrev pub alone : List (List ℕ) → Call → Option Call
alone fs call = if is_empty fs then Some call else None

abbrev pub enter_of : List (List ℕ) → Option Call
enter_of fs = taking number_of fs (λ m fs. taking side_of fs (λ s fs. taking limit_of fs (λ p fs. taking number_of fs (λ v fs.
    alone fs (Enter (record { member = m; direction = s; limit = p; volume = v }))))))

abbrev pub alter_of : List (List ℕ) → Option Call
alter_of fs = taking number_of fs (λ m fs. taking number_of fs (λ n fs. taking number_of fs (λ p fs. taking number_of fs (λ v fs.
    alone fs (Alter (record { member = m; number = n; price = p; volume = v }))))))

abbrev pub withdraw_of : List (List ℕ) → Option Call
withdraw_of fs = taking number_of fs (λ m fs. taking number_of fs (λ n fs. alone fs (Withdraw (record { member = m; number = n }))))

abbrev pub advance_of : List (List ℕ) → Option Call
advance_of fs = alone fs Advance

-- by the letter E, A, W or N
abbrev pub lettered_call : ℕ → List (List ℕ) → Option Call
lettered_call c fs =
    if c == 69 then enter_of fs else (if c == 65 then alter_of fs else (if c == 87 then withdraw_of fs else (if c == 78 then advance_of fs else None)))

abbrev pub call_of : List ℕ → Option Call
call_of line = taking letter_of (fields line) lettered_call

-- A number is read as it is printed.
use Rattle.std.proofs.Common.{inl, inr, ◌≡◌, ℕ, ◌^◌, ◌<◌, length, get_or, sym, refl, arith, lit<}
use Rattle.std.specs.Fmt.{decimal}
use Rattle.std.proofs.lemmas.Bool.{cases_lt}
use Rattle.std.proofs.lemmas.Fmt.{decimal_is_IsNumeral, decimal_digit, length-decimal-le, first_decimal}
use Rattle.session_file.specs.Laws.{PrintedRead}

no_zero : (n : ℕ) → n < 2 ^ 64 → get_or (decimal n) 0 0 ≡ 48 → length (decimal n) ≡ 1
no_zero n h e =
    elim (cases_lt 0 n) [
      | inl some ↦ let first = first_decimal n some h in absurd (omega (arith, e, first))
      | inr none ↦ let zero : n ≡ 0 = omega arith in rw zero (rw (decimal_digit 0 (lit< tt)) refl)
    ]

pub printed_read : PrintedRead
printed_read n h =
    let small : n < 2 ^ 64 = omega (arith, h) in
    let numeral = decimal_is_IsNumeral n small in
    record { digits = numeral.0; at_most_nine = length-decimal-le 9 n (lit< tt) h small; no_leading_zero = no_zero n small; value = sym numeral.1 }

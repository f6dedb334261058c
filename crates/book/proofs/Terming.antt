-- What an accepted reference price and block keep.
use Rattle.std.proofs.Common.{◌≡◌, ℕ, ◌≤◌, true, nat_le, arith}
use Rattle.std.proofs.lemmas.Bool.{and_parts, leb-true}
use Rattle.rules.specs.Band.{within, lowest, highest}

pub is_within : (low high n : ℕ) → within low high n ≡ true → (low ≤ n) × (n ≤ high)
is_within low high n e =
    let both = and_parts (nat_le low n) (nat_le n high) e in
    (leb-true low n both.0, leb-true n high both.1)

pub lowest_below : (low high r : ℕ) → 1 ≤ low → within low high r ≡ true → lowest r ≤ r
lowest_below low high r h e = omega (arith, h, (is_within low high r e).0)

pub highest_above : (r : ℕ) → r ≤ highest r
highest_above r = omega arith

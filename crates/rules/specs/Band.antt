-- The band of prices around a reference price: 30 percent below and above it, rounded to the nearest ban.
use Rattle.std.specs.Prelude.{ℕ, ◌+◌, ◌*◌, ◌/◌, Bool, ◌&&◌, nat_le}

abbrev pub lowest : ℕ → ℕ
lowest r = (7 * r + 5) / 10

abbrev pub highest : ℕ → ℕ
highest r = (13 * r + 5) / 10

abbrev pub band : ℕ → ℕ × ℕ
band r = (lowest r, highest r)

-- n is at least low and at most high
abbrev pub within : ℕ → ℕ → ℕ → Bool
within low high n = nat_le low n && nat_le n high

-- The terms of a reference price and a block, or the number of their refusal.
use Rattle.std.specs.Prelude.{◌≡◌, ℕ, Bool, true, false, Result, Ok, Err, refl}
use Rattle.rules.specs.Band.{within, lowest, highest}
use Rattle.rules.specs.declared.terms.Terms.{Terms}
use Rattle.book.proofs.Terming.{is_within, lowest_below, highest_above}

abbrev pub terms_with : (r b : ℕ) → within 1 1000000 r ≡ true → within 1 10000 b ≡ true → Terms
terms_with r b p q =
    record {
      reference = r;
      block = b;
      lo = lowest r;
      hi = highest r;
      priced = is_within 1 1000000 r p;
      blocked = is_within 1 10000 b q;
      floor = refl;
      ceiling = refl;
      low = lowest_below 1 1000000 r (is_within 1 1 1 refl).0 p;
      high = highest_above r;
    }

abbrev pub judged : (r b : ℕ) (x y : Bool) → within 1 1000000 r ≡ x → within 1 10000 b ≡ y → Result Terms ℕ
judged r b false y p q = Err 1
judged r b true false p q = Err 2
judged r b true true p q = Ok (terms_with r b p q)

-- the reference price is looked at first
abbrev pub terms_from : ℕ → ℕ → Result Terms ℕ
terms_from r b = judged r b (within 1 1000000 r) (within 1 10000 b) refl refl

-- Terms are those that their reference price and block give.
use Rattle.std.proofs.Common.{◌≡◌, ℕ, ◌≤◌, Bool, true, false, cond, Ok, Err, Result, refl, sym, ap, ◌∙◌}
use mathlib.Core.HLevel.{is_prop→PathP}
use Rattle.std.proofs.Math.Bridge.{le_prop}
use Rattle.std.proofs.Math.Nat.{ℕ_set}
use Rattle.rules.specs.Band.{within, lowest, highest}
use Rattle.rules.specs.Terms as terms
use Rattle.rules.specs.declared.refusal.Refusal.{Refusal}
use Rattle.rules.specs.declared.terms.Terms.{Terms}
use Rattle.market.specs.Outcome.{by_number}
use Rattle.session_file.specs.Laws.{figures, TermsByTheRules}
use Rattle.session_file.specs.Opening.{judged, terms_from}

terms_same : (u t : Terms) → u.reference ≡ t.reference → u.block ≡ t.block → u.lo ≡ t.lo → u.hi ≡ t.hi → u ≡ t
terms_same u t r b l h =
    λ i. record {
      reference = r i;
      block = b i;
      lo = l i;
      hi = h i;
      priced = is_prop→PathP (λ i. (1 ≤ r i) × (r i ≤ 1000000)) (λ i. hlevel (le_prop, ℕ_set)) u.priced t.priced i;
      blocked = is_prop→PathP (λ i. (1 ≤ b i) × (b i ≤ 10000)) (λ i. hlevel (le_prop, ℕ_set)) u.blocked t.blocked i;
      floor = is_prop→PathP (λ i. l i ≡ lowest (r i)) (λ i. hlevel (le_prop, ℕ_set)) u.floor t.floor i;
      ceiling = is_prop→PathP (λ i. h i ≡ highest (r i)) (λ i. hlevel (le_prop, ℕ_set)) u.ceiling t.ceiling i;
      low = is_prop→PathP (λ i. l i ≤ r i) (λ i. hlevel (le_prop, ℕ_set)) u.low t.low i;
      high = is_prop→PathP (λ i. r i ≤ h i) (λ i. hlevel (le_prop, ℕ_set)) u.high t.high i;
    }

abbrev reference_of : terms.TermsAnswer → ℕ
reference_of (terms.refused n) = n
reference_of (terms.made r b lo hi) = r

abbrev block_of : terms.TermsAnswer → ℕ
block_of (terms.refused n) = 0
block_of (terms.made r b lo hi) = b

abbrev low_of : terms.TermsAnswer → ℕ
low_of (terms.refused n) = 0
low_of (terms.made r b lo hi) = lo

abbrev high_of : terms.TermsAnswer → ℕ
high_of (terms.refused n) = 0
high_of (terms.made r b lo hi) = hi

abbrev is_made : terms.TermsAnswer → Bool
is_made (terms.refused n) = false
is_made (terms.made r b lo hi) = true

unmade : (x y : terms.TermsAnswer) → x ≡ y → is_made x ≡ true → is_made y ≡ false → ⊥
unmade x y e p q = let z : true ≡ false = sym p ∙ ap is_made e ∙ q in cc

module _ (r b : ℕ) where
  found : (x y : Bool) (p : within 1 1000000 r ≡ x) (q : within 1 10000 b ≡ y) (res : Result Terms Refusal) →
      terms.terms_answer res ≡ cond x (cond y (terms.made r b (lowest r) (highest r)) (terms.refused 2)) (terms.refused 1) → by_number res ≡ judged r b x y p q
  found true true p q (Ok t) e = ap Ok (terms_same t _ (ap reference_of e) (ap block_of e) (ap low_of e) (ap high_of e))
  found true true p q (Err f) e = absurd (unmade _ _ (sym e) refl refl)
  found true false p q (Ok t) e = absurd (unmade _ _ e refl refl)
  found true false p q (Err f) e = ap (λ o. Err (reference_of o)) e
  found false y p q (Ok t) e = absurd (unmade _ _ e refl refl)
  found false y p q (Err f) e = ap (λ o. Err (reference_of o)) e

  pub terms_found : (res : Result Terms Refusal) → terms.terms_answer res ≡ terms.terms_of r b → by_number res ≡ terms_from r b
  terms_found res e = found (within 1 1000000 r) (within 1 10000 b) refl refl res e

by_rules : (r b : ℕ) (x y : Bool) (p : within 1 1000000 r ≡ x) (q : within 1 10000 b ≡ y) → figures (judged r b x y p q) ≡ cond x (cond y (terms.made r b (lowest r) (highest r)) (terms.refused 2)) (terms.refused 1)
by_rules r b true true p q = refl
by_rules r b true false p q = refl
by_rules r b false y p q = refl

pub terms_by_rules : TermsByTheRules
terms_by_rules r b = by_rules r b (within 1 1000000 r) (within 1 10000 b) refl refl

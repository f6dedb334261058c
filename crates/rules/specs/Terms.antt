-- What comes of asking for terms: a refusal's number, or terms with these figures.
use Rattle.std.specs.Prelude.{ℕ, cond, Ok, Err, Result}
use Rattle.rules.specs.Band.{within, lowest, highest}
use Rattle.rules.specs.Refusal.{number}
use Rattle.rules.specs.declared.terms.Terms.{Terms}
use Rattle.rules.specs.declared.refusal.Refusal.{Refusal}

-- a refusal by its number, or the figures of the terms
pub data TermsAnswer : Type 0 where
  refused : ℕ → TermsAnswer
  -- reference, block, lowest and highest price
  made : ℕ → ℕ → ℕ → ℕ → TermsAnswer

-- the same of a result
abbrev pub terms_answer : Result Terms Refusal → TermsAnswer
terms_answer (Ok t) = made t.reference t.block t.lo t.hi
terms_answer (Err e) = refused (number e)

-- the reference is looked at first
abbrev pub terms_of : ℕ → ℕ → TermsAnswer
terms_of r b = cond (within 1 1000000 r) (cond (within 1 10000 b) (made r b (lowest r) (highest r)) (refused 2)) (refused 1)

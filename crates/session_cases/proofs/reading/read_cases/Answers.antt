use Rattle.std.proofs.Common.{◌≡◌, refl, ap, sym, ◌∙◌, ◌+◌, ℕ, List, [], ◌∷◌, fold, cond}
use Rattle.std.specs.List.{enumerate_from}
use Rattle.std.specs.Str.Lines.{lines}
use Rattle.std.proofs.lemmas.Iterator.Consumers.{YieldsList-end, YieldsList-from_enumerate}
use Rattle.std.proofs.lemmas.List.Folds.{fold-map}
use Rattle.std.proofs.lemmas.Iterator.Splits.{YieldsList-from_lines}
use Rattle.session_cases.specs.Reading.{begins_case}
use Rattle.session_cases.proofs.reading.read_cases.Goals as goal

fold-enumerate_from : {A X : Type 0} (f : A → X → A) (a : A) (n : ℕ) → (xs : List X) → fold (λ b p. f b p.1) a (enumerate_from n xs) ≡ fold f a xs
fold-enumerate_from f a n [] = refl
fold-enumerate_from f a n (x ∷ xs) = fold-enumerate_from f (f a x) (n + 1) xs

-- one more for each line that begins a case
abbrev counts : ℕ → List ℕ → ℕ
counts n line = n + cond (begins_case line) 1 0

-- the lines that were gone over are those of the input
pub returns-2 : goal.returns-2
returns-2 c =
    let chain = YieldsList-from_enumerate (YieldsList-from_lines c.args.input.now (cc)) (cc) in
    let all = YieldsList-end chain c.loop-before.yielded _ c.loop-before.yielded_by _ _ c.in-None.is c.next.ensures.steps in
    c.loop-before.invariant
    ∙ (sym (fold-map (λ n p. counts n p.1) (λ p. (p.0, p.1.now)) 0 c.loop-before.yielded)
    ∙ (ap (λ ls. fold (λ n p. counts n p.1) 0 ls) all.0
    ∙ fold-enumerate_from counts 0 0 (lines c.args.input.now)))

-- A line that is next is read as its form says, and the other way round.
use Rattle.std.proofs.Common.{◌≡◌, ℕ, ◌+◌, List, ◌∷◌, ◌++◌, Option, None, Some, Result, Ok, Err, refl, sym, ◌∙◌, ap}
use Rattle.session_file.specs.declared.fault.Fault.{Fault}
use Rattle.session_file.specs.Cut.{cut}
use Rattle.session_file.specs.Reading.{number_of, call_of}
use Rattle.session_file.specs.Laws.{NumbersRead, CallsRead}
use Rattle.session_file.specs.Lines.{Ahead, cut_line, first_line, or_broken, ◌>>=◌}
use Rattle.session_file.proofs.Cutting.{cut_joins}
use Rattle.session_file.proofs.Numbers.{Free, number_found, number_taken}
use Rattle.session_file.proofs.Calls.{call_found, call_taken}
use Rattle.session_file.proofs.Whole.{behind, line_read, line_free, numbers_free}

-- where a line was read as x, and what is left behind it
record Read {X : Type 0} (read : List ℕ → Option X) (x : X) (ahead left : Ahead) : Type 0 where
  line : List ℕ
  got : read line ≡ Some x
  whole : ahead.text ≡ line ++ 10 ∷ left.text
  counted : left.line ≡ ahead.line + 1

module _ {X : Type 0} (read : List ℕ → Option X) (x : X) (a b : Ahead) where
  err_ok : (fault : Fault) → ◌≡◌ {A = Result (X × Ahead) Fault} (Err fault) (Ok (x, b)) → ⊥
  err_ok fault e = cc

  same_pair : (p q : X × Ahead) → ◌≡◌ {A = Result (X × Ahead) Fault} (Ok p) (Ok q) → p ≡ q
  same_pair p q e = cc

  same_ok : (y : X) (c : Ahead) → ◌≡◌ {A = Result (X × Ahead) Fault} (Ok (y, c)) (Ok (x, b)) → (y ≡ x) × (c ≡ b)
  same_ok y c e =
      let same = same_pair (y, c) (x, b) e in
      (ap (λ (p : X × Ahead). p.0) same, ap (λ (p : X × Ahead). p.1) same)

  found_or : (got : Option X) (c : Ahead) → or_broken a.line got c ≡ Ok (x, b) → (got ≡ Some x) × (c ≡ b)
  found_or None c e = cc
  found_or (Some y) c e = let s = same_ok y c e in (ap (λ (z : X). Some z) s.0, s.1)

  found_cut : (parts : Option (List ℕ × List ℕ)) → cut 10 a.text ≡ parts → (cut_line a.line parts >>= λ l. or_broken a.line (read l.0) l.1) ≡ Ok (x, b) → Read read x a b
  found_cut None c e = cc
  found_cut (Some p) c e =
      let f = found_or (read p.0) (record { line = a.line + 1; text = p.1 }) e in
      let left : p.1 ≡ b.text = ap (λ (l : Ahead). l.text) f.1 in
      record {
        line = p.0;
        got = f.0;
        whole = cut_joins 10 a.text p.0 p.1 c ∙ ap (λ (t : List ℕ). p.0 ++ 10 ∷ t) left;
        counted = sym (ap (λ (l : Ahead). l.line) f.1);
      }

  line_found : (first_line a >>= λ l. or_broken a.line (read l.0) l.1) ≡ Ok (x, b) → Read read x a b
  line_found e = found_cut (cut 10 a.text) refl e

  begun_read : (line : List ℕ) → a.text ≡ line ++ 10 ∷ b.text → b.line ≡ a.line + 1 → Free 10 line → read line ≡ Some x → (first_line a >>= λ l. or_broken a.line (read l.0) l.1) ≡ Ok (x, b)
  unfolding behind
  begun_read line whole counted free got =
      let same : behind a b.text ≡ b = ap (λ (k : ℕ). record { line = k; text = b.text }) (sym counted) in
      line_read read x a line b.text whole free got ∙ ap (λ (c : Ahead). Ok (x, c)) same

pub numbers_read : NumbersRead
numbers_read n a b = (
  λ e. let f = line_found number_of n a b e in record { line = f.line; first = number_found n f.line f.got; whole = f.whole; counted = f.counted },
  λ s. begun_read number_of n a b s.line s.whole s.counted (numbers_free n s.line s.first) (number_taken n s.line s.first),
)

pub calls_read : CallsRead
calls_read call a b = (
  λ e. let f = line_found call_of call a b e in record { line = f.line; first = call_found call f.line f.got; whole = f.whole; counted = f.counted },
  λ s. begun_read call_of call a b s.line s.whole s.counted (line_free call s.line s.first) (call_taken call s.line s.first),
)

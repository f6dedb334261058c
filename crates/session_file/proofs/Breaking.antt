-- A file that breaks its form is answered by the line where it does.
use Rattle.std.proofs.Common.{◌≡◌, ℕ, zero, suc, ◌+◌, ◌-◌, ◌≤◌, ◌==◌, nat_le, true, false, List, [], ◌∷◌, ◌++◌, Option, Some, None, Result, Ok, Err, length, refl, sym, ap, subst, ◌∙◌, append_assoc, if◌then◌else◌, arith}
use Rattle.std.proofs.lemmas.Bool.{le-leb, lt-leb, ne_eqb}
use Rattle.rules.specs.declared.terms.Terms.{Terms}
use Rattle.tables.specs.Meaning.{Capacity}
use Rattle.book.specs.declared.call.Call.{Call}
use Rattle.book.specs.Marks.{Session, new_session}
use Rattle.book.specs.Model.{result}
use Rattle.session_file.specs.declared.fault.Fault.{Fault}
use Rattle.session_file.specs.Cut.{cut}
use Rattle.session_file.specs.Grammar.{Number, Line}
use Rattle.session_file.specs.Reading.{number_of, call_of}
use Rattle.session_file.specs.Lines.{Ahead, broken, cut_line, first_line, or_broken, ◌>>=◌, number_line, call_line, terms_section, ending}
use Rattle.session_file.specs.Files.{Stacked}
use Rattle.session_file.specs.Answered.{verdict_text, outcome_over, session_after_call, reading, calls_text, under, calls_section_text, file_text}
use Rattle.session_file.specs.Gathered.{text_in_turn}
use Rattle.session_file.specs.Opening.{terms_from}
use Rattle.session_file.specs.Broken.{Without, NoNumber, BrokenTerms, BrokenNext, CallsThen, fault_text, BrokenInTurn}
use Rattle.session_file.proofs.Begun.{numbers_read, calls_read}
use Rattle.session_file.proofs.Calls.{call_taken}
use Rattle.session_file.proofs.Whole.{behind, line_read, line_free, number_read, terms_read}

-- One line ------------------------------------------------------------------------------------------------------------------

module _ {X : Type 0} (read : List ℕ → Option X) (a : Ahead) where
  abbrev from : Option (List ℕ × List ℕ) → Result (X × Ahead) Fault
  from parts = cut_line a.line parts >>= λ l. or_broken a.line (read l.0) l.1

  abbrev Right : Result (X × Ahead) Fault → Type 0
  Right (Ok p) = Unit {0}
  Right (Err fault) = fault ≡ broken a.line

  or_right : (got : Option X) (b : Ahead) → Right (or_broken a.line got b)
  or_right None b = refl
  or_right (Some x) b = tt

  from_right : (parts : Option (List ℕ × List ℕ)) → Right (from parts)
  from_right None = refl
  from_right (Some p) = or_right (read p.0) (record { line = a.line + 1; text = p.1 })

  -- a line that cannot be read is broken where it stands
  faulty : (r : Result (X × Ahead) Fault) → Right r → ((p : X × Ahead) → r ≡ Ok p → ⊥) → r ≡ Err (broken a.line)
  faulty (Ok p) h never = absurd (never p refl)
  faulty (Err fault) h never = ap Err h

  pub line_fault : ((p : X × Ahead) → (first_line a >>= λ l. or_broken a.line (read l.0) l.1) ≡ Ok p → ⊥) → (first_line a >>= λ l. or_broken a.line (read l.0) l.1) ≡ Err (broken a.line)
  line_fault never = faulty (from (cut 10 a.text)) (from_right (cut 10 a.text)) never

number_fault : (a : Ahead) → NoNumber a.text → number_line a ≡ Err (broken a.line)
number_fault a none =
    line_fault number_of a (λ p e. let s = (numbers_read p.0 a p.1).0 e in none p.0 s.line p.1.text s.first s.whole)

call_fault : (a : Ahead) → ((call : Call) → Without (Line call) a.text) → call_line a ≡ Err (broken a.line)
call_fault a none =
    line_fault call_of a (λ p e. let s = (calls_read p.0 a p.1).0 e in none p.0 s.line p.1.text s.first s.whole)

-- The first section ---------------------------------------------------------------------------------------------------------

abbrev behind_count : ℕ → ℕ × Ahead → Result (ℕ × Ahead) Fault
behind_count line count = if count.0 == 2 then Ok count else Err (broken line)

-- no count 2 is next
count_fault : (a : Ahead) → Without (Number 2) a.text → terms_section a ≡ Err (broken a.line)
count_fault a none = go (number_line a) refl (from_right number_of a (cut 10 a.text))
  where
    go : (r : Result (ℕ × Ahead) Fault) → number_line a ≡ r → Right number_of a (number_line a) → terms_section a ≡ Err (broken a.line)
    go (Err fault) e h =
        let here : Right number_of a (Err fault) = rw e at h in
        rw e (ap Err here)
    go (Ok p) e h =
        let s = (numbers_read p.0 a p.1).0 e in
        let differs : (p.0 == 2) ≡ false = ne_eqb p.0 2 (λ two. none s.line p.1.text (subst (λ n. Number n s.line) two s.first) s.whole) in
        rw (e, differs) refl

module _ (a : Ahead) where
  reference_fault : (s : Stacked (Number 2) NoNumber a.text) → terms_section a ≡ Err (broken (a.line + 1))
  unfolding behind
  reference_fault s =
      let one = number_read 2 NoNumber a s in
      let two = number_fault (behind a s.rest) s.next in
      rw one (rw two refl)

  block_fault : (r : ℕ) (s : Stacked (Number 2) (Stacked (Number r) NoNumber) a.text) → terms_section a ≡ Err (broken (a.line + 1 + 1))
  unfolding behind
  block_fault r s =
      let one = number_read 2 (Stacked (Number r) NoNumber) a s in
      let two = number_read r NoNumber (behind a s.rest) s.next in
      let three = number_fault (behind (behind a s.rest) s.next.rest) s.next.next in
      rw one (rw two (rw three refl))

-- The calls -----------------------------------------------------------------------------------------------------------------

nothing_left : (a : Ahead) → (a.text ≡ [] → ⊥) → ending a ≡ Err (broken a.line)
nothing_left a some = go a.text some
  where
    go : (text : List ℕ) → (text ≡ [] → ⊥) → ◌≡◌ {A = Result (Unit {0}) Fault} (if length text == 0 then Ok tt else Err (broken a.line)) (Err (broken a.line))
    go [] some = absurd (some refl)
    go (b ∷ bs) some = let long : (length (b ∷ bs) == 0) ≡ false = ne_eqb _ _ (λ z. omega (arith, z)) in rw long refl

module _ (t : Terms) (room : ℕ) where
  at_once : (n : ℕ) (s : Session) (a : Ahead) → BrokenNext n a.text → calls_text t room n s a ≡ fault_text a.line
  at_once zero s a h = let e = nothing_left a h in rw e refl
  at_once (suc n) s a h = let e = call_fault a h in rw e refl

  calls_broken :
      (cs : List Call) (n : ℕ) (s : Session) (a : Ahead) → length cs ≤ n → CallsThen cs (BrokenNext (n - length cs)) a.text →
      calls_text t room n s a ≡ text_in_turn t room s cs ++ fault_text (length cs + a.line)
  unfolding behind
  calls_broken [] n s a few h =
      let all : n - 0 ≡ n = omega arith in
      let here : a.line ≡ 0 + a.line = omega arith in
      at_once n s a (subst (λ k. BrokenNext k a.text) all h) ∙ ap fault_text here
  calls_broken (c ∷ cs) zero s a few h = absurd (omega (arith, few))
  calls_broken (c ∷ cs) (suc n) s a few broken_at =
      let fewer : suc n - suc (length cs) ≡ n - length cs = omega arith in
      let h = subst (λ k. CallsThen (c ∷ cs) (BrokenNext k) a.text) fewer broken_at in
      let got : call_line a ≡ Ok (c, behind a h.rest) =
      line_read call_of c a h.line h.rest h.whole (line_free c h.line h.first) (call_taken c h.line h.first) in
      let next : Session = session_after_call t room s c in
      let mine : List ℕ = verdict_text (result (outcome_over t room s c)) in
      let counted : length cs + (a.line + 1) ≡ suc (length cs) + a.line = omega arith in
      rw got (
      ap (λ (l : List ℕ). mine ++ l) (calls_broken cs n next (behind a h.rest) (omega (arith, few)) h.next)
      ∙ sym (append_assoc mine (text_in_turn t room next cs) (fault_text (length cs + (a.line + 1))))
      ∙ ap (λ k. (mine ++ text_in_turn t room next cs) ++ fault_text k) counted
      )

-- The whole file ------------------------------------------------------------------------------------------------------------

module _ (cap : Capacity) (room : ℕ) where
  count_broken : (r : Result Terms ℕ) (a : Ahead) → NoNumber a.text → calls_section_text cap room r a ≡ under r (λ _. fault_text a.line)
  count_broken (Err n) a h = refl
  count_broken (Ok t) a h = let e = number_fault a h in rw e refl

  opened_broken :
      (r : Result Terms ℕ) (n : ℕ) (cs : List Call) (a : Ahead) → length cs ≤ n → Stacked (Number n) (CallsThen cs (BrokenNext (n - length cs))) a.text →
      calls_section_text cap room r a ≡ under r (λ t. text_in_turn t room (new_session cap) cs ++ fault_text (length cs + (a.line + 1)))
  unfolding behind
  opened_broken (Err m) n cs a few h = refl
  opened_broken (Ok t) n cs a few h =
      let count = number_read n (CallsThen cs (BrokenNext (n - length cs))) a h in
      rw count (calls_broken t room cs n (new_session cap) (behind a h.rest) few h.next)

  pub file_broken : (file : List ℕ) → BrokenInTurn cap room file (file_text cap room file)
  unfolding behind
  file_broken file =
      let start : Ahead = record { line = 1; text = file } in
      record {
        too_long = λ long. let e : nat_le (length file) 65536 ≡ false = lt-leb _ _ long in rw e refl;
        in_terms =
            λ k short h.
            let e : nat_le (length file) 65536 ≡ true = le-leb _ _ short in
            rw e (terms_broken k h);
        in_count =
            λ r b short h.
            let e : nat_le (length file) 65536 ≡ true = le-leb _ _ short in
            let section = terms_read r b NoNumber start h in
            rw e (rw section (count_broken (terms_from r b) (behind (behind (behind start h.rest) h.next.rest) h.next.next.rest) h.next.next.next));
        in_calls =
            λ r b n cs short few h.
            let e : nat_le (length file) 65536 ≡ true = le-leb _ _ short in
            let section = terms_read r b (Stacked (Number n) (CallsThen cs (BrokenNext (n - length cs)))) start h in
            rw e (rw section (opened_broken (terms_from r b) n cs (behind (behind (behind start h.rest) h.next.rest) h.next.next.rest) few h.next.next.next));
      }
    where
      terms_broken : (k : ℕ) → BrokenTerms k file → reading (terms_section (record { line = 1; text = file })) (λ s. calls_section_text cap room (terms_from s.0.reference s.0.block) s.1) ≡ fault_text (k + 1)
      terms_broken zero h = let e = count_fault (record { line = 1; text = file }) h in rw e refl
      terms_broken (suc zero) h = let e = reference_fault (record { line = 1; text = file }) h in rw e refl
      terms_broken (suc (suc zero)) h = let e = block_fault (record { line = 1; text = file }) h.0 h.1 in rw e refl
      terms_broken (suc (suc (suc k))) h = absurd h

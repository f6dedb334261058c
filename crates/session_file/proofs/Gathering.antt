-- Calls that are read first and then worked make the text of reading and working in turn.
use Rattle.std.proofs.Common.{◌≡◌, ℕ, zero, suc, ◌+◌, ◌-◌, ◌<◌, List, [], ◌∷◌, ◌++◌, Result, Ok, Err, refl, sym, ◌∙◌, ap, append_assoc, append-nil, arith}
use Rattle.rules.specs.declared.terms.Terms.{Terms}
use Rattle.book.specs.declared.call.Call.{Call}
use Rattle.book.specs.Marks.{Session}
use Rattle.book.specs.Model.{result}
use Rattle.session_file.specs.declared.fault.Fault.{Fault}
use Rattle.session_file.specs.Answered.{verdict_text, reading, outcome_over, session_after_call, closing_text, calls_text}
use Rattle.session_file.specs.Gathered.{Gathered, onto, calls_gathered, text_in_turn, session_in_turn}
use Rattle.session_file.specs.Lines.{Ahead, call_line}

-- One more call is read -----------------------------------------------------------------------------------------------------

module _ (n i : ℕ) (h : i < n) (a : Ahead) where
  one_more : calls_gathered (n - i) a ≡ onto (call_line a) (calls_gathered (n - (i + 1)))
  one_more = let more : n - i ≡ suc (n - (i + 1)) = omega arith in rw more refl

  module _ (before whole : List Call) (end : Result (Unit {0}) Fault) (c : before ++ (calls_gathered (n - i) a).calls ≡ whole) (e : (calls_gathered (n - i) a).end ≡ end) where
    pub stops : (fault : Fault) → Err fault ≡ call_line a → (before ≡ whole) × (end ≡ Err fault)
    stops fault f =
        let at : calls_gathered (n - i) a ≡ record { calls = []; end = Err fault } = one_more ∙ sym (ap (λ r. onto r (calls_gathered (n - (i + 1)))) f) in (
          sym (append-nil before) ∙ sym (ap (λ (g : Gathered). before ++ g.calls) at) ∙ c,
          sym e ∙ ap (λ (g : Gathered). g.end) at,
        )

    pub goes_on : (call : Call) (behind : Ahead) (now' : List Call) → Ok (call, behind) ≡ call_line a → now' ≡ before ++ (call ∷ []) →
        (now' ++ (calls_gathered (n - (i + 1)) behind).calls ≡ whole) × ((calls_gathered (n - (i + 1)) behind).end ≡ end)
    goes_on call behind now' f x =
        let rest : Gathered = calls_gathered (n - (i + 1)) behind in
        let at : calls_gathered (n - i) a ≡ record { calls = call ∷ rest.calls; end = rest.end } = one_more ∙ sym (ap (λ r. onto r (calls_gathered (n - (i + 1)))) f) in (
          ap (λ cs. cs ++ rest.calls) x ∙ append_assoc before (call ∷ []) rest.calls ∙ sym (ap (λ (g : Gathered). before ++ g.calls) at) ∙ c,
          sym (ap (λ (g : Gathered). g.end) at) ∙ e,
        )

-- The text ------------------------------------------------------------------------------------------------------------------

module _ (t : Terms) (room : ℕ) where
  -- the lines of the calls that were read, and how the text ends
  abbrev pub text_of_gathered : Session → Gathered → List ℕ
  text_of_gathered s g = text_in_turn t room s g.calls ++ reading g.end (λ _. closing_text t room (session_in_turn t room s g.calls))

  pub joined : (n : ℕ) (s : Session) (a : Ahead) → calls_text t room n s a ≡ text_of_gathered s (calls_gathered n a)
  joined zero s a = refl
  joined (suc n) s a = one (joined n) (call_line a)
    where
      one : ((s : Session) (a : Ahead) → calls_text t room n s a ≡ text_of_gathered s (calls_gathered n a)) → (r : Result (Call × Ahead) Fault) → reading r (λ c. verdict_text (result (outcome_over t room s c.0)) ++ calls_text t room n (session_after_call t room s c.0) c.1) ≡ text_of_gathered s (onto r (calls_gathered n))
      one back (Err fault) = refl
      one back (Ok c) =
          let next : Session = session_after_call t room s c.0 in
          let g : Gathered = calls_gathered n c.1 in
          let mine : List ℕ = verdict_text (result (outcome_over t room s c.0)) in
          ap (λ text. mine ++ text) (back next c.1)
          ∙ sym (append_assoc mine (text_in_turn t room next g.calls) (reading g.end (λ _. closing_text t room (session_in_turn t room next g.calls))))

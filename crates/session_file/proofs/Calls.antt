-- What is read as a call says it, and the other way round.
use Rattle.std.proofs.Common.{◌≡◌, ℕ, Bool, true, false, cond, List, [], ◌∷◌, ◌++◌, Option, None, Some, inl, inr, refl, sym, ◌∙◌, ap, subst, eqb}
use Rattle.std.proofs.lemmas.Bool.{eqb-true}
use lib.Chars.{codes}
use Rattle.rules.specs.declared.order.Direction.{Direction}
use Rattle.book.specs.declared.call.Call.{Call}
use Rattle.book.specs.declared.call.Call.TheVariants.{Enter, Alter, Withdraw, Advance}
use Rattle.session_file.specs.Cut.{fields}
use Rattle.session_file.specs.Grammar.{Line}
use Rattle.session_file.specs.Laws.{OneCall}
use Rattle.session_file.specs.Reading.{letter_of, number_of, side_of, limit_of, taking, alone, enter_of, alter_of, withdraw_of, advance_of, lettered_call, call_of}
use Rattle.session_file.proofs.Cutting.{is_empty-fields}
use Rattle.session_file.proofs.Numbers.{number_found}
use Rattle.session_file.proofs.Forms.{letter_takes, number_takes, side_takes, limit_takes, letter_found, side_found, limit_found, past_first, past_last, one_or_more, More, Last}

-- calls from what their fields say
abbrev new_order : ℕ → Direction → Option ℕ → ℕ → Call
new_order m d p v = Enter (record { member = m; direction = d; limit = p; volume = v })

abbrev new_terms : ℕ → ℕ → ℕ → ℕ → Call
new_terms m n p v = Alter (record { member = m; number = n; price = p; volume = v })

abbrev taken_out : ℕ → ℕ → Call
taken_out m n = Withdraw (record { member = m; number = n })

-- what is still to be read after a field of each call
abbrev after_price : ℕ → Direction → Option ℕ → ℕ → List (List ℕ) → Option Call
after_price m d p v fs = alone fs (new_order m d p v)

abbrev after_side : ℕ → Direction → Option ℕ → List (List ℕ) → Option Call
after_side m d p fs = taking number_of fs (after_price m d p)

abbrev after_member : ℕ → Direction → List (List ℕ) → Option Call
after_member m d fs = taking limit_of fs (after_side m d)

abbrev entering : ℕ → List (List ℕ) → Option Call
entering m fs = taking side_of fs (after_member m)

abbrev after_new_price : ℕ → ℕ → ℕ → ℕ → List (List ℕ) → Option Call
after_new_price m n p v fs = alone fs (new_terms m n p v)

abbrev after_number : ℕ → ℕ → ℕ → List (List ℕ) → Option Call
after_number m n p fs = taking number_of fs (after_new_price m n p)

abbrev after_owner : ℕ → ℕ → List (List ℕ) → Option Call
after_owner m n fs = taking number_of fs (after_number m n)

abbrev altering : ℕ → List (List ℕ) → Option Call
altering m fs = taking number_of fs (after_owner m)

abbrev withdrawn : ℕ → ℕ → List (List ℕ) → Option Call
withdrawn m n fs = alone fs (taken_out m n)

abbrev withdrawing : ℕ → List (List ℕ) → Option Call
withdrawing m fs = taking number_of fs (withdrawn m)

pub call_taken : (call : Call) (line : List ℕ) → Line call line → call_of line ≡ Some call
call_taken (Enter x) line s =
    past_first letter_of 69 _ (letter_takes 69 refl) lettered_call _ line s
    ∙ past_first number_of x.member _ (number_takes x.member) entering _ s.rest s.next
    ∙ past_first side_of x.direction _ (side_takes x.direction) (after_member x.member) _ s.next.rest s.next.next
    ∙ past_first limit_of x.limit _ (limit_takes x.limit) (after_side x.member x.direction) _ s.next.next.rest s.next.next.next
    ∙ past_last number_of x.volume _ (number_takes x.volume) (after_price x.member x.direction x.limit) s.next.next.next.rest s.next.next.next.next
call_taken (Alter x) line s =
    past_first letter_of 65 _ (letter_takes 65 refl) lettered_call _ line s
    ∙ past_first number_of x.member _ (number_takes x.member) altering _ s.rest s.next
    ∙ past_first number_of x.number _ (number_takes x.number) (after_owner x.member) _ s.next.rest s.next.next
    ∙ past_first number_of x.price _ (number_takes x.price) (after_number x.member x.number) _ s.next.next.rest s.next.next.next
    ∙ past_last number_of x.volume _ (number_takes x.volume) (after_new_price x.member x.number x.price) s.next.next.next.rest s.next.next.next.next
call_taken (Withdraw x) line s =
    past_first letter_of 87 _ (letter_takes 87 refl) lettered_call _ line s
    ∙ past_first number_of x.member _ (number_takes x.member) withdrawing _ s.rest s.next
    ∙ past_last number_of x.number _ (number_takes x.number) (withdrawn x.member) s.next.rest s.next.next
call_taken Advance line s = past_last letter_of 78 _ (letter_takes 78 refl) lettered_call line s

no_call : (call : Call) → None ≡ Some call → ⊥
no_call call e = cc

same_call : (a b : Call) → Some a ≡ Some b → a ≡ b
same_call a b e = cc

said_as : (line : List ℕ) (a call : Call) → Some a ≡ Some call → Line a line → Line call line
said_as line a call e says = subst (λ c. Line c line) (same_call a call e) says

more_left : (rest : List ℕ) (a call : Call) → alone (fields rest) a ≡ Some call → ⊥
more_left rest a call e =
    let left = is_empty-fields rest in
    no_call call (rw left at e)

-- a field that must not be the last
module _ {X : Type 0} (read : List ℕ → Option X) (next : X → List (List ℕ) → Option Call) (call : Call) (line : List ℕ) (e : taking read (fields line) next ≡ Some call) where
  more_comes : ((x : X) → next x [] ≡ Some call → ⊥) → More read next call line
  more_comes dead = elim (one_or_more read next call line e) [ inl m ↦ m | inr l ↦ absurd (dead l.x l.then) ]

  -- and one that must be
  is_last : ((x : X) (rest : List ℕ) → next x (fields rest) ≡ Some call → ⊥) → Last read next call line
  is_last dead = elim (one_or_more read next call line e) [ inl m ↦ absurd (dead m.x m.rest m.then) | inr l ↦ l ]

enter_found : (rest : List ℕ) (call : Call) → enter_of (fields rest) ≡ Some call → Line call (69 ∷ 32 ∷ rest)
enter_found rest call e =
    let m = more_comes number_of entering call rest e (λ x h. no_call call h) in
    let d = more_comes side_of (after_member m.x) call m.rest m.then (λ x h. no_call call h) in
    let p = more_comes limit_of (after_side m.x d.x) call d.rest d.then (λ x h. no_call call h) in
    let v = is_last number_of (after_price m.x d.x p.x) call p.rest p.then (λ x r h. more_left r (new_order m.x d.x p.x x) call h) in
    let says : Line (new_order m.x d.x p.x v.x) (69 ∷ 32 ∷ rest) =
    record {
      field = codes "E";
      rest = rest;
      first = refl;
      whole = refl;
      next = record {
        field = m.field;
        rest = m.rest;
        first = number_found m.x m.field m.got;
        whole = m.whole;
        next = record {
          field = d.field;
          rest = d.rest;
          first = side_found d.x d.field d.got;
          whole = d.whole;
          next = record {
            field = p.field;
            rest = p.rest;
            first = limit_found p.x p.field p.got;
            whole = p.whole;
            next = number_found v.x p.rest v.got;
          };
        };
      };
    } in
    said_as (69 ∷ 32 ∷ rest) (new_order m.x d.x p.x v.x) call v.then says

alter_found : (rest : List ℕ) (call : Call) → alter_of (fields rest) ≡ Some call → Line call (65 ∷ 32 ∷ rest)
alter_found rest call e =
    let m = more_comes number_of altering call rest e (λ x h. no_call call h) in
    let n = more_comes number_of (after_owner m.x) call m.rest m.then (λ x h. no_call call h) in
    let p = more_comes number_of (after_number m.x n.x) call n.rest n.then (λ x h. no_call call h) in
    let v = is_last number_of (after_new_price m.x n.x p.x) call p.rest p.then (λ x r h. more_left r (new_terms m.x n.x p.x x) call h) in
    let says : Line (new_terms m.x n.x p.x v.x) (65 ∷ 32 ∷ rest) =
    record {
      field = codes "A";
      rest = rest;
      first = refl;
      whole = refl;
      next = record {
        field = m.field;
        rest = m.rest;
        first = number_found m.x m.field m.got;
        whole = m.whole;
        next = record {
          field = n.field;
          rest = n.rest;
          first = number_found n.x n.field n.got;
          whole = n.whole;
          next = record {
            field = p.field;
            rest = p.rest;
            first = number_found p.x p.field p.got;
            whole = p.whole;
            next = number_found v.x p.rest v.got;
          };
        };
      };
    } in
    said_as (65 ∷ 32 ∷ rest) (new_terms m.x n.x p.x v.x) call v.then says

withdraw_found : (rest : List ℕ) (call : Call) → withdraw_of (fields rest) ≡ Some call → Line call (87 ∷ 32 ∷ rest)
withdraw_found rest call e =
    let m = more_comes number_of withdrawing call rest e (λ x h. no_call call h) in
    let n = is_last number_of (withdrawn m.x) call m.rest m.then (λ x r h. more_left r (taken_out m.x x) call h) in
    let says : Line (taken_out m.x n.x) (87 ∷ 32 ∷ rest) =
    record {
      field = codes "W";
      rest = rest;
      first = refl;
      whole = refl;
      next = record {
        field = m.field;
        rest = m.rest;
        first = number_found m.x m.field m.got;
        whole = m.whole;
        next = number_found n.x m.rest n.got;
      };
    } in
    said_as (87 ∷ 32 ∷ rest) (taken_out m.x n.x) call n.then says

-- which of four answers stands, by four tests
data Chosen (a b c d : Bool) (e f g h : Option Call) (call : Call) : Type 0 where
  one : a ≡ true → e ≡ Some call → Chosen a b c d e f g h call
  two : b ≡ true → f ≡ Some call → Chosen a b c d e f g h call
  three : c ≡ true → g ≡ Some call → Chosen a b c d e f g h call
  four : d ≡ true → h ≡ Some call → Chosen a b c d e f g h call

choose : (a b c d : Bool) (e f g h : Option Call) (call : Call) → cond a e (cond b f (cond c g (cond d h None))) ≡ Some call → Chosen a b c d e f g h call
choose true b c d e f g h call k = one refl k
choose false true c d e f g h call k = two refl k
choose false false true d e f g h call k = three refl k
choose false false false true e f g h call k = four refl k
choose false false false false e f g h call k = absurd (no_call call k)

letter_at : (x c : ℕ) (field : List ℕ) → letter_of field ≡ Some x → x ≡ c → field ≡ c ∷ []
letter_at x c field got e = letter_found c field (got ∙ ap (λ (y : ℕ). Some y) e)

line_of : (c x : ℕ) (line field rest : List ℕ) (call : Call) → letter_of field ≡ Some x → line ≡ field ++ 32 ∷ rest → x ≡ c → Line call (c ∷ 32 ∷ rest) → Line call line
line_of c x line field rest call got whole e says =
    let letter = letter_at x c field got e in
    let same : line ≡ c ∷ 32 ∷ rest = whole ∙ ap (λ (f : List ℕ). f ++ 32 ∷ rest) letter in
    subst (λ l. Line call l) (sym same) says

pub call_found : (call : Call) (line : List ℕ) → call_of line ≡ Some call → Line call line
call_found call line e =
    elim (one_or_more letter_of lettered_call call line e) [
      | inl m ↦
          elim (choose (eqb m.x 69) (eqb m.x 65) (eqb m.x 87) (eqb m.x 78) (enter_of (fields m.rest)) (alter_of (fields m.rest)) (withdraw_of (fields m.rest)) (advance_of (fields m.rest)) call m.then) [
            | one t k ↦ line_of 69 m.x line m.field m.rest call m.got m.whole (eqb-true m.x 69 t) (enter_found m.rest call k)
            | two t k ↦ line_of 65 m.x line m.field m.rest call m.got m.whole (eqb-true m.x 65 t) (alter_found m.rest call k)
            | three t k ↦ line_of 87 m.x line m.field m.rest call m.got m.whole (eqb-true m.x 87 t) (withdraw_found m.rest call k)
            | four t k ↦ absurd (more_left m.rest Advance call k)
          ]
      | inr l ↦
          elim (choose (eqb l.x 69) (eqb l.x 65) (eqb l.x 87) (eqb l.x 78) None None None (Some Advance) call l.then) [
            | one t k ↦ absurd (no_call call k)
            | two t k ↦ absurd (no_call call k)
            | three t k ↦ absurd (no_call call k)
            | four t k ↦ subst (λ c. Line c line) (same_call Advance call k) (letter_at l.x 78 line l.got (eqb-true l.x 78 t))
          ]
    ]

pub one_call : OneCall
one_call line a b h k = same_call a b (sym (call_taken a line h) ∙ call_taken b line k)

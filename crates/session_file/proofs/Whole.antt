-- A file that says terms and calls is answered call after call.
use Rattle.std.proofs.Common.{◌≡◌, ℕ, ◌+◌, true, false, leb, ltb, List, [], ◌∷◌, ◌++◌, Option, Some, None, Result, Ok, Err, length, refl, sym, ap, ◌∙◌, append_assoc, lit<, le-leb, lt-ltb, length-append, arith}
use Rattle.std.specs.List.{position_or_len}
use Rattle.std.proofs.lemmas.List.Elements.{All-cons, All-append, All-head, All-tail}
use Rattle.std.proofs.Math.Seq.{take-append_seam, drop-append-add}
use Rattle.rules.specs.declared.order.Direction.{Direction}
use Rattle.rules.specs.declared.order.Direction.TheVariants.{Buy, Sell}
use Rattle.rules.specs.declared.terms.Terms.{Terms}
use Rattle.tables.specs.Meaning.{Capacity}
use Rattle.book.specs.Marks.{Session, new_session}
use Rattle.book.specs.Model.{result}
use Rattle.book.specs.declared.call.Call.{Call}
use Rattle.book.specs.declared.call.Call.TheVariants.{Enter, Alter, Withdraw, Advance}
use Rattle.session_file.specs.Cut.{is, cut}
use Rattle.session_file.specs.Grammar.{Number, Side, Price, Spaced, Line}
use Rattle.session_file.specs.Reading.{number_of, call_of}
use Rattle.session_file.specs.Lines.{Ahead, first_line, or_broken, ◌>>=◌, number_line, call_line, terms_section}
use Rattle.session_file.specs.Answered.{verdict_text, outcome_over, session_after_call, closing_text, calls_text, calls_section_text, file_text}
use Rattle.session_file.specs.Files.{Stacked, CallLines, text_of, AnsweredInTurn}
use Rattle.session_file.specs.Gathered.{text_in_turn, session_in_turn}
use Rattle.session_file.specs.Opening.{terms_from}
use Rattle.session_file.proofs.Numbers.{Free, number_free, number_taken}
use Rattle.session_file.proofs.Forms.{letter_free}
use Rattle.session_file.proofs.Calls.{call_taken}

side_free : (side : Direction) (field : List ℕ) → Side side field → Free 10 field
side_free Buy field e = letter_free 10 66 field refl e
side_free Sell field e = letter_free 10 83 field refl e

price_free : (price : Option ℕ) (field : List ℕ) → Price price field → Free 10 field
price_free (Some p) field h = number_free 10 (lit< tt) p field h
price_free None field e = letter_free 10 77 field refl e

module _ (First Next : List ℕ → Type 0) (first : (field : List ℕ) → First field → Free 10 field) (next : (rest : List ℕ) → Next rest → Free 10 rest) where
  spaced_free : (line : List ℕ) → Spaced First Next line → Free 10 line
  spaced_free line s =
      rw s.whole (All-append (λ b. is 10 b ≡ false) s.field (32 ∷ s.rest) (first s.field s.first) (All-cons (λ b. is 10 b ≡ false) 32 s.rest refl (next s.rest s.next)))

pub numbers_free : (n : ℕ) (field : List ℕ) → Number n field → Free 10 field
numbers_free n field h = number_free 10 (lit< tt) n field h

pub line_free : (call : Call) (line : List ℕ) → Line call line → Free 10 line
line_free (Enter e) line s =
    spaced_free _ _ (λ f e. letter_free 10 69 f refl e)
    (spaced_free _ _ (numbers_free e.member)
    (spaced_free _ _ (side_free e.direction) (spaced_free _ _ (price_free e.limit) (numbers_free e.volume))))
    line s
line_free (Alter a) line s =
    spaced_free _ _ (λ f e. letter_free 10 65 f refl e)
    (spaced_free _ _ (numbers_free a.member)
    (spaced_free _ _ (numbers_free a.number) (spaced_free _ _ (numbers_free a.price) (numbers_free a.volume))))
    line s
line_free (Withdraw w) line s =
    spaced_free _ _ (λ f e. letter_free 10 87 f refl e) (spaced_free _ _ (numbers_free w.member) (numbers_free w.number)) line s
line_free Advance line e = letter_free 10 78 line refl e

first_mark : (line rest : List ℕ) → Free 10 line → position_or_len (is 10) (line ++ 10 ∷ rest) ≡ length line
first_mark [] rest f = refl
first_mark (b ∷ bs) rest f =
    let here : is 10 b ≡ false = All-head (λ b. is 10 b ≡ false) b bs f in
    let behind = first_mark bs rest (All-tail (λ b. is 10 b ≡ false) b bs f) in
    rw here (omega (arith, behind))

cut_at_mark : (line rest : List ℕ) → Free 10 line → cut 10 (line ++ 10 ∷ rest) ≡ Some (line, rest)
cut_at_mark line rest f =
    let at : position_or_len (is 10) (line ++ 10 ∷ rest) ≡ length line = first_mark line rest f in
    let long = length-append line (10 ∷ rest) in
    let within : ltb (length line) (length (line ++ 10 ∷ rest)) ≡ true = lt-ltb _ _ (omega (arith, long)) in
    let front = take-append_seam line (10 ∷ rest) in
    let back = drop-append-add line (10 ∷ rest) 1 in
    rw (at, within, front, back) refl

unfoldable pub behind : Ahead → List ℕ → Ahead
behind a rest = record { line = a.line + 1; text = rest }

pub line_read : {X : Type 0} (read : List ℕ → Option X) (x : X) (a : Ahead) (line rest : List ℕ) → a.text ≡ line ++ 10 ∷ rest → Free 10 line → read line ≡ Some x → (first_line a >>= λ l. or_broken a.line (read l.0) l.1) ≡ Ok (x, behind a rest)
unfolding behind
line_read read x a line rest whole free got =
    let c : cut 10 a.text ≡ Some (line, rest) = rw whole (cut_at_mark line rest free) in
    rw c (rw got refl)

pub number_read : (n : ℕ) (Next : List ℕ → Type 0) (a : Ahead) (s : Stacked (Number n) Next a.text) → number_line a ≡ Ok (n, behind a s.rest)
number_read n Next a s = line_read number_of n a s.line s.rest s.whole (numbers_free n s.line s.first) (number_taken n s.line s.first)

pub terms_read : (r b : ℕ) (Next : List ℕ → Type 0) (a : Ahead) (s : Stacked (Number 2) (Stacked (Number r) (Stacked (Number b) Next)) a.text) → terms_section a ≡ Ok (record { reference = r; block = b }, behind (behind (behind a s.rest) s.next.rest) s.next.next.rest)
unfolding behind
terms_read r b Next a s =
    let one = number_read 2 (Stacked (Number r) (Stacked (Number b) Next)) a s in
    let two = number_read r (Stacked (Number b) Next) (behind a s.rest) s.next in
    let three = number_read b Next (behind (behind a s.rest) s.next.rest) s.next.next in
    rw one (rw two (rw three refl))

module _ (t : Terms) (room : ℕ) where
  calls_told : (cs : List Call) (s : Session) (a : Ahead) → CallLines cs a.text → calls_text t room (length cs) s a ≡ text_in_turn t room s cs ++ closing_text t room (session_in_turn t room s cs)
  unfolding behind
  calls_told [] s a e = rw e refl
  calls_told (c ∷ cs) s a h =
      let got : call_line a ≡ Ok (c, behind a h.rest) =
      line_read call_of c a h.line h.rest h.whole (line_free c h.line h.first) (call_taken c h.line h.first) in
      let next : Session = session_after_call t room s c in
      let mine : List ℕ = verdict_text (result (outcome_over t room s c)) in
      rw got (ap (λ (l : List ℕ). mine ++ l) (calls_told cs next (behind a h.rest) h.next) ∙ sym (append_assoc mine (text_in_turn t room next cs) (closing_text t room (session_in_turn t room next cs))))

module _ (cap : Capacity) (room : ℕ) where
  opened_told : (r : Result Terms ℕ) (cs : List Call) (a : Ahead) → Stacked (Number (length cs)) (CallLines cs) a.text → calls_section_text cap room r a ≡ text_of cap room r cs
  unfolding behind
  opened_told (Err n) cs a h = refl
  opened_told (Ok t) cs a h =
      let count = number_read (length cs) (CallLines cs) a h in
      rw count (calls_told t room cs (new_session cap) (behind a h.rest) h.next)

  pub file_told : (file : List ℕ) → AnsweredInTurn cap room file (file_text cap room file)
  unfolding behind
  file_told file r b cs short s =
      let fits : leb (length file) 65536 ≡ true = le-leb _ _ short in
      let start : Ahead = record { line = 1; text = file } in
      let section = terms_read r b (Stacked (Number (length cs)) (CallLines cs)) start s in
      rw fits (rw section (opened_told (terms_from r b) cs (behind (behind (behind start s.rest) s.next.rest) s.next.next.rest) s.next.next.next))

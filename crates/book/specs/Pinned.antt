-- The law leaves nothing open but the refusals: two lawful engines that refuse the same tries with the same numbers answer
-- the same.
use Rattle.std.specs.Prelude.{◌≡◌, ℕ, List, Some, None, Option}
use Rattle.rules.specs.declared.terms.Terms.{Terms}
use Rattle.tables.specs.Meaning.{Capacity}
use Rattle.book.specs.Law.{Try, Verdict, refused, accepted, Engine, Law}

abbrev pub refusal : Verdict → Option ℕ
refusal (refused n) = Some n
refusal (accepted a slips) = None

abbrev pub SameRefusals : Engine → Engine → Type 0
SameRefusals e f =
    (t : Terms) (cap : Capacity) (past : List Try) (x : Try) →
    refusal (e t cap past x).result ≡ refusal (f t cap past x).result

abbrev pub Pinned : Type 0
Pinned =
    (e f : Engine) → Law e → Law f → SameRefusals e f →
    (t : Terms) (cap : Capacity) (past : List Try) (x : Try) → e t cap past x ≡ f t cap past x

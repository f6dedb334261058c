-- The text that a file is answered with, in the words of the law over all histories.
use Rattle.std.specs.Prelude.{◌≡◌, ℕ, List, [], ◌∷◌, ◌++◌, ◌≤◌, length}
use Rattle.rules.specs.declared.terms.Terms.{Terms}
use Rattle.tables.specs.Meaning.{Capacity}
use Rattle.book.specs.declared.call.Call.{Call}
use Rattle.book.specs.Ending.{reference_by}
use Rattle.book.specs.Journal.{Line, LawfulJournal}
use Rattle.market.specs.Journaled.{lines}
use Rattle.session_file.specs.Answered.{line_text, verdict_text}
use Rattle.session_file.specs.Files.{File}
use Rattle.session_file.specs.Output.{reference_line}

-- the text of a journal, whose last line comes first
abbrev pub journal_text : List Line → List ℕ
journal_text [] = []
journal_text (x ∷ past) = journal_text past ++ verdict_text x.came.result

-- where a file that is not too long says terms and calls: the journal of these calls is lawful, and the text is that of
-- the journal and of the reference price that it gives
abbrev pub AnsweredLawfully : Capacity → ℕ → List ℕ → List ℕ → Type 0
AnsweredLawfully cap room file text =
    (t : Terms) (calls : List Call) → length file ≤ 65536 → File t.reference t.block calls file →
    LawfulJournal t (lines t cap calls room) ×
    (text ≡ journal_text (lines t cap calls room) ++ line_text (reference_line (reference_by t (lines t cap calls room))))

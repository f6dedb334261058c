-- What a case is worked over, and when it agrees.
use Rattle.std.specs.Prelude.{List, fold}
use Rattle.std.specs.Str.{bytes_eq}
use Rattle.tables.specs.Meaning.{Capacity}
use Rattle.tables.specs.Run.{run_capacity}
use Rattle.session_file.specs.Answered.{file_text}
use Rattle.report.specs.Verdicts.{plain, tally_after}
use Rattle.session_cases.specs.declared.case.Case.{Case}
use Rattle.session_cases.specs.declared.case.Over.{Over}
use Rattle.session_cases.specs.declared.case.Over.TheVariants.{Queue, QueueAndSlots}
use Rattle.report.specs.declared.verdict.Tally.{Tally}
use Rattle.report.specs.declared.verdict.Verdict.{Verdict}

-- what the tables have room for
abbrev pub capacity_of : Over → Capacity
capacity_of (Queue places) = run_capacity places
capacity_of QueueAndSlots = run_capacity 64

-- agrees exactly where the text is the one that the file is answered with
abbrev pub judged : Case → Verdict
judged c = plain (bytes_eq (file_text (capacity_of c.over) c.room c.file.items) c.text.items)

-- with the verdict on each case counted
abbrev pub tally_after_all : Tally → List Case → Tally
tally_after_all = fold (λ t c. tally_after (judged c) t)

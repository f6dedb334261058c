-- What a session holds between calls.
use Rattle.std.specs.Prelude.{ℕ}
use Rattle.tables.specs.Meaning.{Capacity, Contents, empty}
use Rattle.book.specs.declared.stage.Stage.{Stage}
use Rattle.book.specs.declared.stage.Stage.TheVariants.{PreOpen}

-- the stage, the last arrival given and what the table means
pub record Day : Type 0 where
  pub stage : Stage
  pub tally : ℕ
  pub table : Contents

-- before the first call
abbrev pub new_day : Capacity → Day
new_day cap = record { stage = PreOpen; tally = 0; table = record { capacity = cap; book = empty } }

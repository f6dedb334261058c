use Rattle.std.proofs.Common.{◌≡◌, ◌≤◌, take, length, vec_items, vec_len, vec_capacity}
use Rattle.market.specs.Journaled.{run_through}
use Rattle.market.proofs.Journals.{Gone}
use Rattle.market.proofs.journal.work_all.Given as goal

abbrev pub invariant-loop-call : goal.invariant-loop-call
invariant-loop-call g l =
    Gone l.fn.terms (g.T.Table.contents l.fn.table).capacity (take l.call-index l.calls) (length l.fn.run) (vec_items l.journal) l.session
    × (l.run ≡ run_through l.fn.run (vec_items l.journal))
    × (vec_len l.journal ≡ l.call-index)
    × (length l.calls ≤ vec_capacity l.journal)

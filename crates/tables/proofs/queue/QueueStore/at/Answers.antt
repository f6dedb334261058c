use Rattle.std.proofs.Common.{◌≡◌, ℕ, List, Option, Bor, ap, sym, ◌∙◌}
use Rattle.std.specs.List.{slice_get}
use Rattle.std.specs.Option.{option_copied}
use Rattle.std.specs.Slice.{IsGetResult}
use Rattle.rules.specs.declared.order.Direction.{Direction}
use Rattle.rules.specs.declared.order.Order.{Order}
use Rattle.tables.specs.Meaning.{Contents, Sorted, listed, ordered}
use Rattle.tables.specs.Run.{stored}
use Rattle.tables.proofs.Places.{get_nth}
use Rattle.tables.proofs.Stands.{ordered_same}
use Rattle.tables.proofs.queue.QueueStore.at.Goals as goal

-- in a row that stands in rank order, an index is a rank
at_rank : {os : List Order} {i : ℕ} (t : Contents) (d : Direction) (r : Option (Bor Order)) → Sorted t.book → os ≡ listed d t → IsGetResult os i i r → option_copied r ≡ slice_get (listed d (ordered t)) i
at_rank {os} {i} t d r sorted row found = get_nth os i r found ∙ ap (λ (xs : List Order). slice_get xs i) (row ∙ ap (listed d) (sym (ordered_same t sorted)))

pub returns-in-Some : goal.returns-in-Some
returns-in-Some c =
    let q = c.args.self.now in
    ap option_copied (sym c.in-Some.is)
    ∙ at_rank (stored q.run.now q.counts) c.args.direction c.get.result q.kept.ranked c.row.ensures c.get.ensures.lookup

pub returns-in-None : goal.returns-in-None
returns-in-None c =
    let q = c.args.self.now in
    ap option_copied (sym c.in-None.is)
    ∙ at_rank (stored q.run.now q.counts) c.args.direction c.get.result q.kept.ranked c.row.ensures c.get.ensures.lookup

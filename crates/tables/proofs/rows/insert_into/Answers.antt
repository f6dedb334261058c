use Rattle.std.proofs.Common.{◌≡◌, ℕ, ◌≤◌, List, length, take, ap, ◌∙◌, arith, rules}
use Rattle.std.specs.List.{insert}
use Rattle.std.proofs.lemmas.List.{length-take-le}
use Rattle.rules.specs.Rank.{before}
use Rattle.rules.specs.declared.order.Order.{Order}
use Rattle.tables.specs.Stored.{rank_of}
use Rattle.tables.proofs.Places.{insert_is}
use Rattle.tables.proofs.rows.insert_into.Goals as goal

pub insert_at-requires : goal.insert_at-requires
insert_at-requires c =
    let l = length-take-le c.args.count c.args.row.now (omega arith) in
    let w : c.rank_of-at.result ≤ length (take c.args.count c.args.row.now) = search rules in
    (omega arith, omega arith)

pub returns : goal.returns
returns c =
    let xs : List Order = take c.args.count c.args.row.now in
    let lt = before c.args.direction in
    let at : c.rank_of-at.result ≡ rank_of lt c.args.order xs = search rules in
    c.insert_at.ensures ∙ ap (λ (i : ℕ). insert xs i c.args.order) at ∙ insert_is lt c.args.order xs

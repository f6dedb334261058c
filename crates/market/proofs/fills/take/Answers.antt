use Rattle.std.proofs.Common.{◌-◌, ◌<◌, ap, ◌∙◌, arith}
use Rattle.tables.specs.Meaning.{said}
use Rattle.market.proofs.Taking.{is_held, took_all, took_part, sets_listed}
use Rattle.market.proofs.fills.take.Goals as goal

pub unreachable-requires : goal.unreachable-requires
unreachable-requires g c =
    let s = g.met.T.Table.sound c.args.table.now in
    let first = c.args.first.now in
    c.in_default.not-Ok tt (c.remove.ensures.answer ∙ ap said (is_held _ s first.direction 0 first c.requires.first))

pub unreachable-requires-in_default-set_volume : goal.unreachable-requires-in_default-set_volume
unreachable-requires-in_default-set_volume g c =
    let s = g.met.T.Table.sound c.args.table.now in
    let first = c.args.first.now in
    let below : c.args.volume < first.volume = omega (arith, c.requires.within, c.if-volume-first.false) in
    c.in_default-set_volume.not-Ok tt (c.set_volume.ensures.answer ∙ ap said (sets_listed _ s first.direction 0 first c.requires.first (first.volume - c.args.volume) (λ z. omega arith)))

pub returns-in-Ok : goal.returns-in-Ok
returns-in-Ok g c =
    let s = g.met.T.Table.sound c.args.table.now in
    let first = c.args.first.now in
    c.remove.ensures.after ∙ took_all _ s first.direction first c.requires.first c.args.volume c.if-volume-first.true

pub returns-in-Ok-set_volume : goal.returns-in-Ok-set_volume
returns-in-Ok-set_volume g c =
    let s = g.met.T.Table.sound c.args.table.now in
    let first = c.args.first.now in
    let below : c.args.volume < first.volume = omega (arith, c.requires.within, c.if-volume-first.false) in
    c.set_volume.ensures.after ∙ took_part _ s first.direction first c.requires.first c.args.volume below

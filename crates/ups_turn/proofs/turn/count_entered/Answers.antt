use Rattle.std.proofs.Common.{arith}
use Rattle.atomic_table.specs.Table.{step}
use mathlib.Core.Option.{none}
use Rattle.ups_turn.proofs.Steps.{decide_allowed}
use Rattle.ups_turn.proofs.turn.count_entered.Goals as goal

pub fetch_add-requires : goal.fetch_add-requires
fetch_add-requires g c =
    let r = c.requires.table in
    let m = c.requires.may in
    (r.0, omega arith, rw r.2 (decide_allowed _ _ m.number c.args.entered c.args.place.now.me m.seen m.added (step 1 0 c.args.entered 0 none) m.has m.counted m.own m.legal))

use Rattle.std.proofs.Common.{arith}
use Rattle.atomic_table.specs.Table.{step}
use mathlib.Core.Option.{none}
use Rattle.ups_turn.proofs.Steps.{draw_allowed}
use Rattle.ups_turn.proofs.turn.draw.Goals as goal

pub fetch_add-requires : goal.fetch_add-requires
fetch_add-requires g c =
    let r = c.requires.table in
    (r.0, omega arith, rw r.2 (draw_allowed _ _ c.args.place.now.me (step 1 1 1 0 none) c.requires.rests c.requires.left))

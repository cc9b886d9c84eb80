use Rattle.std.proofs.Common.{arith}
use Rattle.atomic_table.specs.Table.{step}
use mathlib.Core.Option.{none}
use Rattle.ups_turn.proofs.Steps.{look_allowed}
use Rattle.ups_turn.proofs.turn.look.Goals as goal

pub load-requires : goal.load-requires
load-requires g c =
    let r = c.requires.table in
    let w = c.requires.waits in
    (r.0, omega arith, rw r.2 (look_allowed _ _ c.args.place.now.me (step 1 2 0 0 none) w.1 w.2 w.3))

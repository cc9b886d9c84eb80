use Rattle.std.proofs.Common.{arith}
use Rattle.atomic_table.specs.Table.{step}
use mathlib.Core.Option.{none}
use Rattle.ups_turn.proofs.Meets.{settle_allowed}
use Rattle.ups_turn.proofs.turn.settle.Goals as goal

pub fetch_add-requires : goal.fetch_add-requires
fetch_add-requires g c =
    let r = c.requires.table in
    (r.0, omega arith, rw r.2 (settle_allowed _ _ c.args.place.now.me (step 1 0 0 0 none) c.requires.rests.0 c.requires.rests.1))

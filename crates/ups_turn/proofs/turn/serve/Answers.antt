use Rattle.std.proofs.Common.{arith}
use Rattle.atomic_table.specs.Table.{step}
use mathlib.Core.Option.{none}
use Rattle.ups_turn.proofs.Steps.{serve_allowed}
use Rattle.ups_turn.proofs.turn.serve.Goals as goal

pub fetch_add-requires : goal.fetch_add-requires
fetch_add-requires g c =
    let r = c.requires.table in
    let m = c.requires.may in
    (r.0, omega arith, rw r.2 (serve_allowed _ _ m.number c.args.place.now.me m.seen (step 1 2 1 0 none) m.has))

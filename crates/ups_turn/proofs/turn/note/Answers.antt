use Rattle.std.proofs.Common.{arith}
use Rattle.ups_turn.proofs.Meets.{notes_allowed}
use Rattle.ups_turn.proofs.turn.note.Goals as goal

pub split_seat-requires : goal.split_seat-requires
split_seat-requires g c =
    let r = c.requires.table in
    (r.0, omega arith, notes_allowed _ _ _)

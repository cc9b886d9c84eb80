use Rattle.std.proofs.Common.{arith}
use Rattle.ups_turn.proofs.Meets.{join_allowed}
use Rattle.ups_turn.proofs.turn.absorb.Goals as goal

pub join_seat-requires : goal.join_seat-requires
join_seat-requires g c =
    let t = c.requires.table in
    let r = c.requires.rests in
    (t.0.0, t.1, r.3, omega arith, join_allowed _ _ _ _ _ r.1 r.2 r.0 c.requires.some)

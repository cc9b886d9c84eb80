use Rattle.std.proofs.Common.{arith}
use Rattle.ups_turn.proofs.Meets.{deal_allowed}
use Rattle.ups_turn.proofs.turn.deal.Goals as goal

pub split_seat-requires : goal.split_seat-requires
split_seat-requires g c =
    let r = c.requires.table in
    (r.0, omega arith, deal_allowed _ _ _ c.requires.fresh.0 c.requires.fresh.1)

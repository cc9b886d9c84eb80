use Rattle.ups_turn.proofs.Opens.{seats_within}
use Rattle.ups_turn.proofs.desk.Desk.open.Goals as goal

pub with_seats-requires : goal.with_seats-requires
with_seats-requires g c = let e = c.are_seats.ensures in let h = c.if-not-are_seats.false in seats_within _ (cc)

use Rattle.std.proofs.Common.{◌≡◌}
use Rattle.ups_turn.proofs.turn.look_often.Given as goal

abbrev pub invariant-loop : goal.invariant-loop
invariant-loop g l = (l.place.table_id ≡ l.initial.place.table_id) × (l.place.id ≡ l.initial.place.id) × (l.place.me ≡ l.initial.place.me)

use Rattle.ups_index.proofs.Changed.{keeps_live, same_slots}
use Rattle.ups_index.proofs.Runs.{same_live}
use Rattle.ups_index.proofs.index.Index.make_room.Goals as goal

pub invariant_of-self-in_err-reserve-2 : goal.invariant_of-self-in_err-reserve-2
invariant_of-self-in_err-reserve-2 g c =
    same_slots c.self.inside.slots.slots c.reserve.new.self.slots _ _ _ c.reserve.ensures.slots (keeps_live c.self.inside.slots.slots _ _ _ _ _ _ c.self.invariant c.reserve-2.ensures.keeps (same_live _) (same_live _))

pub invariant_of-self-in_err-reserve-3 : goal.invariant_of-self-in_err-reserve-3
invariant_of-self-in_err-reserve-3 g c =
    same_slots c.self.inside.slots.slots c.reserve.new.self.slots _ _ _ c.reserve.ensures.slots (keeps_live c.self.inside.slots.slots _ _ _ _ _ _ c.self.invariant c.reserve-2.ensures.keeps c.reserve-3.ensures.keeps (same_live _))

pub invariant_of-self-2 : goal.invariant_of-self-2
invariant_of-self-2 g c =
    same_slots c.self.inside.slots.slots c.reserve.new.self.slots _ _ _ c.reserve.ensures.slots (keeps_live c.self.inside.slots.slots _ _ _ _ _ _ c.self.invariant c.reserve-2.ensures.keeps c.reserve-3.ensures.keeps c.reserve-4.ensures.keeps)

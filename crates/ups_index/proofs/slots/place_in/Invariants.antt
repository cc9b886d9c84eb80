use Rattle.ups_index.proofs.Placed.{LeadsNowhere}
use Rattle.ups_index.proofs.slots.place_in.Given as goal

abbrev pub invariant-loop-post : goal.invariant-loop-post
invariant-loop-post g l = LeadsNowhere l.slots.slots l.step l.post-iterator → LeadsNowhere l.slots.slots l.step l.fn.run

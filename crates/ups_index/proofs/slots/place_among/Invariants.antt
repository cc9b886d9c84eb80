use Rattle.std.proofs.Common.{take}
use Rattle.ups_index.proofs.Placed.{LeadsNowhere}
use Rattle.ups_index.proofs.slots.place_among.Given as goal

abbrev pub invariant-loop-post : goal.invariant-loop-post
invariant-loop-post g l = LeadsNowhere l.slots.slots l.step (take l.post-index l.posts)

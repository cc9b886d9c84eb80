use Rattle.std.proofs.Common.{drop}
use Rattle.ups_match.proofs.LanePlaces.{Keeps}
use Rattle.ups_match.proofs.runs.fits_nowhere_in_front.Given as goal

abbrev pub invariant-loop-i : goal.invariant-loop-i
invariant-loop-i l = Keeps l.run l.text l.i l.near_places × Keeps l.run (drop 64 l.text) l.i l.far_places

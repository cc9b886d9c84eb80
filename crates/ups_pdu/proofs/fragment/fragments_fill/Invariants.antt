use Rattle.std.proofs.Common.{length}
use Rattle.ups_pdu.specs.Fragment.{FragmentsFill}
use Rattle.ups_pdu.proofs.fragment.fragments_fill.Given as goal

abbrev pub invariant-loop-rest : goal.invariant-loop-rest
invariant-loop-rest l = record { back : FragmentsFill l.rest → FragmentsFill l.bytes; on : FragmentsFill l.bytes → FragmentsFill l.rest }

abbrev pub decreases-loop-rest : goal.decreases-loop-rest
decreases-loop-rest l = length l.rest

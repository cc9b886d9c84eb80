use Rattle.std.proofs.Common.{List, ◌++◌, length}
use Rattle.ups_pdu.specs.Each.{Each}
use Rattle.ups_pdu.specs.declared.pdv.Pdv.{Pdv}
use Rattle.ups_pdu.specs.Fragment.{FragmentsFill, SpellsPdv}
use Rattle.ups_pdu.proofs.fragment.pdvs_of.Given as goal

abbrev pub invariant-loop-context : goal.invariant-loop-context
invariant-loop-context g l = record {
  found : (tail : List (Pdv g.row.A.Denot)) → Each SpellsPdv l.rest tail → Each SpellsPdv l.body (l.pdvs.items ++ tail);
  on : FragmentsFill l.body → FragmentsFill l.rest;
}

abbrev pub decreases-loop-context : goal.decreases-loop-context
decreases-loop-context g l = length l.rest

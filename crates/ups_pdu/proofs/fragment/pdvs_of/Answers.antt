use Rattle.ups_pdu.specs.Fragment.{IsFragment}
use Rattle.ups_pdu.proofs.Filling.{fill_on}
use Rattle.ups_pdu.proofs.FragmentWays.{fragment_way, one_more, no_more}
use Rattle.ups_pdu.proofs.fragment.pdvs_of.Goals as goal

pub loop-context-preserved : goal.loop-context-preserved
loop-context-preserved g c = record {
  found = rw c.in_ok-push.ensures.items (one_more _ _ _ _ _ _ c.loop-context.invariant.found c.in-Some.ensures c.in_ok-pdv_of.ensures);
  on = λ f. fill_on IsFragment fragment_way _ _ _ c.in-Some.ensures (c.loop-context.invariant.on f);
}

pub returns : goal.returns
returns g c = λ f. rw c.from_vec.ensures (no_more _ _ _ c.loop-context.invariant.found c.in_default.ensures (c.loop-context.invariant.on f))

use Rattle.std.proofs.Common.{rules, ◌<◌, length}
use Rattle.ups_pdu.specs.Fragment.{IsFragment}
use Rattle.ups_pdu.proofs.Filling.{fill_none, fill_back, fill_on}
use Rattle.ups_pdu.proofs.FragmentWays.{fragment_way}
use Rattle.ups_pdu.proofs.fragment.fragments_fill.Goals as goal

pub returns-in_default : goal.returns-in_default
returns-in_default c =
    let some : 0 < length c.loop-rest.rest.now = search rules in
    (λ no. absurd cc, λ f. absurd (fill_none IsFragment _ some c.in_default.ensures (c.loop-rest.invariant.on f)))

pub loop-rest-preserved : goal.loop-rest-preserved
loop-rest-preserved c = record {
  back = λ f. c.loop-rest.invariant.back (fill_back IsFragment _ _ _ c.in-Some.ensures f);
  on = λ f. fill_on IsFragment fragment_way _ _ _ c.in-Some.ensures (c.loop-rest.invariant.on f);
}

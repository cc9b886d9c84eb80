use Rattle.std.proofs.Common.{rules, ◌<◌, length}
use Rattle.ups_pdu.proofs.Filling.{not_filled, never_filled, filled_back, filled_on}
use Rattle.ups_pdu.proofs.lengths.items_fill.Goals as goal

pub returns-in_default : goal.returns-in_default
returns-in_default g c =
    let some : 0 < length c.loop-rest.rest.now = search rules in
    (λ no. absurd cc, λ f. absurd (not_filled g.P.ItemPlace.filled _ some c.in_default.ensures (c.loop-rest.invariant.on f)))

pub returns-then-not-is_filled : goal.returns-then-not-is_filled
returns-then-not-is_filled g c =
    (λ no. absurd cc, λ f. absurd (never_filled g.P.ItemPlace.filled _ _ _ c.in-Some.ensures (search rules) (c.loop-rest.invariant.on f)))

pub loop-rest-preserved : goal.loop-rest-preserved
loop-rest-preserved g c = record {
  back = λ f. c.loop-rest.invariant.back (filled_back g.P.ItemPlace.filled _ _ _ c.in-Some.ensures (search rules) f);
  on = λ f. filled_on g.P.ItemPlace.filled _ _ _ c.in-Some.ensures (c.loop-rest.invariant.on f);
}

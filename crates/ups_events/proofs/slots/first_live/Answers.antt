use Rattle.std.proofs.Common.{rules, ◌≡◌, ◌<◌, ◌≤◌, ◌++◌, ◌∷◌, [], length, get_or, sym, subst, take, ◌+◌, List}
use Rattle.ups_life.specs.declared.event.Event.{Event}
use Rattle.ups_events.specs.Kept.{lives}
use Rattle.ups_events.proofs.SlotLists.{first_found, found_more}
use Rattle.ups_events.proofs.slots.first_live.Goals as goal

pub returns-then-len-max : goal.returns-then-len-max
returns-then-len-max g c =
    let enough : c.args.max ≤ length c.loop-place.found.items = search rules in
    first_found c.args.slots.now.items c.loop-place.place c.args.max c.loop-place.found.items c.loop-place.invariant.0 c.loop-place.invariant.1 enough

pub loop-place-preserved : goal.loop-place-preserved
loop-place-preserved g c =
    let less : length c.loop-place.found.items < c.args.max = search rules in
    let within : c.loop-place.place < length c.args.slots.now.items = search rules in
    let is : c.index.result.now ≡ get_or c.args.slots.now.items c.loop-place.place c.index.result.now = search rules in
    let found : c.add_live.new.found.items ≡ c.loop-place.found.items ++ lives (c.index.result.now ∷ []) = search rules in
    subst (λ (r : List Event). (r ≡ lives (take (c.loop-place.place + 1) c.args.slots.now.items)) × (length r ≤ c.args.max)) (sym found)
    (found_more c.args.slots.now.items c.loop-place.place c.args.max c.index.result.now c.loop-place.found.items within is c.loop-place.invariant.0 less)

use Rattle.std.proofs.Common.{ℕ, ◌+◌, get_or, refl, sym, subst}
use Rattle.ups_match.specs.Class.{first_view}
use Rattle.ups_index.proofs.Placed.{Ahead, none_before, ahead_more, ahead_first, ahead_end}
use Rattle.ups_index.proofs.slots.steps_at.Goals as goal

pub loop-place-init : goal.loop-place-init
loop-place-init g c = record { found = c.in_ok-steps.ensures.items; ahead = ahead_first (first_view c.args.first.now) c.args.slots.now.slots c.args.places.now c.requires.has }

pub visit-requires-clause-none : goal.visit-requires-clause-none
visit-requires-clause-none g c =
    none_before (first_view c.args.first.now) c.args.slots.now.slots c.args.places.now c.loop-place.next c.loop-place.place-index (get_or c.args.places.now c.loop-place.place-index 0) c.requires.sorted c.loop-place-test.true refl c.loop-place.invariant.ahead

pub loop-place-preserved : goal.loop-place-preserved
loop-place-preserved g c = record {
  found = c.in_ok-next.ensures.found;
  ahead = subst (λ (n : ℕ). Ahead (first_view c.args.first.now) c.args.slots.now.slots c.args.places.now n (c.loop-place.place-index + 1)) (sym c.in_ok-next.ensures.next)
      (ahead_more (first_view c.args.first.now) c.args.slots.now.slots c.args.places.now c.loop-place.next c.loop-place.place-index (get_or c.args.places.now c.loop-place.place-index 0) c.requires.sorted c.loop-place-test.true refl c.loop-place.invariant.ahead);
}

pub returns : goal.returns
returns g c = ahead_end (first_view c.args.first.now) c.args.slots.now.slots c.args.places.now c.loop-place.next c.loop-place.place-index c.loop-place.steps.items c.loop-place-test.false c.loop-place.invariant.found c.loop-place.invariant.ahead

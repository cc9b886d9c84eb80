use Rattle.std.proofs.Common.{take, ap, ◌∙◌}
use Rattle.std.specs.Option.{option_copied}
use Rattle.ups_life.specs.Steps.{past}
use Rattle.ups_life.specs.Watching.{watch_after, watch}
use Rattle.ups_life.specs.Filters.{filter_after, filter_now}
use Rattle.ups_life.proofs.Rows.{past_more}
use Rattle.ups_plain.proofs.Walks.{walk_step, walk_end}
use Rattle.ups_plain.proofs.walking.watch.Goals as goal

pub loop-place-preserved : goal.loop-place-preserved
loop-place-preserved g c =
    let es = past (take c.loop-place.place c.args.entries.now) in
    let e = c.index-entries-place.result in
    record {
      found = walk_step (λ es. watch c.args.configuration.now es c.args.ae c.args.step) c.args.entries.now c.loop-place.place e c.in_ok-found.found c.loop-place-test.true c.index-entries-place.is
          (c.in_ok-found.ensures.after ∙ ap (λ b. watch_after c.args.configuration.now es e c.args.ae c.args.step b e.request) c.loop-place.invariant.found);
      filter = walk_step (λ es. filter_now es c.args.ae) c.args.entries.now c.loop-place.place e (option_copied c.filter_after-filter.result) c.loop-place-test.true c.index-entries-place.is
          (c.filter_after-filter.ensures ∙ ap (λ f. filter_after c.args.ae f e.request) c.loop-place.invariant.filter);
      row = c.in_ok-found.ensures.row;
      earlier = c.in_ok-found.ensures.earlier;
    }

pub returns : goal.returns
returns g c = walk_end (λ es. watch c.args.configuration.now es c.args.ae c.args.step) c.args.entries.now c.loop-place.place c.loop-place.found c.loop-place-test.false c.loop-place.invariant.found

pub watch_after-requires-clause-entry : goal.watch_after-requires-clause-entry
watch_after-requires-clause-entry g c = past_more c.args.entries.now c.loop-place.place c.index-entries-place.result c.loop-place-test.true c.index-entries-place.is

pub watch_after-requires-clause-filter : goal.watch_after-requires-clause-filter
watch_after-requires-clause-filter g c = c.loop-place.invariant.filter

pub watch_after-requires-clause-row : goal.watch_after-requires-clause-row
watch_after-requires-clause-row g c = c.loop-place.invariant.row

pub watch_after-requires-clause-earlier : goal.watch_after-requires-clause-earlier
watch_after-requires-clause-earlier g c = c.loop-place.invariant.earlier

pub watch_after-requires-clause-within : goal.watch_after-requires-clause-within
watch_after-requires-clause-within g c = c.loop-place-test.true

pub watch_after-requires-clause-moments : goal.watch_after-requires-clause-moments
watch_after-requires-clause-moments g c = c.requires.moments

pub watch_after-requires-clause-offset : goal.watch_after-requires-clause-offset
watch_after-requires-clause-offset g c = c.requires.offset

use Rattle.std.proofs.Common.{◌<◌, length, arith, refl, sym, subst, ◌≡◌, ℕ, ◌≤◌, take, ap, ◌∙◌}
use Rattle.std.proofs.lemmas.Result.{err_from_is_err_and}
use Rattle.ups_life.specs.declared.entry.Entry.{Entry}
use Rattle.ups_life.specs.Settings.{IsMoment}
use Rattle.ups_plain.proofs.Depths.{walk_fails}
use Rattle.ups_life.proofs.Rows.{row_step}
use Rattle.ups_plain.proofs.Walks.{below}
use Rattle.ups_life.specs.Steps.{past, row_of}
use Rattle.ups_plain.proofs.rows.go_on.Goals as goal

-- where a walk stands that began at `first` and has come to `place`
not_beyond : (first place count n : ℕ) → n ≡ place → (first ≤ count → place ≤ count) → first ≤ count → n ≤ count
not_beyond first place count n is end begun = omega (arith, is, end begun)

there : (first place count n : ℕ) → n ≡ place → (first ≤ count → place ≤ count) → first ≤ count → count ≤ place → n ≡ count
there first place count n is end begun all = omega (arith, is, end begun, all)

reached : (place count n : ℕ) → n ≡ place → place < count → n ≤ count
reached place count n is low = omega arith

pub take_up-requires-clause-moment : goal.take_up-requires-clause-moment
take_up-requires-clause-moment g c =
    let low : c.loop-place.place < length c.args.entries.now = below c.loop-place.place c.args.count (length c.args.entries.now) c.loop-place-test.true c.requires.within in
    subst (λ (e : Entry g.row.A.Denot). IsMoment e.moment) (sym c.index-entries-place.is) (c.requires.moments c.loop-place.place c.index-entries-place.result low)

pub loop-place-preserved : goal.loop-place-preserved
loop-place-preserved g c =
    let low : c.loop-place.place < length c.args.entries.now = below c.loop-place.place c.args.count (length c.args.entries.now) c.loop-place-test.true c.requires.within in
    record {
      row = row_step c.args.configuration.now c.args.entries.now c.loop-place.place c.index-entries-place.result c.args.step c.loop-place.walk.row c.take_up.new.row low c.index-entries-place.is c.loop-place.invariant.row c.in_ok-take_up.ensures.row;
      count = refl;
    }

pub returns-clause-earlier : goal.returns-clause-earlier
returns-clause-earlier g c = not_beyond c.args.walk.now.count c.loop-place.place c.args.count c.loop-place.walk.count c.loop-place.invariant.count c.loop-place.auto.place-end c.requires.earlier

pub returns-clause-there : goal.returns-clause-there
returns-clause-there g c = there c.args.walk.now.count c.loop-place.place c.args.count c.loop-place.walk.count c.loop-place.invariant.count c.loop-place.auto.place-end c.requires.earlier c.loop-place-test.false

pub returns-in_err-take_up-clause-memory : goal.returns-in_err-take_up-clause-memory
returns-in_err-take_up-clause-memory g c =
    let low : c.loop-place.place < length c.args.entries.now = below c.loop-place.place c.args.count (length c.args.entries.now) c.loop-place-test.true c.requires.within in
    let p = err_from_is_err_and c.from_residual.result c.from_residual.ensures.1 in
    rw (p.1, p.2)
    (walk_fails c.args.configuration.now c.args.entries.now c.loop-place.place c.index-entries-place.result c.args.step c.loop-place.walk.row c.in_err-take_up.field-0.0 low c.index-entries-place.is c.loop-place.invariant.row
    c.in_err-take_up.ensures.named c.in_err-take_up.ensures.well_formed c.in_err-take_up.ensures.deep)

pub take_up-requires-clause-offset : goal.take_up-requires-clause-offset
take_up-requires-clause-offset g c = c.requires.offset

pub bounds-entries-place : goal.bounds-entries-place
bounds-entries-place g c = below c.loop-place.place c.args.count (length c.args.entries.now) c.loop-place-test.true c.requires.within

pub loop-place-init : goal.loop-place-init
loop-place-init g c = record { row = c.requires.row; count = refl }

pub returns-clause-row : goal.returns-clause-row
returns-clause-row g c = c.loop-place.invariant.row ∙ ap (λ i. row_of c.args.configuration.now (past (take i c.args.entries.now)) c.args.step) (sym c.loop-place.invariant.count)

pub returns-in_err-take_up-clause-row : goal.returns-in_err-take_up-clause-row
returns-in_err-take_up-clause-row g c = c.in_err-take_up.ensures.row ∙ c.loop-place.invariant.row ∙ ap (λ i. row_of c.args.configuration.now (past (take i c.args.entries.now)) c.args.step) (sym c.loop-place.invariant.count)

pub returns-in_err-take_up-clause-earlier : goal.returns-in_err-take_up-clause-earlier
returns-in_err-take_up-clause-earlier g c = reached c.loop-place.place c.args.count c.loop-place.walk.count c.loop-place.invariant.count c.loop-place-test.true

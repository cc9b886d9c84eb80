use Rattle.std.proofs.Common.{None, not, filter, cond, ◌+◌, length, sym, ap, ◌∙◌}
use Rattle.std.proofs.lemmas.Map.Steps.{set_value_same}
use Rattle.std.specs.Prelude.{is_some}
use Rattle.std.specs.Map.{set_value}
use Rattle.std.specs.Str.{bytes_eq}
use Rattle.ups_steps.specs.Places.{held_in}
use Rattle.ups_steps.proofs.Covering.{none_from, set_is_insert}
use Rattle.ups_steps.proofs.Placing.{held_by, found, freed, distinct_held, one_taken, none_taken}
use Rattle.ups_steps.proofs.places.free.Goals as goal

taken : goal.returns-in-Some-clause-steps
taken g c =
    ap held_in (c.get_mut.follows.holds c.take.new.self).0 ∙ ap (λ o. held_in (set_value (bytes_eq c.args.step) c.args.places.now.entries o)) c.take.ensures.after
    ∙ freed c.args.step c.args.places.now.entries c.len.ensures.unique

pub returns-in-Some-clause-steps : goal.returns-in-Some-clause-steps
returns-in-Some-clause-steps = taken

pub returns-in-Some-clause-count : goal.returns-in-Some-clause-count
returns-in-Some-clause-count g c =
    let es = c.args.places.now.entries in
    let was = c.is_some.ensures ∙ ap is_some (c.take.ensures.value ∙ ap held_by c.in-Some.ensures.value ∙ found c.args.step es c.len.ensures.unique) in
    ap (λ hs. length hs + cond c.is_some.result 1 0) (taken g c) ∙ ap (λ b. length (filter (λ e. not (bytes_eq c.args.step e.0)) (held_in es)) + cond b 1 0) was
    ∙ one_taken c.args.step (held_in es) (distinct_held es c.len.ensures.unique)

pub returns-in-None-clause-steps : goal.returns-in-None-clause-steps
returns-in-None-clause-steps g c =
    ap (λ m. held_in m.entries) c.get_mut.follows.holds-at-none
    ∙ sym (none_taken c.args.step (held_in c.args.places.now.entries) (sym (found c.args.step c.args.places.now.entries c.len.ensures.unique) ∙ ap held_by (sym c.in-None.ensures.value)))

pub returns-in-Some-clause-freed : goal.returns-in-Some-clause-freed
returns-in-Some-clause-freed g c =
    λ yes. (c.get_mut.follows.holds c.take.new.self).0 ∙ ap (set_value (bytes_eq c.args.step) c.args.places.now.entries) c.take.ensures.after
    ∙ set_is_insert c.args.step None c.in-Some.place.now c.args.places.now.entries (sym c.in-Some.ensures.value)

pub returns-in-Some-clause-same : goal.returns-in-Some-clause-same
returns-in-Some-clause-same g c =
    λ no. let none = none_from c.in-Some.place.now (sym (c.is_some.ensures ∙ ap is_some c.take.ensures.value) ∙ no) in
    (c.get_mut.follows.holds c.take.new.self).0 ∙ ap (set_value (bytes_eq c.args.step) c.args.places.now.entries) (c.take.ensures.after ∙ sym none)
    ∙ set_value_same (bytes_eq c.args.step) c.args.places.now.entries c.in-Some.place.now (sym c.in-Some.ensures.value)

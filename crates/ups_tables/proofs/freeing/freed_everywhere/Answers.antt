use Rattle.std.proofs.Common.{None, sym, ap, ◌∙◌, subst}
use Rattle.std.proofs.lemmas.Result.{IfOk-weaker}
use Rattle.ups_life.specs.Distinct.{Distinct}
use Rattle.ups_life.specs.Watching.{is_among}
use Rattle.ups_tables.specs.Fit.{AreFreed}
use Rattle.ups_tables.proofs.Frees.{keys_held, freed_of_all, distinct_keys}
use Rattle.ups_tables.proofs.freeing.freed_everywhere.Goals as goal

pub freed_steps-requires-clause-here : goal.freed_steps-requires-clause-here
freed_steps-requires-clause-here g c = λ u h. sym (ap (is_among u) c.deref.ensures.value ∙ keys_held c.args.tables.now c.in_ok-steps.steps.items c.in_ok-steps.ensures.uids u) ∙ h

pub freed_steps-requires-clause-once : goal.freed_steps-requires-clause-once
freed_steps-requires-clause-once g c = subst Distinct (sym c.deref.ensures.value) (distinct_keys c.in_ok-steps.steps.items c.args.tables.now.steps.entries c.in_ok-steps.ensures.uids c.uids.ensures.unique)

pub returns : goal.returns
returns g c =
    IfOk-weaker c.freed_steps.result (λ v. AreFreed c.args.tables.now c.args.peer None (λ u. is_among u c.deref.result.now) v.items) _
    (λ v f. freed_of_all c.args.tables.now c.args.peer c.in_ok-steps.steps.items c.deref.result.now v.items c.in_ok-steps.ensures.uids c.deref.ensures.value f) c.freed_steps.ensures

use Rattle.std.proofs.Common.{None, sym, ap, ◌∙◌, subst}
use Rattle.ups_life.specs.Distinct.{Distinct}
use Rattle.ups_keep.specs.declared.due.Final.{Final}
use Rattle.ups_keep.specs.Waits.{steps_of, waits}
use Rattle.ups_keep.proofs.Waiting.{waits_removed, distinct_removed}
use Rattle.ups_tables.proofs.Follows.{nothing_changes}
use Rattle.ups_tables.proofs.settling.take_if.Goals as goal

pub returns-in-Some-clause-waits : goal.returns-in-Some-clause-waits
returns-in-Some-clause-waits g c =
    let x : Final = record { moment = c.in-Some.moment; step = c.args.step } in
    λ u. ap (waits u) c.take.ensures.steps ∙ waits_removed x c.args.due.now.steps c.requires.once (c.requires.before ∙ c.in-Some.is) u

pub returns-in-Some-clause-once : goal.returns-in-Some-clause-once
returns-in-Some-clause-once g c =
    let x : Final = record { moment = c.in-Some.moment; step = c.args.step } in
    subst (λ xs. Distinct (steps_of xs)) (sym c.take.ensures.steps) (distinct_removed x c.args.due.now.steps c.requires.once)

pub returns-in-None-clause-waits : goal.returns-in-None-clause-waits
returns-in-None-clause-waits g c = λ u. nothing_changes c.args.step u c.args.due.now.steps None (c.requires.before ∙ c.in-None.is)

use Rattle.std.proofs.Common.{cond, sym, ap, ◌∙◌, subst}
use Rattle.std.specs.Str.{bytes_eq}
use Rattle.ups_life.specs.Distinct.{Distinct}
use Rattle.ups_keep.specs.declared.due.Final.{Final}
use Rattle.ups_keep.specs.Waits.{steps_of, waits}
use Rattle.ups_keep.proofs.Waiting.{waits_inserted, distinct_inserted}
use Rattle.ups_tables.proofs.Follows.{nothing_changes}
use Rattle.ups_tables.proofs.settling.add_if.Goals as goal

pub returns-in-Some-clause-waits : goal.returns-in-Some-clause-waits
returns-in-Some-clause-waits g c =
    let x : Final = record { moment = c.in-Some.moment; step = c.args.step } in
    λ u. ap (waits u) c.add.ensures.steps ∙ waits_inserted x c.args.due.now.steps c.requires.absent u ∙ ap (λ o. cond (bytes_eq c.args.step u) o (waits u c.args.due.now.steps)) (sym c.in-Some.is)

pub returns-in-Some-clause-once : goal.returns-in-Some-clause-once
returns-in-Some-clause-once g c =
    let x : Final = record { moment = c.in-Some.moment; step = c.args.step } in
    subst (λ xs. Distinct (steps_of xs)) (sym c.add.ensures.steps) (distinct_inserted x c.args.due.now.steps c.requires.absent c.requires.once)

pub returns-in-None-clause-waits : goal.returns-in-None-clause-waits
returns-in-None-clause-waits g c = λ u. nothing_changes c.args.step u c.args.due.now.steps c.args.after (c.requires.absent ∙ sym c.in-None.is)

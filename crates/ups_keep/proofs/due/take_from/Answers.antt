use Rattle.std.proofs.Common.{rules, ◌≡◌, sym, ◌∙◌, subst}
use Rattle.std.specs.List.{remove}
use Rattle.std.specs.List.Sorted.{IsNonDecreasingBy}
use Rattle.ups_keep.specs.Due.{moment_of}
use Rattle.ups_keep.proofs.Dues.{none_removed, one_removed, sorted_remove}
use Rattle.ups_keep.proofs.due.take_from.Goals as goal

pub returns-in-Some-clause-steps : goal.returns-in-Some-clause-steps
returns-in-Some-clause-steps g c =
    let is : c.remove.new.self.items ≡ remove c.args.steps.now.items c.in-Some.place = search rules in
    is ∙ one_removed c.args.step.now c.args.steps.now.items c.in-Some.place c.in-Some.ensures.0 c.in-Some.ensures.1 c.in-Some.ensures.2

pub returns-in-Some-clause-sorted : goal.returns-in-Some-clause-sorted
returns-in-Some-clause-sorted g c =
    let is : c.remove.new.self.items ≡ remove c.args.steps.now.items c.in-Some.place = search rules in
    subst (IsNonDecreasingBy moment_of) (sym is) (sorted_remove c.args.steps.now.items c.in-Some.place c.in-Some.ensures.0 c.requires)

pub returns-in_default-clause-steps : goal.returns-in_default-clause-steps
returns-in_default-clause-steps g c = none_removed c.args.step.now c.args.steps.now.items c.in_default.ensures

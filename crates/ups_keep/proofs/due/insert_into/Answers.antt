use Rattle.std.proofs.Common.{rules, arith, ◌≡◌, sym, ◌∙◌, subst}
use Rattle.std.specs.List.{insert}
use Rattle.std.specs.List.Sorted.{IsNonDecreasingBy}
use Rattle.std.proofs.lemmas.List.Sorted.{IsNonDecreasingBy-insert}
use Rattle.ups_keep.specs.Due.{moment_of}
use Rattle.ups_keep.proofs.Dues.{insert_is}
use Rattle.ups_keep.proofs.due.insert_into.Goals as goal

pub returns-clause-steps : goal.returns-clause-steps
returns-clause-steps g c =
    let is : c.insert.new.self.items ≡ insert c.args.steps.now.items c.place_behind-place.result c.args.step = search rules in
    is ∙ insert_is c.args.steps.now.items c.place_behind-place.result c.args.step c.place_behind-place.ensures.within c.place_behind-place.ensures.before c.place_behind-place.ensures.after

pub returns-clause-sorted : goal.returns-clause-sorted
returns-clause-sorted g c =
    let xs = c.args.steps.now.items in
    let place = c.place_behind-place.result in
    let is : c.insert.new.self.items ≡ insert c.args.steps.now.items c.place_behind-place.result c.args.step = search rules in
    subst (IsNonDecreasingBy moment_of) (sym is) (IsNonDecreasingBy-insert moment_of xs place c.args.step c.requires.order c.place_behind-place.ensures.within (λ k d l. c.place_behind-place.ensures.before k d l)
    (λ k d a l. let h = c.place_behind-place.ensures.after k d a l in omega (arith, h)))

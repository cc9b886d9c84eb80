use Rattle.std.proofs.Common.{rules, ◌≡◌, List, IfOk, subst}
use Rattle.ups_keep.specs.declared.due.Final.{Final}
use Rattle.ups_keep.proofs.Dues.{front_is}
use Rattle.ups_keep.proofs.due.list_up_to.Goals as goal

pub returns : goal.returns
returns g c =
    let k = c.place_behind-end.result in
    let xs = c.args.steps.now.items in
    subst (λ (ys : List Final). IfOk c.collect.result (λ v. v.items ≡ ys)) (front_is c.args.moment xs k c.place_behind-end.ensures.within c.place_behind-end.ensures.before c.place_behind-end.ensures.after) (search rules)

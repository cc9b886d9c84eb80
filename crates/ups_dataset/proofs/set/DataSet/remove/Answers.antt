use Rattle.std.proofs.Common.{rules, map, not, sym, subst, ◌∙◌}
use Rattle.std.proofs.lemmas.Fn.{filter_same}
use Rattle.ups_dataset.specs.Tag.{is_tag}
use Rattle.ups_dataset.specs.Valid.{IsDataSet}
use Rattle.ups_dataset.specs.View.{element_view}
use Rattle.ups_dataset.proofs.Places.{filtered, left_views}
use Rattle.ups_dataset.proofs.set.DataSet.remove.Goals as goal

pub invariant_of-self : goal.invariant_of-self
invariant_of-self g c =
    let left = left_views c.args.tag _ _ (filter_same _ _ _ (λ x b f' k. search rules) _ _ c.retain.ensures.filtered) in
    record { is = subst IsDataSet (sym left) (filtered (λ e. not (is_tag e.tag c.args.tag)) 0 (map element_view c.self.inside.elements.items) c.self.invariant.is) }

pub returns : goal.returns
returns g c = rw (← c.self.view_is) (left_views c.args.tag _ _ (filter_same _ _ _ (λ x b f' k. search rules) _ _ c.retain.ensures.filtered))

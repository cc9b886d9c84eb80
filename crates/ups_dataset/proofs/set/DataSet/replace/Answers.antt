use Rattle.std.proofs.Common.{rules, map}
use Rattle.ups_dataset.specs.View.{element_view}
use Rattle.ups_dataset.proofs.Places.{after_put, on_err_map}
use Rattle.ups_dataset.proofs.set.DataSet.replace.Goals as goal

pub invariant_of-self : goal.invariant_of-self
invariant_of-self g c =
    let put_is = after_put c.put.result (element_view c.args.element) (map element_view c.self.inside.elements.items) (map element_view c.put.new.elements.items) c.put.ensures.ok
    (on_err_map c.put.result element_view c.put.new.elements.items c.self.inside.elements.items c.put.ensures.err)
    (record { group = search rules; element = search rules }) c.requires c.items_are_sets.ensures c.self.invariant.is in
    record { is = put_is }

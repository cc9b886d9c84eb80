use Rattle.std.proofs.Common.{None, slice_set, ap, ◌∙◌}
use Rattle.ups_index.specs.Slots.{Slots}
use Rattle.ups_index.proofs.Tabled.{slots_changed}
use Rattle.ups_index.proofs.slot_table.SlotTable.empty.Goals as goal

pub returns-clause-slots : goal.returns-clause-slots
returns-clause-slots g c =
    slots_changed c.self.inside.held.entries c.remove.new.self.entries c.args.place None c.remove.ensures.updates.0 c.self.inside.len ∙ ap (λ (t : Slots). slice_set t.slots c.args.place None) c.self.view_is

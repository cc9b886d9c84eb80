use Rattle.std.proofs.Common.{length, sym, ap, ◌∙◌}
use Rattle.ups_index.specs.Slots.{Slots}
use Rattle.ups_index.proofs.Tabled.{slots_len}
use Rattle.ups_index.proofs.slot_table.SlotTable.len.Goals as goal

pub returns : goal.returns
returns g c = sym (slots_len c.self.inside.held.entries 0 c.self.inside.len) ∙ ap (λ (t : Slots). length t.slots) c.self.view_is

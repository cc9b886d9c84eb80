use Rattle.std.proofs.Common.{None, sym, ap, ◌∙◌, arith, slice_index_or}
use Rattle.std.specs.Option.{option_map}
use Rattle.ups_index.specs.Slots.{Slots, seen_step}
use Rattle.ups_index.proofs.Tabled.{slot_is, none_at, seen_lent}
use Rattle.ups_index.proofs.slot_table.SlotTable.get.Goals as goal

pub returns-then-place-self : goal.returns-then-place-self
returns-then-place-self g c = sym (none_at c.self.inside.held.entries 0 c.self.inside.len c.args.place (omega arith)) ∙ ap (λ (t : Slots). slice_index_or t.slots c.args.place None) c.self.view_is

pub returns : goal.returns
returns g c =
    seen_lent c.get.result ∙ ap (option_map seen_step) c.get.ensures.value ∙ sym (slot_is c.self.inside.held.entries c.self.inside.len c.args.place (omega arith))
    ∙ ap (λ (t : Slots). slice_index_or t.slots c.args.place None) c.self.view_is

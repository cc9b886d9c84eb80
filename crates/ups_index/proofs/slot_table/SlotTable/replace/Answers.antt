use Rattle.std.proofs.Common.{Some, None, IsSome, slice_index_or, slice_set, sym, subst, ap, ◌∙◌}
use Rattle.ups_index.specs.Slots.{Slots, seen_step}
use Rattle.ups_index.proofs.Tabled.{none_in, slots_changed}
use Rattle.ups_index.proofs.slot_table.SlotTable.replace.Goals as goal

pub unreachable-requires : goal.unreachable-requires
unreachable-requires g c =
    none_in c.self.inside.held.entries c.self.inside.len c.args.place (subst (λ (t : Slots). IsSome (slice_index_or t.slots c.args.place None)) (sym c.self.view_is) c.requires) c.in_default.ensures.absent

pub returns : goal.returns
returns g c = record {
  slots =
      slots_changed c.self.inside.held.entries c.insert.new.self.entries c.args.place (Some c.args.indexed) c.in-Ok.ensures.updates.0 c.self.inside.len
      ∙ ap (λ (t : Slots). slice_set t.slots c.args.place (Some (seen_step c.args.indexed))) c.self.view_is;
}

use Rattle.std.proofs.Common.{◌≡◌, ◌++◌, ◌∷◌, [], Some, length, refl, sym, ap, ◌∙◌, arith}
use Rattle.ups_index.specs.Slots.{Slots, seen_step}
use Rattle.ups_index.proofs.Tabled.{slots_len, slots_pushed}
use Rattle.ups_index.proofs.slot_table.SlotTable.push.Goals as goal

pub overflow_cast-self-inside : goal.overflow_cast-self-inside
overflow_cast-self-inside g c =
    let is : c.self.inside.len ≡ length c.args.self.now.slots = sym (slots_len c.self.inside.held.entries 0 c.self.inside.len) ∙ ap (λ (t : Slots). length t.slots) c.self.view_is in
    record { fits = omega (arith, is, c.requires.few) }

pub overflow_add-self : goal.overflow_add-self
overflow_add-self g c =
    let is : c.self.inside.len ≡ length c.args.self.now.slots = sym (slots_len c.self.inside.held.entries 0 c.self.inside.len) ∙ ap (λ (t : Slots). length t.slots) c.self.view_is in
    record { fits = omega (arith, is, c.requires.few) }

pub returns-clause-slots : goal.returns-clause-slots
returns-clause-slots g c =
    slots_pushed c.self.inside.held.entries c.insert.new.self.entries c.self.inside.len (Some c.args.indexed) c.in-Ok.ensures.updates.0 c.self.inside.len refl
    ∙ ap (λ (t : Slots). t.slots ++ Some (seen_step c.args.indexed) ∷ []) c.self.view_is

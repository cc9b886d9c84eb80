use Rattle.std.proofs.Common.{◌^◌, ◌≤◌, None, length, sym, subst, ap, ◌∙◌}
use Rattle.std.proofs.lemmas.List.{length-set}
use Rattle.std.specs.Option.{option_map}
use Rattle.ups_index.specs.Indexed.{Contents, without_uid}
use Rattle.ups_index.specs.Slots.{seen_slots, seen_step}
use Rattle.ups_index.proofs.Changed.{same_slots, drop_keeps, dropped_slots, undropped}
use Rattle.ups_index.proofs.Placed.{never_some}
use Rattle.ups_index.proofs.Room.{no_less, room_kept}
use Rattle.ups_index.proofs.index.Index.remove.Goals as goal

pub place_of-requires : goal.place_of-requires
place_of-requires g c = c.self.invariant.steps_posted

pub returns-in_default-clause-steps : goal.returns-in_default-clause-steps
returns-in_default-clause-steps g c = undropped c.self.inside.slots.slots c.args.step c.in_default.ensures ∙ ap (λ (s : Contents). without_uid c.args.step s.steps) c.self.view_is

pub unreachable-requires : goal.unreachable-requires
unreachable-requires g c = let (old, is) = c.in-Some.ensures in never_some (c.args.step, old) (sym (ap (option_map (λ x. seen_step x.now)) c.in_default-get.is) ∙ c.get.ensures ∙ is)

pub invariant_of-self-2 : goal.invariant_of-self-2
invariant_of-self-2 g c =
    let (old, is) = c.in-Some.ensures in
    same_slots _ c.empty.new.self.slots _ _ _ c.empty.ensures.slots
    (drop_keeps c.self.inside.slots.slots c.in-Some.place c.args.step old is c.self.inside.steps.posts c.self.inside.texts.posts c.self.inside.starts.posts c.take.new.self.posts c.take_values.new.texts.posts c.take_values.new.starts.posts c.self.invariant
    c.take.ensures.keeps c.take_values.ensures.texts c.take_values.ensures.starts)

pub returns-clause-steps : goal.returns-clause-steps
returns-clause-steps g c =
    let (old, is) = c.in-Some.ensures in
    ap seen_slots c.empty.ensures.slots ∙ dropped_slots c.self.inside.slots.slots c.in-Some.place c.args.step old is (λ place u q. c.self.invariant.one_slot place c.in-Some.place c.args.step u old q is)
    ∙ ap (λ (s : Contents). without_uid c.args.step s.steps) c.self.view_is

pub returns-in_default-clause-offset : goal.returns-in_default-clause-offset
returns-in_default-clause-offset g c = ap (λ (s : Contents). s.offset) c.self.view_is

pub returns-in_default-clause-spare : goal.returns-in_default-clause-spare
returns-in_default-clause-spare g c = subst (λ (s : Contents). c.args.self.now.spare ≤ s.spare) (sym c.self.view_is) (no_less c.args.self.now.spare)

pub returns-clause-offset : goal.returns-clause-offset
returns-clause-offset g c = ap (λ (s : Contents). s.offset) c.self.view_is

pub returns-clause-spare : goal.returns-clause-spare
returns-clause-spare g c =
    room_kept c.self.inside.slots.room (length c.self.inside.slots.slots) (2 ^ 32) c.self.inside.steps.room c.self.inside.texts.room c.self.inside.starts.room c.args.self.now.spare (ap (λ (s : Contents). s.spare) c.self.view_is)
    c.empty.new.self.room (length c.empty.new.self.slots) c.take.new.self.room c.take_values.new.texts.room c.take_values.new.starts.room c.empty.ensures.room (ap length c.empty.ensures.slots ∙ length-set c.self.inside.slots.slots c.in-Some.place None) c.take.ensures.room c.take_values.ensures.text_room c.take_values.ensures.start_room

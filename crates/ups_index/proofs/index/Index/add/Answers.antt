use Rattle.std.proofs.Common.{◌≡◌, ℕ, ◌+◌, ◌<◌, ◌≤◌, ◌^◌, ◌++◌, ◌∷◌, [], arith, Some, length, length-append, sym, subst, ap, ◌∙◌}
use Rattle.ups_index.specs.Indexed.{Contents, has_step}
use Rattle.ups_index.specs.Slots.{seen_slots}
use Rattle.ups_index.specs.Numbers.{step_number}
use Rattle.ups_index.proofs.Changed.{same_slots, add_keeps, not_there, moved, texts_moved, start_moved, seen_push}
use Rattle.ups_index.proofs.Room.{slot_room, step_room, text_room, start_room, room_left, viewed_len}
use Rattle.ups_index.proofs.index.Index.add.Goals as goal

pub invariant_of-self : goal.invariant_of-self
invariant_of-self g c =
    let slots = c.self.inside.slots.slots in
    let at : c.len-place.result ≡ length slots = c.len-place.ensures in
    let room = ap (λ (s : Contents). s.spare) c.self.view_is in
    let few : length slots < 2 ^ 32 = omega (arith, c.requires.room, room) in
    let absent = not_there slots c.args.step (ap (λ (s : Contents). has_step c.args.step s.steps) c.self.view_is ∙ c.requires.absent) in
    same_slots (slots ++ Some (c.args.step, c.args.values) ∷ []) c.push.new.self.slots _ _ _ c.push.ensures.slots
    (add_keeps slots c.args.step c.args.values absent few c.self.inside.steps.posts c.self.inside.texts.posts c.self.inside.starts.posts c.put.new.self.posts c.put_texts.new.table.posts c.put_start.new.table.posts c.self.invariant c.put.ensures.keeps c.put_texts.ensures.keeps c.put_start.ensures.keeps
    (moved c.put.new.self.posts c.step_number.result (step_number c.args.step) c.len-place.result (length slots) (c.step_number.ensures ∙ ap step_number c.as_bytes.ensures.bytes) at c.put.ensures.has)
    (texts_moved c.put_texts.new.table.posts _ c.args.values.texts c.len-place.result (length slots) c.texts.ensures at c.put_texts.ensures.has)
    (start_moved c.put_start.new.table.posts c.start.result c.args.values.start c.len-place.result (length slots) c.start.ensures at c.put_start.ensures.has))

pub returns-clause-steps : goal.returns-clause-steps
returns-clause-steps g c =
    ap seen_slots c.push.ensures.slots ∙ seen_push c.self.inside.slots.slots c.args.step c.args.values ∙ ap (λ (s : Contents). s.steps ++ (c.args.step, c.args.values) ∷ []) c.self.view_is

pub put-requires : goal.put-requires
put-requires g c = step_room c.self.inside.slots.room (length c.self.inside.slots.slots) (2 ^ 32) c.self.inside.steps.room c.self.inside.texts.room c.self.inside.starts.room c.args.self.now.spare (ap (λ (s : Contents). s.spare) c.self.view_is) (length c.args.values.texts) c.requires.room

pub put_texts-requires : goal.put_texts-requires
put_texts-requires g c =
    subst (λ (n : ℕ). n ≤ c.self.inside.texts.room) (sym (viewed_len c.texts.result.now c.args.values.texts c.texts.ensures))
    (text_room c.self.inside.slots.room (length c.self.inside.slots.slots) (2 ^ 32) c.self.inside.steps.room c.self.inside.texts.room c.self.inside.starts.room c.args.self.now.spare (ap (λ (s : Contents). s.spare) c.self.view_is) (length c.args.values.texts) c.requires.room)

pub put_start-requires : goal.put_start-requires
put_start-requires g c = start_room c.self.inside.slots.room (length c.self.inside.slots.slots) (2 ^ 32) c.self.inside.steps.room c.self.inside.texts.room c.self.inside.starts.room c.args.self.now.spare (ap (λ (s : Contents). s.spare) c.self.view_is) (length c.args.values.texts) c.requires.room

pub push-requires-clause-room : goal.push-requires-clause-room
push-requires-clause-room g c = slot_room c.self.inside.slots.room (length c.self.inside.slots.slots) (2 ^ 32) c.self.inside.steps.room c.self.inside.texts.room c.self.inside.starts.room c.args.self.now.spare (ap (λ (s : Contents). s.spare) c.self.view_is) (length c.args.values.texts) c.requires.room

pub push-requires-clause-few : goal.push-requires-clause-few
push-requires-clause-few g c =
    let room = ap (λ (s : Contents). s.spare) c.self.view_is in
    omega (arith, c.requires.room, room)

pub returns-clause-offset : goal.returns-clause-offset
returns-clause-offset g c = ap (λ (s : Contents). s.offset) c.self.view_is

pub returns-clause-spare : goal.returns-clause-spare
returns-clause-spare g c =
    let texts = subst (λ (n : ℕ). c.self.inside.texts.room ≤ c.put_texts.new.table.room + n) (viewed_len c.texts.result.now c.args.values.texts c.texts.ensures) c.put_texts.ensures.room in
    room_left c.self.inside.slots.room (length c.self.inside.slots.slots) (2 ^ 32) c.self.inside.steps.room c.self.inside.texts.room c.self.inside.starts.room c.args.self.now.spare (ap (λ (s : Contents). s.spare) c.self.view_is) (length c.args.values.texts)
    c.push.new.self.room (length c.push.new.self.slots) c.put.new.self.room c.put_texts.new.table.room c.put_start.new.table.room
    (ap length c.push.ensures.slots ∙ length-append c.self.inside.slots.slots (Some (c.args.step, c.args.values) ∷ [])) c.push.ensures.room c.put.ensures.room texts c.put_start.ensures.room

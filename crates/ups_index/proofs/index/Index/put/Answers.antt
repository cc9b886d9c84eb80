use Rattle.std.proofs.Common.{◌^◌, is_some, ◌++◌, ◌∷◌, [], length, sym, subst, ap, ◌∙◌}
use Rattle.std.specs.Option.{option_map}
use Rattle.ups_index.specs.Indexed.{Contents, has_step, put_values}
use Rattle.ups_index.specs.Posts.{HasTexts, HasStart}
use Rattle.ups_index.specs.Slots.{seen_slots, seen_step}
use Rattle.ups_index.specs.Stored.{RowValues}
use Rattle.ups_index.proofs.Changed.{same_slots, alter_keeps, altered_slots, absent_has, put_there, put_behind}
use Rattle.ups_index.proofs.Placed.{values_in, never_some}
use Rattle.ups_index.proofs.Exchanged.{start_has, has_start}
use Rattle.ups_index.proofs.Room.{text_room, start_room}
use Rattle.ups_index.proofs.Runs.{same_live}
use Rattle.ups_index.proofs.index.Index.put.Goals as goal

pub place_of-requires : goal.place_of-requires
place_of-requires g c = c.self.invariant.steps_posted

pub add-requires-clause-absent : goal.add-requires-clause-absent
add-requires-clause-absent g c = sym (ap (λ (s : Contents). has_step c.args.step s.steps) c.self.view_is) ∙ absent_has c.self.inside.slots.slots c.args.step c.in_default.ensures

pub returns-in_default-clause-steps : goal.returns-in_default-clause-steps
returns-in_default-clause-steps g c =
    c.add.ensures.steps ∙ sym (ap (λ (s : Contents). s.steps ++ (c.args.step, c.args.values) ∷ []) c.self.view_is)
    ∙ put_behind c.self.inside.slots.slots c.args.step c.args.values c.in_default.ensures
    ∙ ap (λ (s : Contents). put_values c.args.step c.args.values s.steps) c.self.view_is

pub unreachable-requires : goal.unreachable-requires
unreachable-requires g c = let (old, is) = c.in-Some.ensures in never_some (c.args.step, old) (sym (ap (option_map (λ x. seen_step x.now)) c.in_default-get.is) ∙ c.get.ensures ∙ is)

pub invariant_of-self : goal.invariant_of-self
invariant_of-self g c =
    let (old, is) = c.in-Some.ensures in
    let t = c.exchange_values.new.texts.posts in
    let p = c.exchange_values.new.starts.posts in
    same_slots _ c.replace.new.self.slots _ _ _ c.replace.ensures.slots
    (alter_keeps c.self.inside.slots.slots c.in-Some.place c.args.step old is c.args.values c.self.inside.steps.posts c.self.inside.texts.posts c.self.inside.starts.posts t p t p c.self.invariant
    c.exchange_values.ensures.keeps_texts c.exchange_values.ensures.keeps_starts (same_live t) (same_live p) c.exchange_values.ensures.texts (start_has c.args.values.start c.in-Some.place p c.exchange_values.ensures.starts))

pub returns-clause-steps : goal.returns-clause-steps
returns-clause-steps g c =
    let (old, is) = c.in-Some.ensures in
    ap seen_slots c.replace.ensures.slots ∙ altered_slots c.self.inside.slots.slots c.in-Some.place c.args.step old c.args.values is (λ place u q. c.self.invariant.one_slot place c.in-Some.place c.args.step u old q is)
    ∙ put_there c.self.inside.slots.slots c.args.step c.args.values c.in-Some.place old is
    ∙ ap (λ (s : Contents). put_values c.args.step c.args.values s.steps) c.self.view_is

pub replace-requires : goal.replace-requires
replace-requires g c = let (old, is) = c.in-Some.ensures in ap is_some is

pub exchange_values-requires-clause-texts : goal.exchange_values-requires-clause-texts
exchange_values-requires-clause-texts g c =
    let (old, is) = c.in-Some.ensures in
    let same = values_in c.args.step c.in-Some-get.indexed.now.step old c.in-Some-get.indexed.now.values (sym is ∙ sym c.get.ensures ∙ ap (option_map (λ x. seen_step x.now)) c.in-Some-get.is) in
    subst (λ (v : RowValues). HasTexts v.texts c.in-Some.place c.self.inside.texts.posts) same (c.self.invariant.texts_posted c.in-Some.place c.args.step old is)

pub exchange_values-requires-clause-starts : goal.exchange_values-requires-clause-starts
exchange_values-requires-clause-starts g c =
    let (old, is) = c.in-Some.ensures in
    let same = values_in c.args.step c.in-Some-get.indexed.now.step old c.in-Some-get.indexed.now.values (sym is ∙ sym c.get.ensures ∙ ap (option_map (λ x. seen_step x.now)) c.in-Some-get.is) in
    subst (λ (v : RowValues). HasStart v.start c.in-Some.place c.self.inside.starts.posts) same
    (has_start old.start c.in-Some.place c.self.inside.starts.posts (c.self.invariant.starts_posted c.in-Some.place c.args.step old is))

pub exchange_values-requires-clause-text_room : goal.exchange_values-requires-clause-text_room
exchange_values-requires-clause-text_room g c = text_room c.self.inside.slots.room (length c.self.inside.slots.slots) (2 ^ 32) c.self.inside.steps.room c.self.inside.texts.room c.self.inside.starts.room c.args.self.now.spare (ap (λ (s : Contents). s.spare) c.self.view_is) (length c.args.values.texts) c.requires

pub exchange_values-requires-clause-start_room : goal.exchange_values-requires-clause-start_room
exchange_values-requires-clause-start_room g c = start_room c.self.inside.slots.room (length c.self.inside.slots.slots) (2 ^ 32) c.self.inside.steps.room c.self.inside.texts.room c.self.inside.starts.room c.args.self.now.spare (ap (λ (s : Contents). s.spare) c.self.view_is) (length c.args.values.texts) c.requires

pub add-requires-clause-room : goal.add-requires-clause-room
add-requires-clause-room g c = c.requires

pub returns-in_default-clause-offset : goal.returns-in_default-clause-offset
returns-in_default-clause-offset g c = c.add.ensures.offset

pub returns-clause-offset : goal.returns-clause-offset
returns-clause-offset g c = ap (λ (s : Contents). s.offset) c.self.view_is

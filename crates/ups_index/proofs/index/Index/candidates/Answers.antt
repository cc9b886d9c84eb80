use Rattle.std.proofs.Common.{FitsSigned, w16, rules, sym, ap, ◌∙◌, refl}
use Rattle.std.proofs.lemmas.Int.{to_z-of_z}
use Rattle.ups_match.specs.Class.{first_view, first_key}
use Rattle.ups_index.proofs.Placed.{texts_lead, starts_lead, class_same}
use Rattle.ups_index.proofs.index.Index.candidates.Goals as goal

pub look_up-requires : goal.look_up-requires
look_up-requires g c =
    texts_lead c.self.inside.slots.slots c.self.inside.texts.posts c.in-Value.tag c.in-Value.text.now c.text_number-number.result (first_view c.first-first.result) (ap first_view c.in-Value.is) c.text_number-number.ensures c.self.invariant.texts_posted

pub look_up-requires-in-Start : goal.look_up-requires-in-Start
look_up-requires-in-Start g c =
    starts_lead c.self.inside.slots.slots c.self.inside.starts.posts c.in-Start.span c.low_number-low.result c.high_number-high.result (first_view c.first-first.result) (ap first_view c.in-Start.is)
    c.low_number-low.ensures c.high_number-high.ensures c.self.invariant.starts_posted

pub returns-in_ok-found-in-Value : goal.returns-in_ok-found-in-Value
returns-in_ok-found-in-Value g c =
    let fits : FitsSigned w16 c.self.inside.offset = search rules in
    let first = rw (to_z-of_z w16 c.self.inside.offset fits) at c.first-first.ensures in
    rw (← c.self.view_is) (c.in_ok-found-in-Value.ensures ∙ class_same c.self.inside.slots.slots (first_view c.first-first.result) (first_key c.self.inside.offset c.args.keys.now) _ first refl)

pub returns-in_ok-found-in-Start : goal.returns-in_ok-found-in-Start
returns-in_ok-found-in-Start g c =
    let fits : FitsSigned w16 c.self.inside.offset = search rules in
    let first = rw (to_z-of_z w16 c.self.inside.offset fits) at c.first-first.ensures in
    rw (← c.self.view_is) (c.in_ok-found-in-Start.ensures ∙ class_same c.self.inside.slots.slots (first_view c.first-first.result) (first_key c.self.inside.offset c.args.keys.now) _ first refl)

pub returns-in-All : goal.returns-in-All
returns-in-All g c =
    let fits : FitsSigned w16 c.self.inside.offset = search rules in
    let first = rw (to_z-of_z w16 c.self.inside.offset fits) at c.first-first.ensures in
    rw (← c.self.view_is) (sym (sym (ap first_view c.in-All.is) ∙ first))

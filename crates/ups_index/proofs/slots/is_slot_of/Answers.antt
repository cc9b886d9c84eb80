use Rattle.std.proofs.Common.{sym, ◌∙◌, ap}
use Rattle.ups_index.specs.Slots.{seen_step}
use Rattle.std.specs.Option.{option_map}
use Rattle.ups_index.proofs.Placed.{slot_held, never_some}
use Rattle.ups_index.proofs.slots.is_slot_of.Goals as goal

pub returns-in-Some : goal.returns-in-Some
returns-in-Some g c =
    slot_held c.args.slots.now.slots c.args.place c.args.step c.in-Some.indexed.now.step c.in-Some.indexed.now.values (sym c.get.ensures ∙ ap (option_map (λ x. seen_step x.now)) c.in-Some.is) c.eq.result c.eq.ensures

pub returns-in-None : goal.returns-in-None
returns-in-None g c = λ values r. never_some (c.args.step, values) (sym (ap (option_map (λ x. seen_step x.now)) c.in-None.is) ∙ c.get.ensures ∙ r)

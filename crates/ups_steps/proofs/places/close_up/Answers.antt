use Rattle.std.proofs.Common.{rules, ℕ, List, Option, length, ap, ◌∙◌}
use Rattle.std.specs.Prelude.{is_some}
use Rattle.std.proofs.lemmas.Map.Made.{filter_same_pairs}
use Rattle.ups_steps.specs.declared.held.HeldRow.{HeldRow}
use Rattle.ups_steps.specs.Places.{held_in}
use Rattle.ups_steps.proofs.Placing.{closed_up, as_many_held}
use Rattle.ups_steps.proofs.places.close_up.Goals as goal

pub returns-clause-steps : goal.returns-clause-steps
returns-clause-steps g c =
    ap held_in (filter_same_pairs _ (λ (e : List ℕ × Option (HeldRow g.row.A.Denot)). is_some e.1) _ (λ k v b w f' t. search rules) c.args.places.now.entries c.retain.new.self.entries c.retain.ensures.filtered)
    ∙ closed_up c.args.places.now.entries

pub returns-clause-len : goal.returns-clause-len
returns-clause-len g c =
    ap length (filter_same_pairs _ (λ (e : List ℕ × Option (HeldRow g.row.A.Denot)). is_some e.1) _ (λ k v b w f' t. search rules) c.args.places.now.entries c.retain.new.self.entries c.retain.ensures.filtered)
    ∙ as_many_held c.args.places.now.entries

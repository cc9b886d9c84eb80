use Rattle.std.proofs.Common.{◌≡◌, ℕ, None, get_or, length, ap, ◌∙◌}
use Rattle.std.proofs.lemmas.Result.{IfOk-weaker}
use Rattle.ups_watch.specs.Covers.{subscription_gained}
use Rattle.ups_watch.proofs.watchers.Watchers.newly.Goals as goal

pub returns-clause-newly : goal.returns-clause-newly
returns-clause-newly g c =
    let covers : c.as_slice.result.now ≡ c.args.self.now.covers = c.as_slice.ensures.value ∙ ap (λ t. t.covers) c.self.view_is in
    IfOk-weaker c.newly_all.result (λ v. (p : ℕ) → get_or v.items p None ≡ subscription_gained (get_or c.as_slice.result.now p None) (get_or c.of_step.result.now p None) c.args.before.now c.args.after.now) _
    (λ v h p. h p ∙ ap (λ cs. subscription_gained (get_or cs p None) (get_or c.of_step.result.now p None) c.args.before.now c.args.after.now) covers ∙ ap (λ x. subscription_gained (get_or c.args.self.now.covers p None) x c.args.before.now c.args.after.now) (c.of_step.ensures.watching p))
    c.newly_all.ensures.newly

pub returns-clause-width : goal.returns-clause-width
returns-clause-width g c =
    let covers : c.as_slice.result.now ≡ c.args.self.now.covers = c.as_slice.ensures.value ∙ ap (λ t. t.covers) c.self.view_is in
    IfOk-weaker c.newly_all.result (λ v. length v.items ≡ length c.as_slice.result.now) _ (λ v h. h ∙ ap length covers) c.newly_all.ensures.width

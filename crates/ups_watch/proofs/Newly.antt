-- What a change of a step's attributes makes of a peer's subscription to it.
use Rattle.std.proofs.Common.{◌≡◌, Bool, true, false, cond, not, ◌&&◌, List, Option, None, Some, refl, ◌∙◌}
use Rattle.std.specs.Prelude.{is_some}
use Rattle.std.specs.Option.{option_or}
use Rattle.ups_dataset.specs.Data.{El}
use Rattle.ups_match.specs.Matching.{KeySet, is_match}
use Rattle.ups_life.specs.declared.watching.Subscription.{Subscription}
use Rattle.ups_watch.specs.declared.cover.Cover.{Cover}
use Rattle.ups_watch.specs.Covers.{are_met, covered, is_newly_met, subscription_gained}

-- a peer that is not subscribed to the step is subscribed where its global subscription takes in the step after the change
-- and did not take it in before
pub newly_is : {A : Type 0} (c : Option (Cover A)) (current : Option Subscription) (before after : List El)
    → option_or (subscription_gained c current before after) current ≡ option_or current (cond (is_some (covered c before)) None (covered c after))
newly_is None None before after = refl
newly_is None (Some how) before after = refl
newly_is (Some c) (Some how) before after = refl
newly_is (Some c) None before after = by c.keys
  where
    met : (b a : Bool) → cond (a && not b) (Some c.subscription) None ≡ cond (is_some (cond b (Some c.subscription) None)) None (cond a (Some c.subscription) None)
    met true true = refl
    met true false = refl
    met false true = refl
    met false false = refl

    by : (keys : Option KeySet) → option_or (cond (is_newly_met keys before after) (Some c.subscription) None) None ≡ cond (is_some (cond (are_met keys before) (Some c.subscription) None)) None (cond (are_met keys after) (Some c.subscription) None)
    by None = refl
    by (Some k) = same (cond (is_match k after && not (is_match k before)) (Some c.subscription) None) ∙ met (is_match k before) (is_match k after)
      where
        same : (x : Option Subscription) → option_or x None ≡ x
        same None = refl
        same (Some how) = refl

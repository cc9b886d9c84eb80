-- The instances that a request may name: steps, and the two that stand for global subscriptions (PS3.4 CC.2.3); and the
-- keys of a filtered global subscription.
use Rattle.std.specs.Prelude.{◌≡◌, ℕ, Bool, false, ◌||◌, List, [], Option, None, Some, if◌then◌else◌}
use Rattle.std.specs.Str.{bytes_eq}
use Rattle.ups_pdu.specs.declared.registered.RegisteredUid.TheVariants.{GlobalSubscription, FilteredGlobalSubscription}
use Rattle.ups_pdu.specs.Registered.{text_of}
use Rattle.ups_pdu.specs.Identifier.{IsUid}
use Rattle.ups_match.specs.Matching.{KeySet, is_match}

-- the UID stands for a global subscription and is never that of a step (PS3.4 CC.2.3)
abbrev pub is_well_known : List ℕ → Bool
is_well_known uid = bytes_eq uid (text_of GlobalSubscription) || bytes_eq uid (text_of FilteredGlobalSubscription)

abbrev pub is_subscription : Option (List ℕ) → Bool
is_subscription None = false
is_subscription (Some uid) = is_well_known uid

-- a UID that a step may have
pub record IsStepUid (uid : List ℕ) : Type 0 where
  pub is_uid : IsUid uid
  pub not_well_known : is_well_known uid ≡ false

-- the step with this UID, if that is not a global subscription
abbrev pub step_under : List ℕ → Option (List ℕ)
step_under uid = if is_well_known uid then None else Some uid

-- the step that an instance names
abbrev pub step_in : Option (List ℕ) → Option (List ℕ)
step_in None = None
step_in (Some uid) = step_under uid

-- at least one key is not universal: the keys do not match a step without any attribute (PS3.4 section C.2.2.2.3)
abbrev pub IsFilter : KeySet → Type 0
IsFilter keys = is_match keys [] ≡ false

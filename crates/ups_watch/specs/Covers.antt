-- The global subscriptions of the peers, in the order of their places, and which steps they cover (PS3.4 CC.2.3).
use Rattle.std.specs.Prelude.{ℕ, Bool, true, false, not, ◌&&◌, List, Option, None, Some, slice_index_or, slice_set, if◌then◌else◌}
use Rattle.ups_dataset.specs.Data.{El}
use Rattle.ups_match.specs.Matching.{KeySet, is_match}
use Rattle.ups_life.specs.declared.watching.Subscription.{Subscription}
use Rattle.ups_life.specs.declared.watching.Place.{Place}
use Rattle.ups_life.specs.declared.watching.Place.TheVariants.{At, Everywhere}
use Rattle.ups_watch.specs.declared.cover.Cover.{Cover}

-- a step with these attributes matches the keys of a global subscription; without keys, each step does
abbrev pub are_met : Option KeySet → List El → Bool
are_met None attributes = true
are_met (Some keys) attributes = is_match keys attributes

-- how a peer with this global subscription is subscribed to a step created with these attributes
abbrev pub covered : {A : Type 0} → Option (Cover A) → List El → Option Subscription
covered None attributes = None
covered (Some cover) attributes = if are_met cover.keys attributes then Some cover.subscription else None

-- how the peer at a place is subscribed to a step created with these attributes
abbrev pub covering_in : {A : Type 0} → List (Option (Cover A)) → ℕ → List El → Option Subscription
covering_in covers p attributes = covered (slice_index_or covers p None) attributes

-- a step matches the keys after a change of its attributes and did not match them before; without keys, it always did
abbrev pub is_newly_met : Option KeySet → List El → List El → Bool
is_newly_met None before after = false
is_newly_met (Some keys) before after = is_match keys after && not (is_match keys before)

-- the subscription to a step that a peer with this global subscription gains from a change of the step's attributes:
-- only a peer that is not yet subscribed gains one, and only if its filter covers the step after the change but not
-- before (defined by the profile; PS3.4 CC.2.3 leaves open when keys are tried)
abbrev pub subscription_gained : {A : Type 0} → Option (Cover A) → Option Subscription → List El → List El → Option Subscription
subscription_gained None current before after = None
subscription_gained (Some cover) (Some how) before after = None
subscription_gained (Some cover) None before after = if is_newly_met cover.keys before after then Some cover.subscription else None

-- the global subscriptions left after subscriptions of the peer at a place end: those to one step, or all of them
abbrev pub covers_left : {A : Type 0} → Place → ℕ → List (Option (Cover A)) → List (Option (Cover A))
covers_left (At step) peer covers = covers
covers_left Everywhere peer covers = slice_set covers peer None

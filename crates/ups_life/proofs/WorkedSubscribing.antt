-- Worked rows: what messages ask about subscriptions, computed by the check.
use Rattle.std.proofs.Common.{◌≡◌, ℕ, true, false, List, [], ◌∷◌, ◌++◌, refl}
use Rattle.std.specs.Prelude.{Option, Some, None, Result, Ok, Err, codes, pos}
use Rattle.ups_pdu.specs.declared.registered.RegisteredUid.TheVariants.{GlobalSubscription, FilteredGlobalSubscription}
use Rattle.ups_pdu.specs.Registered.{text_of}
use Rattle.ups_dataset.specs.declared.tag.Tag.{Tag}
use Rattle.ups_dataset.specs.declared.vr.Vr.{Vr}
use Rattle.ups_dataset.specs.declared.vr.Vr.TheVariants.{Ae, Dt, Lo, Sq}
use Rattle.ups_dataset.specs.declared.dictionary.TheConstants.{SCHEDULED_PROCEDURE_STEP_START_DATE_TIME, DELETION_LOCK, RECEIVING_AE, WORKLIST_LABEL}
use Rattle.ups_dataset.specs.Data.{El, bytes, items, no_items}
use Rattle.ups_dataset.specs.Dictionary.{vr_of}
use Rattle.ups_dimse.specs.declared.command.Operation.TheVariants as operations
use Rattle.ups_match.specs.Matching.{fault_of, matches}
use Rattle.ups_match.specs.Moments.{offset_of, signed_offset}
use Rattle.ups_life.specs.declared.request.Ask.{Ask}
use Rattle.ups_life.specs.declared.request.Ask.TheVariants.{Do}
use Rattle.ups_life.specs.declared.request.Request.TheVariants.{Subscribe, Unsubscribe, Suspend}
use Rattle.ups_cycle.specs.declared.status.Status.{Status}
use Rattle.ups_cycle.specs.declared.status.Status.TheVariants.{NoSuchArgument, InvalidArgumentValue, ActionNotAppropriate}
use Rattle.ups_life.specs.declared.watching.Place.TheVariants.{At, Everywhere}
use Rattle.ups_life.specs.declared.watching.Target.TheVariants.{Single, Global, Filtered}
use Rattle.ups_life.specs.Subscribing.{subscribed, unsubscribed, suspended}
use Rattle.ups_life.specs.Asking.{asked}

abbrev w1 : List ℕ
w1 = codes "W1"

abbrev u1 : Option (List ℕ)
u1 = Some (codes "1.2.3.1")

abbrev global : Option (List ℕ)
global = Some (text_of GlobalSubscription)

abbrev by_keys : Option (List ℕ)
by_keys = Some (text_of FilteredGlobalSubscription)

abbrev says : Tag → Vr → List ℕ → El
says tag vr text = record { tag = tag; vr = vr; value = bytes text }

abbrev label : List ℕ → El
label text = says WORKLIST_LABEL Lo text

abbrev start : List ℕ → El
start text = says SCHEDULED_PROCEDURE_STEP_START_DATE_TIME Dt text

abbrev lock : List ℕ → El
lock text = says DELETION_LOCK Lo text

abbrev receiver : List ℕ → El
receiver text = says RECEIVING_AE Ae text

-- what an action of this type on an instance asks; no allocator is looked at
abbrev acts : Option (List ℕ) → ℕ → List El → Result (Ask (Unit {0})) Status
acts instance action attributes = asked (pos 0) (operations.Action instance action) attributes

-- a subscription to W1, with a deletion lock and keys before the two arguments
abbrev subscribes : Option (List ℕ) → List El → List ℕ → Result (Ask (Unit {0})) Status
subscribes instance keys locks = acts instance 3 (keys ++ lock locks ∷ receiver (codes "W1") ∷ [])

a_step_is_subscribed_to : subscribes u1 [] (codes "FALSE ") ≡ Ok (Do (Subscribe (Single u1) w1 false))
unfolding subscribed
a_step_is_subscribed_to = refl

a_lock_is_asked_for : subscribes u1 [] (codes "TRUE") ≡ Ok (Do (Subscribe (Single u1) w1 true))
unfolding subscribed
a_lock_is_asked_for = refl

-- a malformed instance is that of no step, and is refused later
no_step_is_subscribed_to : subscribes None [] (codes "FALSE ") ≡ Ok (Do (Subscribe (Single None) w1 false))
unfolding subscribed
no_step_is_subscribed_to = refl

-- elements that are no arguments are passed over
further_elements_are_passed_over : subscribes u1 (start (codes "- ") ∷ []) (codes "FALSE ") ≡ Ok (Do (Subscribe (Single u1) w1 false))
unfolding subscribed
further_elements_are_passed_over = refl

all_steps_are_subscribed_to : subscribes global (label (codes "READS ") ∷ []) (codes "FALSE ") ≡ Ok (Do (Subscribe Global w1 false))
unfolding subscribed
all_steps_are_subscribed_to = refl

-- a deletion lock is TRUE or FALSE
maybe_is_no_lock : subscribes u1 [] (codes "MAYBE ") ≡ Err InvalidArgumentValue
unfolding subscribed
maybe_is_no_lock = refl

no_lock_is_none : acts u1 3 (receiver (codes "W1") ∷ []) ≡ Err InvalidArgumentValue
unfolding subscribed
no_lock_is_none = refl

-- a receiving AE has to be named, by a title
no_receiver_is_none : acts u1 3 (lock (codes "TRUE") ∷ []) ≡ Err InvalidArgumentValue
unfolding subscribed
no_receiver_is_none = refl

spaces_are_no_receiver : acts u1 4 (receiver (codes "  ") ∷ []) ≡ Err InvalidArgumentValue
unfolding unsubscribed
spaces_are_no_receiver = refl

items_are_no_receiver : acts global 5 (record { tag = RECEIVING_AE; vr = Sq; value = items no_items } ∷ []) ≡ Err InvalidArgumentValue
unfolding suspended
items_are_no_receiver = refl

-- A FILTER has a key that isn't universal

arguments_are_no_keys : subscribes by_keys [] (codes "FALSE ") ≡ Err NoSuchArgument
unfolding subscribed fault_of matches vr_of
arguments_are_no_keys = refl

universal_keys_are_no_filter : subscribes by_keys (label (codes "* ") ∷ []) (codes "FALSE ") ≡ Err NoSuchArgument
unfolding subscribed fault_of matches vr_of
universal_keys_are_no_filter = refl

a_filter_is_subscribed_to : subscribes by_keys (label (codes "READS ") ∷ []) (codes "TRUE") ≡ Ok (Do (Subscribe (Filtered (record { attributes = label (codes "READS ") ∷ []; offset = pos 0 })) w1 true))
unfolding subscribed fault_of matches vr_of
a_filter_is_subscribed_to = refl

-- and its keys can be read
unreadable_keys_are_no_filter : subscribes by_keys (start (codes "- ") ∷ []) (codes "FALSE ") ≡ Err InvalidArgumentValue
unfolding subscribed fault_of vr_of offset_of signed_offset
unreadable_keys_are_no_filter = refl

-- the arguments are looked at before the keys
a_lock_comes_before_keys : subscribes by_keys [] (codes "MAYBE ") ≡ Err InvalidArgumentValue
unfolding subscribed fault_of matches vr_of
a_lock_comes_before_keys = refl

-- THE END OF SUBSCRIPTIONS

subscriptions_end_at_a_step : acts u1 4 (receiver (codes "W1") ∷ []) ≡ Ok (Do (Unsubscribe (At u1) w1))
unfolding unsubscribed
subscriptions_end_at_a_step = refl

subscriptions_end_everywhere : acts by_keys 4 (receiver (codes " W1 ") ∷ []) ≡ Ok (Do (Unsubscribe Everywhere w1))
unfolding unsubscribed
subscriptions_end_everywhere = refl

a_global_subscription_is_suspended : acts global 5 (receiver (codes "W1") ∷ []) ≡ Ok (Do (Suspend w1))
unfolding suspended
a_global_subscription_is_suspended = refl

-- nothing else is, whoever is named
a_step_is_not_suspended : acts u1 5 [] ≡ Err ActionNotAppropriate
unfolding suspended
a_step_is_not_suspended = refl

no_instance_is_not_suspended : acts None 5 [] ≡ Err ActionNotAppropriate
unfolding suspended
no_instance_is_not_suspended = refl

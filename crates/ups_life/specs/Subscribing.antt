-- What an action on subscriptions asks (PS3.4 CC.2.3).
use Rattle.std.specs.Prelude.{ℕ, ℤ, Bool, true, false, not, ◌&&◌, nat_lt, nat_le, List, [], length, filter, Option, None, Some, Result, Ok, Err, codes, if◌then◌else◌}
use Rattle.std.specs.List.{list_all}
use Rattle.std.specs.Str.{bytes_eq}
use Rattle.ups_pdu.specs.declared.registered.RegisteredUid.{RegisteredUid}
use Rattle.ups_pdu.specs.declared.registered.RegisteredUid.TheVariants.{GlobalSubscription, FilteredGlobalSubscription}
use Rattle.ups_pdu.specs.Registered.{text_of}
use Rattle.ups_pdu.specs.Padding.{is_space, without_leading, without_trailing, without_padding}
use Rattle.ups_pdu.specs.Title.{is_title_byte}
use Rattle.ups_dataset.specs.declared.dictionary.TheConstants.{DELETION_LOCK, RECEIVING_AE}
use Rattle.ups_dataset.specs.Tag.{is_tag}
use Rattle.ups_dataset.specs.Data.{Data, bytes, items, El, element_at}
use Rattle.ups_match.specs.declared.fault.KeyFault.{KeyFault}
use Rattle.ups_match.specs.Matching.{KeySet, fault_of, is_match}
use Rattle.ups_life.specs.declared.request.Request.TheVariants.{Subscribe, Unsubscribe, Suspend}
use Rattle.ups_life.specs.declared.request.Ask.{Ask}
use Rattle.ups_life.specs.declared.request.Ask.TheVariants.{Do}
use Rattle.ups_cycle.specs.declared.status.Status.{Status}
use Rattle.ups_cycle.specs.declared.status.Status.TheVariants.{NoSuchArgument, InvalidArgumentValue, ActionNotAppropriate}
use Rattle.ups_life.specs.declared.watching.Target.{Target}
use Rattle.ups_life.specs.declared.watching.Target.TheVariants.{Single, Global, Filtered}
use Rattle.ups_life.specs.declared.watching.Place.{Place}
use Rattle.ups_life.specs.declared.watching.Place.TheVariants.{At, Everywhere}
use Rattle.ups_life.specs.Instances.{is_subscription, step_in}

-- THE WATCHER: the Receiving AE (0074,1234)

-- the text is a title: 1 to 16 bytes that a title may contain (PS3.5 section 6.2, VR AE)
abbrev pub is_title : List ℕ → Bool
is_title text = nat_lt 0 (length text) && nat_le (length text) 16 && list_all is_title_byte text

abbrev pub title_in : List ℕ → Option (List ℕ)
title_in text = if is_title text then Some text else None

-- the title in a value, without padding and without the spaces around it
abbrev pub title_value : Data → Option (List ℕ)
title_value (bytes b) = title_in (without_trailing is_space (without_leading is_space (without_padding b)))
title_value (items is) = None

abbrev pub named_receiver : Option El → Option (List ℕ)
named_receiver None = None
named_receiver (Some e) = title_value e.value

-- THE DELETION LOCK (0074,1230): TRUE or FALSE

abbrev pub lock_in : List ℕ → Option Bool
lock_in text = if bytes_eq text (codes "TRUE") then Some true else (if bytes_eq text (codes "FALSE") then Some false else None)

abbrev pub lock_value : Data → Option Bool
lock_value (bytes b) = lock_in (without_padding b)
lock_value (items is) = None

abbrev pub named_lock : Option El → Option Bool
named_lock None = None
named_lock (Some e) = lock_value e.value

-- THE TARGET OF A SUBSCRIPTION

abbrev pub is_instance : Option (List ℕ) → RegisteredUid → Bool
is_instance None registered = false
is_instance (Some uid) registered = bytes_eq uid (text_of registered)

-- the keys of a filter: all attributes except Receiving AE and Deletion Lock
abbrev pub filter_keys : List El → List El
filter_keys attributes = filter (λ e. not (is_tag e.tag RECEIVING_AE)) (filter (λ e. not (is_tag e.tag DELETION_LOCK)) attributes)

-- The keys of a filter can be read, and at least one is not universal: otherwise even a step without any attribute
-- matches (PS3.4 section C.2.2.2.3). A universal key can be read, so no keys have both faults.
abbrev pub filtered : {A : Type 0} → KeySet → Option KeyFault → Result (Target A) Status
filtered keys (Some fault) = Err InvalidArgumentValue
filtered keys None = if is_match keys [] then Err NoSuchArgument else Ok (Filtered keys)

abbrev pub filter_of : {A : Type 0} → ℤ → List El → Result (Target A) Status
filter_of offset keys = filtered (record { attributes = keys; offset = offset }) (fault_of offset keys)

-- the target: the global subscription, with keys or without, or one step
abbrev pub target_of : {A : Type 0} → ℤ → Option (List ℕ) → List El → Result (Target A) Status
target_of offset instance attributes =
    if is_instance instance GlobalSubscription then Ok Global else (
    if is_instance instance FilteredGlobalSubscription then filter_of offset (filter_keys attributes) else Ok (Single (step_in instance)))

-- THE ACTIONS

-- the checks of a subscription, in order: its watcher, its Deletion Lock, its target
abbrev pub subscribed_to : {A : Type 0} → Result (Target A) Status → Option (List ℕ) → Option Bool → Result (Ask A) Status
subscribed_to target None lock = Err InvalidArgumentValue
subscribed_to target (Some receiver) None = Err InvalidArgumentValue
subscribed_to (Err status) (Some receiver) (Some lock) = Err status
subscribed_to (Ok target) (Some receiver) (Some lock) = Ok (Do (Subscribe target receiver lock))

unfoldable pub subscribed : {A : Type 0} → ℤ → Option (List ℕ) → List El → Result (Ask A) Status
subscribed offset instance attributes = subscribed_to (target_of offset instance attributes) (named_receiver (element_at RECEIVING_AE attributes)) (named_lock (element_at DELETION_LOCK attributes))

-- an unsubscription on a well-known instance ends all subscriptions of its watcher
abbrev pub place_of : Option (List ℕ) → Place
place_of instance = if is_subscription instance then Everywhere else At (step_in instance)

abbrev pub unsubscribed_at : {A : Type 0} → Place → Option (List ℕ) → Result (Ask A) Status
unsubscribed_at place None = Err InvalidArgumentValue
unsubscribed_at place (Some receiver) = Ok (Do (Unsubscribe place receiver))

unfoldable pub unsubscribed : {A : Type 0} → Option (List ℕ) → List El → Result (Ask A) Status
unsubscribed instance attributes = unsubscribed_at (place_of instance) (named_receiver (element_at RECEIVING_AE attributes))

abbrev pub suspended_for : {A : Type 0} → Option (List ℕ) → Result (Ask A) Status
suspended_for None = Err InvalidArgumentValue
suspended_for (Some receiver) = Ok (Do (Suspend receiver))

-- only a global subscription can be suspended
unfoldable pub suspended : {A : Type 0} → Option (List ℕ) → List El → Result (Ask A) Status
suspended instance attributes = if is_subscription instance then suspended_for (named_receiver (element_at RECEIVING_AE attributes)) else Err ActionNotAppropriate

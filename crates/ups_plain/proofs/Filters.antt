-- What a global subscription takes in, by its keys: those that match, and without keys each step or none.
use Rattle.std.proofs.Common.{◌≡◌, ℕ, Bool, true, false, List, [], ◌∷◌, Option, None, Some, refl, sym, ap, ◌∙◌}
use Rattle.std.specs.Prelude.{is_some, if◌then◌else◌}
use Rattle.std.specs.Str.{bytes_eq}
use Rattle.ups_dataset.specs.Data.{El}
use Rattle.ups_match.specs.Matching.{KeySet, is_match}
use Rattle.ups_life.specs.declared.entry.Entry.{Entry}
use Rattle.ups_life.specs.declared.peer.Peer.{Peer}
use Rattle.ups_life.specs.declared.request.Request.{Request}
use Rattle.ups_life.specs.declared.request.Request.TheVariants.{Create, Change, AskCancel, Set, Subscribe, Unsubscribe, Suspend, Ack, Sweep, Reserve}
use Rattle.ups_life.specs.declared.watching.Subscription.{Subscription}
use Rattle.ups_life.specs.declared.watching.Target.{Target}
use Rattle.ups_life.specs.declared.watching.Target.TheVariants.{Single, Global, Filtered}
use Rattle.ups_life.specs.declared.watching.Place.{Place}
use Rattle.ups_life.specs.declared.watching.Place.TheVariants.{At, Everywhere}
use Rattle.ups_life.specs.Watching.{granted, global_after, global_left, cover_after, cover}
use Rattle.ups_life.specs.Filters.{filter_at, filter_left, filter_after, filter_now}

-- two sets of attributes, and what the global subscription says of them
abbrev By : Option KeySet → List El → List El → Option Subscription → Option Subscription → Type 0
By None x y c d = c ≡ d
By (Some keys) x y c d = (is_some c ≡ is_match keys x) × (is_some d ≡ is_match keys y)

chosen : (b : Bool) (how : Subscription) → is_some (if b then Some how else None) ≡ b
chosen true how = refl
chosen false how = refl

-- a subscription to this target, of w or of another
by_target : {A : Type 0} (on : Bool) (target : Target A) (x y : List El) (how : Subscription) (c d : Option Subscription) (f : Option KeySet) → By f x y c d
    → By (if on then filter_at target f else f) x y (if on then global_after target x how c else c) (if on then global_after target y how d else d)
by_target true (Single step) x y how c d f so = so
by_target true Global x y how c d f so = refl
by_target true (Filtered keys) x y how c d f so = (chosen (is_match keys x) how, chosen (is_match keys y) how)
by_target false target x y how c d f so = so

by_place : (on : Bool) (place : Place) (x y : List El) (c d : Option Subscription) (f : Option KeySet) → By f x y c d
    → By (if on then filter_left place f else f) x y (if on then global_left place c else c) (if on then global_left place d else d)
by_place true (At step) x y c d f so = so
by_place true Everywhere x y c d f so = refl
by_place false place x y c d f so = so

by_end : (on : Bool) (x y : List El) (c d : Option Subscription) (f : Option KeySet) → By f x y c d → By (if on then None else f) x y (if on then None else c) (if on then None else d)
by_end true x y c d f so = refl
by_end false x y c d f so = so

-- one more request
by_request : {A : Type 0} (ps : List Peer) (w : List ℕ) (x y : List El) (c d : Option Subscription) (f : Option KeySet) (r : Request A) → By f x y c d → By (filter_after w f r) x y (cover_after ps w x c r) (cover_after ps w y d r)
by_request ps w x y c d f (Create step attributes) so = so
by_request ps w x y c d f (Change step state transaction) so = so
by_request ps w x y c d f (AskCancel step reasons) so = so
by_request ps w x y c d f (Set step transaction attributes) so = so
by_request ps w x y c d f (Subscribe target receiver lock) so = by_target (bytes_eq receiver w) target x y (granted ps w lock) c d f so
by_request ps w x y c d f (Unsubscribe place receiver) so = by_place (bytes_eq receiver w) place x y c d f so
by_request ps w x y c d f (Suspend receiver) so = by_end (bytes_eq receiver w) x y c d f so
by_request ps w x y c d f (Ack upto) so = so
by_request ps w x y c d f Sweep so = so
by_request ps w x y c d f (Reserve step) so = so

covers_by : {A : Type 0} (ps : List Peer) (es : List (Entry A)) (w : List ℕ) (x y : List El) → By (filter_now es w) x y (cover ps es w x) (cover ps es w y)
covers_by ps [] w x y = refl
covers_by ps (e ∷ es) w x y = by_request ps w x y (cover ps es w x) (cover ps es w y) (filter_now es w) e.request (covers_by ps es w x y)

alike : (f : Option KeySet) (x y : List El) (c d : Option Subscription) → f ≡ None → By f x y c d → None ≡ (if is_some c then None else d)
alike None x y None None is same = refl
alike None x y None (Some how) is same = absurd cc
alike None x y (Some how) d is same = refl
alike (Some keys) x y c d is so = absurd cc

-- without keys it subscribes nobody newly
pub none_newly : {A : Type 0} (ps : List Peer) (es : List (Entry A)) (w : List ℕ) (x y : List El) → filter_now es w ≡ None → None ≡ (if is_some (cover ps es w x) then None else cover ps es w y)
none_newly ps es w x y is = alike (filter_now es w) x y (cover ps es w x) (cover ps es w y) is (covers_by ps es w x y)

by_keys : (f : Option KeySet) (keys : KeySet) (x y : List El) (c d : Option Subscription) → f ≡ Some keys → By f x y c d → is_some c ≡ is_match keys x
by_keys None keys x y c d is so = absurd cc
by_keys (Some others) keys x y c d is so = let same : others ≡ keys = cc in so.0 ∙ ap (λ (k : KeySet). is_match k x) same

-- with keys it takes in what matches them
pub taken_by : {A : Type 0} (ps : List Peer) (es : List (Entry A)) (w : List ℕ) (keys : KeySet) (x attributes : List El) (b : Bool) → filter_now es w ≡ Some keys → x ≡ attributes → b ≡ is_match keys x → is_some (cover ps es w attributes) ≡ b
taken_by ps es w keys x attributes b is same match =
    by_keys (filter_now es w) keys attributes attributes (cover ps es w attributes) (cover ps es w attributes) is (covers_by ps es w attributes attributes) ∙ ap (is_match keys) (sym same) ∙ sym match

-- who isn't covered has no subscription
pub not_covered : (b : Bool) (c : Option Subscription) → is_some c ≡ false → None ≡ (if b then None else c)
not_covered true c none = refl
not_covered false None none = refl
not_covered false (Some how) none = absurd cc

-- The keys of a watcher's global subscription: only by them can changed attributes of a step subscribe the watcher to
-- it.
use Rattle.std.specs.Prelude.{ℕ, List, [], ◌∷◌, Option, None, Some, if◌then◌else◌}
use Rattle.std.specs.Str.{bytes_eq}
use Rattle.ups_match.specs.Matching.{KeySet}
use Rattle.ups_life.specs.declared.entry.Entry.{Entry}
use Rattle.ups_life.specs.declared.request.Request.{Request}
use Rattle.ups_life.specs.declared.request.Request.TheVariants.{Subscribe, Unsubscribe, Suspend}
use Rattle.ups_life.specs.declared.watching.Target.{Target}
use Rattle.ups_life.specs.declared.watching.Target.TheVariants.{Single, Global, Filtered}
use Rattle.ups_life.specs.declared.watching.Place.{Place}
use Rattle.ups_life.specs.declared.watching.Place.TheVariants.{At, Everywhere}

-- the keys of the global subscription after a subscription to this target
abbrev pub filter_at : {A : Type 0} → Target A → Option KeySet → Option KeySet
filter_at (Single step) before = before
filter_at Global before = None
filter_at (Filtered keys) before = Some keys

-- the keys that remain after subscriptions end at this place
abbrev pub filter_left : Place → Option KeySet → Option KeySet
filter_left (At step) before = before
filter_left Everywhere before = None

abbrev pub filter_after : {A : Type 0} → List ℕ → Option KeySet → Request A → Option KeySet
filter_after w before (Subscribe target receiver lock) = if bytes_eq receiver w then filter_at target before else before
filter_after w before (Unsubscribe place receiver) = if bytes_eq receiver w then filter_left place before else before
filter_after w before (Suspend receiver) = if bytes_eq receiver w then None else before
filter_after w before request = before

-- the keys of w's global subscription; None if w has none, or it has no keys
abbrev pub filter_now : {A : Type 0} → List (Entry A) → List ℕ → Option KeySet
filter_now [] w = None
filter_now (e ∷ es) w = filter_after w (filter_now es w) e.request

-- What a deliverer gives up of the event reports that wait for a watcher beyond its limit.
use Rattle.std.specs.Prelude.{◌≡◌, ◌≤◌, ◌⊎◌, ◌-◌, ℕ, nat_lt, is_some, length, slice_get, List, Option, None, option_map, MatchBool, MatchOption}
use Rattle.ups_life.specs.declared.event_reports.EventReport.{EventReport}
use Rattle.ups_life.specs.declared.request.Ask.TheVariants.{Do, Pending}
use Rattle.ups_life.specs.declared.request.Reply.{Reply}
use Rattle.ups_life.specs.declared.request.Reply.TheVariants.{Reports}
use Rattle.ups_life.specs.declared.request.Request.TheVariants.{Ack}
use Rattle.ups_life.specs.Events.{pending}
use Rattle.ups_life.specs.Settings.{IsMoment}
use Rattle.ups_life.specs.Steps.{past}
use Rattle.ups_peers.specs.declared.watcher.Watcher.{Watcher}
use Rattle.ups_peers.specs.Limits.{excess}
use Rattle.ups_turn.specs.Pass.{PassView, HasObserved, IsCall, most_calls}

-- the pass has counted, by the history that it saw then, how many of the events that are pending for the watcher are beyond its
-- limit (PS3.4 CC.2.4); a pass that has made all its calls has not looked, and has found none
abbrev pub CountsExcess : {A : Type 0} → ℕ → Watcher → PassView A → ℕ → PassView A → Type 0
CountsExcess limit watcher old beyond new = MatchBool (nat_lt old.calls most_calls)
    (HasObserved old new × (beyond ≡ excess (is_some watcher.address) limit (length (pending new.settings (past new.seen) watcher.ae))))
    ((beyond ≡ 0) × (new ≡ old))

-- the number of the last event of some reports
abbrev pub last_event : {A : Type 0} → List (EventReport A) → Option ℕ
last_event reports = option_map (λ r. r.event.number) (slice_get reports (length reports - 1))

-- the number of the last event of which a reply tells
abbrev pub told_last : {A : Type 0} → Reply A → Option ℕ
told_last (Reports reports) = last_event reports
told_last reply = None

-- the pass has asked, at some moment, for the first `most` events that are pending for the watcher; `last` is the number of the
-- last of them, if there are any
pub record AsksOldest {A : Type 0} (ae : List ℕ) (most : ℕ) (old : PassView A) (last : Option ℕ) (new : PassView A) : Type 0 where
  pub moment : ℕ
  pub is_moment : IsMoment moment
  pub reply : Reply A
  pub call : IsCall old ae moment (Pending most) reply new
  pub is_last : last ≡ told_last reply

-- the pass has acknowledged, at some moment and in the place of the watcher, its events up to this number
pub record Acknowledges {A : Type 0} (ae : List ℕ) (upto : ℕ) (old new : PassView A) : Type 0 where
  pub moment : ℕ
  pub is_moment : IsMoment moment
  pub reply : Reply A
  pub call : IsCall old ae moment (Do (Ack upto)) reply new

-- the pass gives up the first `most` events that are pending for the watcher: it has asked for these, and acknowledged all of
-- which it was told, or none where it was told of none
abbrev pub GivesUp : {A : Type 0} → List ℕ → ℕ → PassView A → PassView A → Type 0
GivesUp {A} ae most old new = (asked : PassView A) × (last : Option ℕ) × AsksOldest ae most old last asked × MatchOption last (new ≡ asked) (λ upto. Acknowledges ae upto asked new)

-- the pass keeps what waits for the watcher within its limit: it has counted how many events are beyond that, and gives up the
-- first ones, at most as many; or it gives up none
abbrev pub KeepsWithin : {A : Type 0} → ℕ → Watcher → PassView A → PassView A → Type 0
KeepsWithin {A} limit watcher old new =
    (counted : PassView A) × (beyond : ℕ) × CountsExcess limit watcher old beyond counted
    × ((new ≡ counted) ⊎ ((most : ℕ) × (1 ≤ most) × (most ≤ beyond) × GivesUp watcher.ae most counted new))

use Rattle.std.proofs.Common.{◌≡◌, ◌<◌, ℕ, None, length, slice_index_or}
use Rattle.ups_watch.specs.Covers.{subscription_gained}
use Rattle.ups_watch.proofs.cover.newly_all.Given as goal

abbrev pub invariant-loop-peer : goal.invariant-loop-peer
invariant-loop-peer g l = (length l.found.items ≡ l.peer) × ((p : ℕ) → p < l.peer → slice_index_or l.found.items p None ≡ subscription_gained (slice_index_or l.covers p None) (slice_index_or l.cells p None) l.before l.after)

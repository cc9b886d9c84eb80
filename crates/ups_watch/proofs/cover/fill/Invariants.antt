use Rattle.std.proofs.Common.{◌≡◌, ◌<◌, ℕ, None, length, slice_index_or}
use Rattle.ups_watch.specs.Covers.{covering_in}
use Rattle.ups_watch.proofs.cover.fill.Given as goal

abbrev pub invariant-loop-peer : goal.invariant-loop-peer
invariant-loop-peer g l = (length l.row ≡ length l.covers) × ((p : ℕ) → p < l.peer → slice_index_or l.row p None ≡ covering_in l.covers p l.attributes)

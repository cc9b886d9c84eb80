use Rattle.std.proofs.Common.{◌≡◌, ◌≤◌, ◌&&◌, ℕ, List, None, nat_lt, if◌then◌else◌, slice_index_or}
use Rattle.std.specs.HashMap.{spare}
use Rattle.std.specs.Option.{option_or}
use Rattle.std.specs.Str.{bytes_eq}
use Rattle.ups_watch.specs.Rows.{watching_in, knows_in, HasWidth}
use Rattle.ups_watch.proofs.rows.put_each.Given as goal

abbrev pub invariant-loop-peer : goal.invariant-loop-peer
invariant-loop-peer g l = ((p : ℕ) → (u : List ℕ) → watching_in l.rows.entries p u ≡ (if bytes_eq l.step u && nat_lt p l.peer then option_or (slice_index_or l.cells p None) (watching_in l.initial.rows.entries p u) else watching_in l.initial.rows.entries p u))
    × ((u : List ℕ) → knows_in l.rows.entries u ≡ knows_in l.initial.rows.entries u) × HasWidth l.width l.rows.entries × (spare l.initial.rows ≤ spare l.rows)

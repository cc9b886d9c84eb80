use Rattle.std.proofs.Common.{◌≡◌, ◌≤◌, ◌&&◌, ℕ, List, nat_eq, if◌then◌else◌, take}
use Rattle.std.specs.HashMap.{spare}
use Rattle.ups_life.specs.Watching.{is_among}
use Rattle.ups_watch.specs.Rows.{watching_in, knows_in, HasWidth}
use Rattle.ups_watch.proofs.rows.set_cells.Given as goal

abbrev pub invariant-loop-step : goal.invariant-loop-step
invariant-loop-step g l = ((p : ℕ) → (u : List ℕ) → watching_in l.rows.entries p u ≡ (if nat_eq l.peer p && is_among u (take l.step-index l.steps) then l.subscription else watching_in l.initial.rows.entries p u))
    × ((u : List ℕ) → knows_in l.rows.entries u ≡ knows_in l.initial.rows.entries u) × HasWidth l.width l.rows.entries × (spare l.initial.rows ≤ spare l.rows)

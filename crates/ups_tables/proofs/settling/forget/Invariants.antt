use Rattle.std.proofs.Common.{◌≡◌, ◌&&◌, ℕ, not, List, None, cond, take}
use Rattle.ups_life.specs.Watching.{is_among}
use Rattle.ups_keep.specs.Waits.{steps_of}
use Rattle.ups_watch.specs.Table.{knows, watching}
use Rattle.ups_tables.proofs.settling.forget.Given as goal

abbrev pub invariant-loop-step : goal.invariant-loop-step
invariant-loop-step g l = record {
  watched : (p : ℕ) (u : List ℕ) → watching l.watchers p u ≡ cond (is_among u (steps_of (take l.step-index l.steps))) None (watching l.fn.watchers p u);
  known : (u : List ℕ) → knows l.watchers u ≡ (not (is_among u (steps_of (take l.step-index l.steps))) && knows l.fn.watchers u);
  covers : l.watchers.covers ≡ l.fn.watchers.covers;
}

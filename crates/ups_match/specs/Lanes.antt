-- Vectors of bytes, lane by lane.
use Rattle.std.specs.Prelude.{◌≡◌, ◌<◌, ℕ, List, length, slice_index}

-- v has 64 lanes, and lane k holds f k
pub record HasLanes (v : List ℕ) (f : ℕ → ℕ) : Type 0 where
  pub long : length v ≡ 64
  pub each : (k : ℕ) → k < 64 → slice_index v k ≡ f k

-- What a desk opens with.
use Rattle.std.specs.Prelude.{ℕ}
use Rattle.ups_service.specs.State.{State}

-- the manager at that time, and the number of passes
pub record Opening (A : Type 0) : Type 0 where
  pub manager : State A
  pub seats : ℕ

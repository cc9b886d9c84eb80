-- The view of an assembler.
use Rattle.std.specs.Prelude.{ℕ, List}
use Rattle.ups_assoc.specs.declared.assembling.Begun.{Begun}

-- the ids of the accepted presentation contexts, and what has been received of the next message
pub record Assembly (A : Type 0) : Type 0 where
  pub ids : List ℕ
  pub begun : Begun A

-- The known steps, each with the subscriptions of the peers to it, in the order of their places (PS3.4 CC.2.3).
use Rattle.std.specs.Prelude.{◌≡◌, ℕ, Bool, List, Option, None, Some, IfSome, is_some, length, slice_index_or}
use Rattle.std.specs.Map.{lookup}
use Rattle.std.specs.Str.{bytes_eq}
use Rattle.ups_life.specs.declared.watching.Subscription.{Subscription}

-- the subscriptions of the peers to a step, in the order of their places
abbrev pub Cells : Type 0
Cells = List (Option Subscription)

-- the subscriptions of the peers to the step u; None if u is not known
abbrev pub cells_in : List (List ℕ × Cells) → List ℕ → Option Cells
cells_in rows u = lookup (bytes_eq u) rows

-- how the peer at a place is subscribed to a step with these cells; None if the step is not known
abbrev pub cell : ℕ → Option Cells → Option Subscription
cell p None = None
cell p (Some row) = slice_index_or row p None

-- how the peer at a place is subscribed to the step u
abbrev pub watching_in : List (List ℕ × Cells) → ℕ → List ℕ → Option Subscription
watching_in rows p u = cell p (cells_in rows u)

-- the step u is known
abbrev pub knows_in : List (List ℕ × Cells) → List ℕ → Bool
knows_in rows u = is_some (cells_in rows u)

-- each known step has a cell for each of n peers
abbrev pub HasWidth : ℕ → List (List ℕ × Cells) → Type 0
HasWidth n rows = (u : List ℕ) → IfSome (cells_in rows u) (λ row. length row ≡ n)

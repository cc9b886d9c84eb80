-- The search for a title's place.
use Rattle.std.proofs.Common.{◌≡◌, ◌+◌, ℕ, List, Option, None, Some, refl, ap, arith}
use Rattle.std.specs.Option.{option_map}
use Rattle.ups_life.specs.declared.peer.Peer.{Peer}
use Rattle.ups_tables.specs.Places.{place_of_title}

pub from_start : (ps : List Peer) (w : List ℕ) → place_of_title ps w ≡ option_map (λ (n : ℕ). 0 + n) (place_of_title ps w)
from_start ps w = by (place_of_title ps w)
  where
    by : (o : Option ℕ) → o ≡ option_map (λ (n : ℕ). 0 + n) o
    by None = refl
    by (Some n) = ap Some (let e : n ≡ 0 + n = omega arith in e)

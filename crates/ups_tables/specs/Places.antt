-- Peers, by their places in the list of peers.
use Rattle.std.specs.Prelude.{ℕ, suc, List, [], ◌∷◌, Option, None, Some, if◌then◌else◌}
use Rattle.std.specs.Option.{option_map}
use Rattle.std.specs.Str.{bytes_eq}
use Rattle.ups_life.specs.declared.peer.Peer.{Peer}

-- the place of the first peer with the title w; None if no peer has it
abbrev pub place_of_title : List Peer → List ℕ → Option ℕ
place_of_title [] w = None
place_of_title (p ∷ ps) w = if bytes_eq p.ae w then Some 0 else option_map suc (place_of_title ps w)

-- what a table says about the peer at a place; `none` if there is no such peer
abbrev pub by_place : {X : Type 0} → X → (ℕ → X) → Option ℕ → X
by_place none f None = none
by_place none f (Some p) = f p

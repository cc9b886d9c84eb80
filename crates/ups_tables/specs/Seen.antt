-- Peers, as their titles distinguish them.
use Rattle.std.specs.Prelude.{◌≡◌, false, List, [], ◌∷◌}
use Rattle.ups_life.specs.declared.peer.Peer.{Peer}
use Rattle.ups_life.specs.Watching.{is_peer}

-- no two peers have the same title
abbrev pub Once : List Peer → Type 0
Once [] = Unit {0}
Once (p ∷ ps) = (is_peer ps p.ae ≡ false) × Once ps

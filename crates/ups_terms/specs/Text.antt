-- Terms as text.
use Rattle.std.specs.Prelude.{ℕ, ℤ, List, ◌++◌, codes, decimal, if◌then◌else◌}
use Rattle.std.specs.Fmt.{signed_decimal}
use Rattle.std.specs.List.{flat_map}
use Rattle.ups_life.specs.declared.peer.Peer.{Peer}

-- the line of a peer: its right, and its title
abbrev pub peer_line : Peer → List ℕ
peer_line peer = (if peer.lock then codes "lock=" else codes "peer=") ++ (peer.ae ++ codes "\n")

-- how long finished steps are kept, in seconds; the offset from UTC, in minutes; and the peers, in their order
abbrev pub terms_text : ℕ → ℤ → List Peer → List ℕ
terms_text keep offset peers = codes "keep=" ++ (decimal keep ++ (codes "\noffset=" ++ (signed_decimal offset ++ (codes "\n" ++ flat_map peer_line peers))))

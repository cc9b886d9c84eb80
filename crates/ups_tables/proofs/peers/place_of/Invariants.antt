use Rattle.std.proofs.Common.{◌≡◌, ◌+◌, ℕ, drop}
use Rattle.std.specs.Option.{option_map}
use Rattle.ups_tables.specs.Places.{place_of_title}
use Rattle.ups_tables.proofs.peers.place_of.Given as goal

abbrev pub invariant-loop-place : goal.invariant-loop-place
invariant-loop-place l = place_of_title l.peers l.ae ≡ option_map (λ (n : ℕ). l.place + n) (place_of_title (drop l.place l.peers) l.ae)

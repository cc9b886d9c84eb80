use Rattle.std.proofs.Common.{◌≡◌, drop}
use Rattle.std.specs.List.{list_any}
use Rattle.ups_life.specs.declared.peer.Peer.{Peer}
use Rattle.ups_life.specs.Steps.{past}
use Rattle.ups_life.specs.Watching.{watch, is_locked}
use Rattle.ups_plain.proofs.walking.is_kept.Given as goal

abbrev pub invariant-loop-peer : goal.invariant-loop-peer
invariant-loop-peer g l = list_any (λ (p : Peer). is_locked (watch l.configuration (past l.entries) p.ae l.step)) l.peers ≡ list_any (λ (p : Peer). is_locked (watch l.configuration (past l.entries) p.ae l.step)) (drop l.peer-index l.peers)

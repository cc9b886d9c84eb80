use Rattle.std.proofs.Common.{ℕ, List, rules, subst, inl}
use Rattle.ups_life.specs.declared.peer.Peer.{Peer}
use Rattle.ups_args.specs.Arguments.{NamesPeer}
use Rattle.ups_args.proofs.peers.peer_line.Goals as goal

pub returns-in_default : goal.returns-in_default
returns-in_default c = (search rules, inl (subst (λ (text : List ℕ). (peer : Peer) → NamesPeer text peer → ⊥) c.trim-word.ensures.trim c.in_default.ensures))

-- Why nothing is asked of `serve`.
use Rattle.std.proofs.Common.{◌≡◌, ◌≤◌, ℕ, List, codes, length, inr, sym, subst, arith}
use Rattle.clap.specs.declared.parser.matches.Found.{Found}
use Rattle.ups_life.specs.declared.peer.Peer.{Peer}
use Rattle.ups_life.specs.Limits.{peer_limit}
use Rattle.ups_args.specs.declared.fault.ArgumentFault.{ArgumentFault}
use Rattle.ups_args.specs.declared.fault.ArgumentFault.TheVariants as faults
use Rattle.ups_args.specs.Arguments.{FailToAskServe, NamePeers, NamesPeer, argument_words}
use Rattle.ups_args.proofs.Parts.{as_many}

-- where the words name peers, only memory can be missing for the watchers
pub by_watchers : (found : Found) (words : List (List ℕ)) (fault : ArgumentFault) (peers : List Peer) → words ≡ argument_words found (codes "peer") → NamePeers (argument_words found (codes "peer")) peers
    → length peers ≤ peer_limit → ((ps : List Peer) → NamePeers words ps → fault ≡ faults.Memory) → FailToAskServe found fault
by_watchers found words fault peers are named few only =
    let is = only peers (subst (λ (ws : List (List ℕ)). NamePeers ws peers) (sym are) named) in
    subst (FailToAskServe found) (sym is) (inr (omega (arith, few, as_many NamesPeer (argument_words found (codes "peer")) peers named)))

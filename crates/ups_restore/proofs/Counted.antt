-- The numbers of each watcher's events, peer by peer.
use Rattle.std.proofs.Common.{◌≡◌, ℕ, zero, suc, ◌<◌, ◌-◌, List, [], ◌∷◌, length, get_or, refl, arith}
use Rattle.std.proofs.lemmas.List.{length-map}
use Rattle.ups_life.specs.declared.entry.Entry.{Entry}
use Rattle.ups_life.specs.declared.peer.Peer.{Peer}
use Rattle.ups_life.specs.Settings.{Settings}
use Rattle.ups_life.specs.Steps.{past}
use Rattle.ups_life.specs.Events.{events}
use Rattle.ups_compact.specs.Compacting.{above_zero}
use Rattle.ups_compact.specs.Shifting.{shift}
use Rattle.ups_restore.specs.Compacting.{known_behind}
use Rattle.ups_restore.specs.Surveying.{count_in, counts_in}
use Rattle.ups_restore.specs.declared.survey.EventCount.{EventCount}

-- a count is that of a peer, at its place
pub record IsOfPeer {A : Type 0} (s : Settings) (es : List (Entry A)) (ps : List Peer) (i : ℕ) (x : EventCount) : Type 0 where
  pub peer : Peer
  pub low : i < length ps
  pub is : peer ≡ get_or ps i peer
  pub counts : x ≡ count_in s es peer.ae

module _ {A : Type 0} (s : Settings) (es : List (Entry A)) where
  pub of_peer : (ps : List Peer) (i : ℕ) (x : EventCount) → i < length (counts_in s es ps) → x ≡ get_or (counts_in s es ps) i x → IsOfPeer s es ps i x
  of_peer [] i x low is = absurd (omega arith)
  of_peer (p ∷ ps) zero x low is = record { peer = p; low = omega arith; is = refl; counts = is }
  of_peer (p ∷ ps) (suc i) x low is =
      let rest = of_peer ps i x (omega arith) is in
      record { peer = rest.peer; low = omega (arith, rest.low); is = rest.is; counts = rest.counts }

  pub as_many : (ps : List Peer) → length (counts_in s es ps) ≡ length ps
  as_many ps = length-map ps (λ (p : Peer). count_in s es p.ae)

-- THE NUMBER that a watcher is to acknowledge, by its count
pub number_counted : {A : Type 0} (s t : Settings) (before after : List (Entry A)) (w : List ℕ) (x : EventCount) → t ≡ s → x ≡ count_in s (past before) w
    → above_zero (length (events t (past after) x.ae) - (x.made - x.acknowledged)) ≡ known_behind s before after w
number_counted s t before after w x same is = λ k. above_zero (length (events (same k) (past after) (is k).ae) - ((is k).made - (is k).acknowledged))

-- THE SHIFT of a watcher's numbers, by its count
pub shift_counted : {A : Type 0} (s t : Settings) (by log : List (Entry A)) (w : List ℕ) (x : EventCount) → t ≡ s → x ≡ count_in s (past log) w → x.made - length (events t (past by) x.ae) ≡ shift s (past by) (past log) w
shift_counted s t by log w x same is = λ k. (is k).made - length (events (same k) (past by) (is k).ae)

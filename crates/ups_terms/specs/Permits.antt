-- What a run permits of what an earlier one did.
use Rattle.std.specs.Prelude.{◌≡◌, ◌≢◌, ℕ, ℤ, List, Bool, false, ◌&&◌, ◌||◌, not, IsTrue}
use Rattle.std.specs.List.{list_all}
use Rattle.ups_life.specs.declared.peer.Peer.{Peer}
use Rattle.ups_life.specs.Watching.{is_peer, may_lock}
use Rattle.ups_terms.specs.declared.terms.Terms.{Terms}
use Rattle.ups_terms.specs.declared.lacking.Difference.{Difference}
use Rattle.ups_terms.specs.declared.lacking.Difference.TheVariants as lacked

-- this one is among the peers, with the right to lock steps if it had that
abbrev pub is_still : List Peer → Peer → Bool
is_still peers was = is_peer peers was.ae && (not was.lock || may_lock peers was.ae)

-- steps are kept as long as they were, the local time is the same, and each peer has what right it had; more peers and
-- more rights are allowed
pub record Permits {A : Type 0} (old : Terms A) (keep : ℕ) (offset : ℤ) (peers : List Peer) : Type 0 where
  pub same_keep : old.keep ≡ keep
  pub same_offset : old.offset ≡ offset
  pub still_peers : IsTrue (list_all (is_still peers) old.peers.items)

-- this peer of an earlier run is none of these, or has lost the right to lock steps
abbrev pub LacksRight : List Peer → Peer → Difference → Type 0
LacksRight peers was (lacked.Peer ae) = (ae ≡ was.ae) × (is_peer peers ae ≡ false)
LacksRight peers was (lacked.Lock ae) = (ae ≡ was.ae) × IsTrue was.lock × (may_lock peers ae ≡ false)
LacksRight peers was (lacked.Keep seconds) = ⊥
LacksRight peers was (lacked.Offset minutes) = ⊥

-- the earlier run had this, and this one lacks it
abbrev pub Lacks : {A : Type 0} → Terms A → ℕ → ℤ → List Peer → Difference → Type 0
Lacks old keep offset peers (lacked.Keep seconds) = (old.keep ≡ seconds) × (seconds ≢ keep)
Lacks old keep offset peers (lacked.Offset minutes) = (old.offset ≡ minutes) × (minutes ≢ offset)
Lacks old keep offset peers (lacked.Peer ae) = IsTrue (is_peer old.peers.items ae) × (is_peer peers ae ≡ false)
Lacks old keep offset peers (lacked.Lock ae) = IsTrue (may_lock old.peers.items ae) × (may_lock peers ae ≡ false)

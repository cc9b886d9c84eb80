-- A peer of an earlier run, and what is lacking of it.
use Rattle.std.proofs.Common.{◌≡◌, ℕ, ℤ, ◌<◌, ◌&&◌, List, length, get_or, true, refl, sym, ap, ◌∙◌}
use Rattle.std.specs.Prelude.{IsTrue}
use Rattle.std.specs.List.{list_all}
use Rattle.std.specs.Str.{bytes_eq}
use Rattle.std.proofs.lemmas.List.Folds.{list_any_at}
use Rattle.std.proofs.lemmas.List.Elements.{All-get_or}
use Rattle.std.proofs.lemmas.List.Sums.{AllPass-from_list_all}
use Rattle.std.proofs.lemmas.Slice.Eq.{bytes_eq-Decides}
use Rattle.ups_life.specs.declared.peer.Peer.{Peer}
use Rattle.ups_life.specs.Watching.{is_peer, may_lock}
use Rattle.ups_terms.specs.declared.terms.Terms.{Terms}
use Rattle.ups_terms.specs.declared.lacking.Difference.{Difference}
use Rattle.ups_terms.specs.declared.lacking.Difference.TheVariants as lacked
use Rattle.ups_terms.specs.Permits.{is_still, LacksRight, Permits, Lacks}

same : (xs : List ℕ) → bytes_eq xs xs ≡ true
same xs = (bytes_eq-Decides xs xs).1 refl

-- each of them is one of them
is_among : (peers : List Peer) (i : ℕ) (p : Peer) → i < length peers → p ≡ get_or peers i p → is_peer peers p.ae ≡ true
is_among peers i p small is = list_any_at (λ (q : Peer). bytes_eq q.ae p.ae) peers i p small (ap (λ (q : Peer). bytes_eq q.ae p.ae) (sym is) ∙ same p.ae)

-- each of them with the right to lock has it among them
locks_among : (peers : List Peer) (i : ℕ) (p : Peer) → i < length peers → p ≡ get_or peers i p → p.lock ≡ true → may_lock peers p.ae ≡ true
locks_among peers i p small is lock =
    let here : (bytes_eq p.ae p.ae && p.lock) ≡ true = rw (same p.ae, lock) in
    list_any_at (λ (q : Peer). bytes_eq q.ae p.ae && q.lock) peers i p small (ap (λ (q : Peer). bytes_eq q.ae p.ae && q.lock) (sym is) ∙ here)

-- what one of an earlier run's peers lacks, this run lacks
pub lacks_of : {A : Type 0} (old : Terms A) (keep : ℕ) (offset : ℤ) (peers was : List Peer) (i : ℕ) (p : Peer) (d : Difference) → was ≡ old.peers.items → i < length was → p ≡ get_or was i p → LacksRight peers p d → Lacks old keep offset peers d
lacks_of old keep offset peers was i p (lacked.Peer ae) all small is h = (ap (λ (l : List Peer). is_peer l ae) (sym all) ∙ (ap (is_peer was) h.0 ∙ is_among was i p small is), h.1)
lacks_of old keep offset peers was i p (lacked.Lock ae) all small is h = (ap (λ (l : List Peer). may_lock l ae) (sym all) ∙ (ap (may_lock was) h.0 ∙ locks_among was i p small is h.1), h.2)
lacks_of old keep offset peers was i p (lacked.Keep seconds) all small is h = absurd h
lacks_of old keep offset peers was i p (lacked.Offset minutes) all small is h = absurd h

-- where an earlier run is permitted, each of its peers is one still
pub still_there : {A : Type 0} (old : Terms A) (keep : ℕ) (offset : ℤ) (peers was : List Peer) (i : ℕ) (p : Peer) → was ≡ old.peers.items → i < length was → p ≡ get_or was i p → Permits old keep offset peers → IsTrue (is_still peers p)
still_there old keep offset peers was i p all small is h =
    ap (is_still peers) is
    ∙ All-get_or (λ (q : Peer). is_still peers q ≡ true) was i p small (AllPass-from_list_all (is_still peers) was (ap (list_all (is_still peers)) all ∙ h.still_peers))

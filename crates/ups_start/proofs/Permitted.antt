-- What the last run noted, and settings that permit it.
use Rattle.std.proofs.Common.{◌≡◌, ℕ, ℤ, List, Option, None, Some, sym, subst, ◌∙◌}
use Rattle.std.specs.declared.alloc.Global.{Global}
use Rattle.ups_life.specs.Settings.{Settings}
use Rattle.ups_life.specs.declared.peer.Peer.{Peer}
use Rattle.ups_terms.specs.declared.terms.Terms.{Terms}
use Rattle.ups_terms.specs.Permits.{Permits}
use Rattle.ups_start.specs.Noted.{IsTextOf, PermitsNoted, AreNoted}

-- the settings permit the terms that the text tells
pub permits_text : (s : Settings) (old : Terms Global) (text : List ℕ) (keep : ℕ) (offset : ℤ) (peers : List Peer) → IsTextOf text old → keep ≡ s.keep → offset ≡ s.offset → peers ≡ s.peers → Permits old keep offset peers → PermitsNoted s (Some text)
permits_text s old text keep offset peers is k o p permits = (
  old,
  is,
  subst (λ (x : List Peer). Permits old s.keep s.offset x) p (subst (λ (x : ℤ). Permits old s.keep x peers) o (subst (λ (x : ℕ). Permits old x offset peers) k permits)),
)

-- what was read is what the last run noted
pub permits_read : (s : Settings) (read noted : Option (List ℕ)) (text : List ℕ) → read ≡ Some text → read ≡ noted → PermitsNoted s (Some text) → PermitsNoted s noted
permits_read s read noted text is same permits = subst (λ (x : Option (List ℕ)). PermitsNoted s x) (sym is ∙ same) permits

-- the terms that were read are those that the last run noted
pub terms_read : (terms : Terms Global) (read noted : Option (List ℕ)) (text : List ℕ) → read ≡ Some text → read ≡ noted → IsTextOf text terms → AreNoted (Some terms) noted
terms_read terms read noted text is same told = subst (λ (x : Option (List ℕ)). AreNoted (Some terms) x) (sym is ∙ same) told

-- none was read, and none was noted
pub none_read : (read noted : Option (List ℕ)) → read ≡ None → read ≡ noted → AreNoted None noted
none_read read noted is same = subst (λ (x : Option (List ℕ)). AreNoted None x) (sym is ∙ same) tt

-- Peers that are named one after the other.
use Rattle.std.proofs.Common.{◌≡◌, ℕ, ℤ, Bool, true, false, ◌||◌, List, [], ◌∷◌, ◌++◌, None, refl, sym, ◌∙◌}
use Rattle.std.specs.Str.{bytes_eq}
use Rattle.std.proofs.lemmas.Slice.Eq.{bytes_eq-Decides}
use Rattle.ups_life.specs.declared.peer.Peer.{Peer}
use Rattle.ups_settings.specs.Refusal.{is_named, is_twice, is_bad_offset, refusal}
use Rattle.ups_life.specs.Limits.{history_limit}
use Rattle.ups_settings.specs.Defaults.{local_offset}

no : true ≡ false → ⊥
no e = cc

neither : (a b : Bool) → (a || b) ≡ false → (a ≡ false) × (b ≡ false)
neither false b e = (refl, e)
neither true b e = absurd (no e)

none_of : (a b : Bool) → a ≡ false → b ≡ false → (a || b) ≡ false
none_of false b e f = f
none_of true b e f = absurd (no e)

turned : (b : Bool) (xs ys : List ℕ) → bytes_eq ys xs ≡ b → bytes_eq xs ys ≡ false → b ≡ false
turned false xs ys is e = refl
turned true xs ys is e = absurd (no (sym ((bytes_eq-Decides xs ys).1 (sym ((bytes_eq-Decides ys xs).0 is))) ∙ e))

apart : (xs ys : List ℕ) → bytes_eq xs ys ≡ false → bytes_eq ys xs ≡ false
apart xs ys e = turned (bytes_eq ys xs) xs ys refl e

named_on : (ae : List ℕ) (peers : List Peer) (p : Peer) → is_named ae peers ≡ false → bytes_eq p.ae ae ≡ false → is_named ae (peers ++ p ∷ []) ≡ false
named_on ae [] p e f = none_of (bytes_eq p.ae ae) false f refl
named_on ae (q ∷ peers) p e f =
    let (a, b) = neither (bytes_eq q.ae ae) (is_named ae peers) e in
    none_of (bytes_eq q.ae ae) (is_named ae (peers ++ p ∷ [])) a (named_on ae peers p b f)

-- a peer that isn't named yet makes none of them named twice
pub twice_on : (peers : List Peer) (p : Peer) → is_twice peers ≡ false → is_named p.ae peers ≡ false → is_twice (peers ++ p ∷ []) ≡ false
twice_on [] p e f = refl
twice_on (q ∷ peers) p e f =
    let (a, b) = neither (is_named q.ae peers) (is_twice peers) e in
    let (c, d) = neither (bytes_eq q.ae p.ae) (is_named p.ae peers) f in
    none_of (is_named q.ae (peers ++ p ∷ [])) (is_twice (peers ++ p ∷ [])) (named_on q.ae peers p a (apart q.ae p.ae c)) (twice_on peers p b d)

pub unrefused_at : (peers : List Peer) (offset : ℤ) → is_twice peers ≡ false → is_bad_offset offset ≡ false → refusal peers offset history_limit ≡ None
unrefused_at peers offset e f = rw (e, f) refl

pub unrefused : (peers : List Peer) → is_twice peers ≡ false → refusal peers local_offset history_limit ≡ None
unrefused peers e = unrefused_at peers local_offset e refl

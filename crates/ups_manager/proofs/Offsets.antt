-- An offset with which a manager is made.
use Rattle.std.proofs.Common.{◌≡◌, ℕ, ℤ, Bool, true, false, cond, ◌||◌, T, List, [], ◌∷◌, Option, None, Some, refl, sym, subst}
use Rattle.std.specs.Prelude.{pos, negsuc, not, ◌≤ℤ◌}
use Rattle.std.specs.Int.Signed.{lt_z, lt_z_no}
use Rattle.ups_life.specs.declared.peer.Peer.{Peer}
use Rattle.ups_life.specs.Settings.{IsOffset}
use Rattle.ups_tables.specs.Seen.{Once}
use Rattle.ups_settings.specs.declared.fault.ManagerFault.{ManagerFault}
use Rattle.ups_settings.specs.declared.fault.ManagerFault.TheVariants.{TwicePeer, BadLimit, BadOffset}
use Rattle.ups_settings.specs.Refusal.{is_named, is_twice, is_bad_limit, is_bad_offset, refusal}

at_least : (a b : ℤ) → lt_z a b ≡ false → b ≤ℤ a
at_least a b e = lt_z_no (subst (λ x. T (not x)) (sym e) tt)

neither : (p q : Bool) → p || q ≡ false → (p ≡ false) × (q ≡ false)
neither true q e = absurd cc
neither false q e = (refl, e)

no_fault : (b : Bool) (f : ManagerFault) (rest : Option ManagerFault) → cond b (Some f) rest ≡ None → (b ≡ false) × (rest ≡ None)
no_fault true f rest e = absurd cc
no_fault false f rest e = (refl, e)

pub good_offset : (peers : List Peer) (offset : ℤ) (limit : ℕ) → refusal peers offset limit ≡ None → IsOffset offset
good_offset peers offset limit e =
    let once = no_fault (is_twice peers) TwicePeer _ e in
    let limited = no_fault (is_bad_limit limit) BadLimit _ once.1 in
    let good = no_fault (is_bad_offset offset) BadOffset None limited.1 in
    let both = neither (lt_z offset (negsuc 719)) (lt_z (pos 840) offset) good.0 in
    (at_least offset (negsuc 719) both.0, at_least (pos 840) offset both.1)

-- nor is a title named twice
once : (peers : List Peer) → is_twice peers ≡ false → Once peers
once [] e = tt
once (p ∷ ps) e = let both = neither (is_named p.ae ps) (is_twice ps) e in (both.0, once ps both.1)

pub good_titles : (peers : List Peer) (offset : ℤ) (limit : ℕ) → refusal peers offset limit ≡ None → Once peers
good_titles peers offset limit e = once peers (no_fault (is_twice peers) TwicePeer _ e).0

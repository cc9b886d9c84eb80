-- There is one way to read the sub-items of the user information.
use Rattle.std.proofs.Common.{◌≡◌, ℕ, List, [], ◌∷◌, ◌++◌, length, refl, sym, subst, ◌∙◌}
use Rattle.std.specs.Int.{w16, to_be_bytes}
use Rattle.ups_pdu.specs.declared.associate.AsynchronousWindow.{AsynchronousWindow}
use Rattle.ups_pdu.specs.declared.associate.Role.{Role}
use Rattle.ups_pdu.specs.Identifier.{SpellsUid}
use Rattle.ups_pdu.specs.UserItems.{IsRole, SpellsRole, SpellsWindow, SpellsMaximumLength}
use Rattle.ups_pdu.proofs.Parts.{same_parts, same_be_2, same_be_4}

pub one_role : (content t u : List ℕ) (a b x y : ℕ) → IsRole content t a b → IsRole content u x y → (t ≡ u) × (a ≡ x) × (b ≡ y)
one_role content t u a b x y p q =
    let outer = same_parts (to_be_bytes w16 (length t)) (to_be_bytes w16 (length u)) (t ++ a ∷ b ∷ []) (u ++ x ∷ y ∷ []) refl (sym p.parts ∙ q.parts) in
    let inner = same_parts t u (a ∷ b ∷ []) (x ∷ y ∷ []) (same_be_2 (length t) (length u) p.fits q.fits outer.0) outer.1 in
    let last : a ∷ b ∷ [] ≡ x ∷ y ∷ [] = inner.1 in
    let first : a ≡ x = cc in
    let second : b ≡ y = cc in
    (inner.0, first, second)

pub one_uid : (content a b : List ℕ) → SpellsUid content a → SpellsUid content b → a ≡ b
one_uid content a b p q = p.parts ∙ sym q.parts

pub one_spelled_role : (content : List ℕ) (a b : Role) → SpellsRole content a → SpellsRole content b → a ≡ b
one_spelled_role content a b p q =
    let same = one_role content p.text q.text a.scu a.scp b.scu b.scp p.is q.is in
    let uid : a.sop_class ≡ b.sop_class = one_uid q.text a.sop_class b.sop_class (subst (λ (t : List ℕ). SpellsUid t a.sop_class) same.0 p.sop_class) q.sop_class in
    λ i. record { sop_class = uid i; scu = same.1 i; scp = same.2 i }

pub one_window : (content : List ℕ) (a b : AsynchronousWindow) → SpellsWindow content a → SpellsWindow content b → a ≡ b
one_window content a b p q =
    let same = same_parts (to_be_bytes w16 a.invoked) (to_be_bytes w16 b.invoked) (to_be_bytes w16 a.performed) (to_be_bytes w16 b.performed) refl (sym p.parts ∙ q.parts) in
    let invoked = same_be_2 a.invoked b.invoked p.invoked q.invoked same.0 in
    let performed = same_be_2 a.performed b.performed p.performed q.performed same.1 in
    λ i. record { invoked = invoked i; performed = performed i }

pub one_maximum : (content : List ℕ) (a b : ℕ) → SpellsMaximumLength content a → SpellsMaximumLength content b → a ≡ b
one_maximum content a b p q = same_be_4 a b p.fits q.fits (sym p.parts ∙ q.parts)

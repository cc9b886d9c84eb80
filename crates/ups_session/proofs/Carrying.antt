-- The fragments of a P-DATA-TF, one after another.
use Rattle.std.proofs.Common.{◌≡◌, List, [], ◌∷◌, ◌++◌, length, refl, sym, map, ap, ◌∙◌, subst, append_assoc, arith}
use Rattle.std.proofs.lemmas.List.{map-append}
use Rattle.std.specs.Iterator.{Yields}
use Rattle.std.specs.Vec.Iter.{into_iter_items, into_iter_len, into_iter_steps}
use Rattle.std.specs.declared.vec.IntoIter.{IntoIter}
use Rattle.ups_pdu.specs.declared.pdv.Pdv.{Pdv}
use Rattle.ups_session.specs.declared.fault.SessionFault.{SessionFault}
use Rattle.ups_session.specs.Fold.{Indication, presentation_data, Side, Happens}
use Rattle.ups_session.specs.Session.{okay, failing}
use Rattle.ups_session.specs.World.{World, Performed}
use Rattle.ups_session.proofs.Going.{goes_on, goes_cut}

-- what the iterator of a vector has given is a front of its items
pub taken_front : {X A : Type 0} (s : IntoIter X A) (xs : List X) (t : IntoIter X A) → Yields into_iter_steps s xs t → into_iter_items s ≡ xs ++ into_iter_items t
taken_front s [] t y = ap into_iter_items y
taken_front s (x ∷ xs) t y = y.1.0 ∙ ap (λ ys. x ∷ ys) (taken_front y.0 xs t y.2)

empty : {X : Type 0} (xs : List X) → length xs ≡ 0 → xs ≡ []
empty [] e = refl
empty (x ∷ xs) e = absurd (omega arith)

-- where nothing is left of it, it has no items
pub nothing_left : {X A : Type 0} (s : IntoIter X A) → into_iter_len s ≡ 0 → into_iter_items s ≡ []
nothing_left s e = empty (into_iter_items s) (sym s.rest.ok.0 ∙ e)

-- the fragments so far, and one more
pub fragments_on : {A L W : Type 0} (side : Side A L W) (front : List (Pdv A)) (p : Pdv A) (association mid after : L) (u v w : World A)
    → Performed (Happens side) (map presentation_data front) association mid u v okay → Performed (Happens side) (presentation_data p ∷ []) mid after v w okay → Performed (Happens side) (map presentation_data (front ++ p ∷ [])) association after u w okay
fragments_on {A} side front p association mid after u v w g h =
    subst (λ (hs : List (Indication A)). Performed (Happens side) hs association after u w okay) (sym (map-append presentation_data front (p ∷ [])))
    (goes_on (Happens side) (map presentation_data front) (presentation_data p ∷ []) association mid after u v w tt okay g h)

pub fragments_cut : {A L W : Type 0} (side : Side A L W) (all front rest : List (Pdv A)) (p : Pdv A) (association mid after : L) (u v w : World A) (e : SessionFault) → all ≡ front ++ p ∷ rest
    → Performed (Happens side) (map presentation_data front) association mid u v okay → Performed (Happens side) (presentation_data p ∷ []) mid after v w (failing e) → Performed (Happens side) (map presentation_data all) association after u w (failing e)
fragments_cut {A} side all front rest p association mid after u v w e parts g h =
    let so_far = map presentation_data front ++ presentation_data p ∷ [] in
    let some : Performed (Happens side) so_far association after u w (failing e) =
    goes_on (Happens side) (map presentation_data front) (presentation_data p ∷ []) association mid after u v w tt (failing e) g h in
    let came : map presentation_data all ≡ so_far ++ map presentation_data rest =
    ap (map presentation_data) parts ∙ map-append presentation_data front (p ∷ rest) ∙ sym (append_assoc (map presentation_data front) (presentation_data p ∷ []) (map presentation_data rest)) in
    subst (λ (hs : List (Indication A)). Performed (Happens side) hs association after u w (failing e)) (sym came)
    (goes_cut (Happens side) so_far (map presentation_data rest) association after after u w e some)

-- A loop that keeps some of the elements of a list.
use Rattle.std.proofs.Common.{◌≡◌, ℕ, ◌+◌, ◌<◌, add-one, append-nil, Bool, true, false, cond, List, [], ◌∷◌, ◌++◌, length, take, get_or, map, filter, sym, ap, ◌∙◌}
use Rattle.std.proofs.Math.Seq.{take-suc}
use Rattle.std.proofs.lemmas.List.{map-append}
use Rattle.std.proofs.lemmas.List.Elements.{filter-append}

next : {X Y : Type 0} (view : X → Y) (p : Y → Bool) (items : List X) (i : ℕ) (x : X) → i < length items → x ≡ get_or items i x
    → filter p (map view (take (i + 1) items)) ≡ filter p (map view (take i items)) ++ filter p (view x ∷ [])
next view p items i x short is =
    ap (λ l. filter p (map view l)) (rw (add-one i) (take-suc items i x short) ∙ ap (λ y. take i items ++ y ∷ []) (sym is))
    ∙ ap (filter p) (map-append view (take i items) (x ∷ [])) ∙ filter-append p (map view (take i items)) (view x ∷ [])

pub kept : {X Y : Type 0} (view : X → Y) (p : Y → Bool) (items done new : List X) (i : ℕ) (x copy : X) → i < length items → x ≡ get_or items i x
    → map view done ≡ filter p (map view (take i items)) → new ≡ done ++ copy ∷ [] → view copy ≡ view x → p (view x) ≡ true → map view new ≡ filter p (map view (take (i + 1) items))
kept view p items done new i x copy short is so added same passes =
    ap (map view) added ∙ map-append view done (copy ∷ []) ∙ ap (λ l. l ++ view copy ∷ []) so ∙ ap (λ v. filter p (map view (take i items)) ++ v ∷ []) same
    ∙ ap (λ b. filter p (map view (take i items)) ++ cond b (view x ∷ []) []) (sym passes) ∙ sym (next view p items i x short is)

pub left : {X Y : Type 0} (view : X → Y) (p : Y → Bool) (items done : List X) (i : ℕ) (x : X) → i < length items → x ≡ get_or items i x
    → map view done ≡ filter p (map view (take i items)) → p (view x) ≡ false → map view done ≡ filter p (map view (take (i + 1) items))
left view p items done i x short is so fails =
    so ∙ sym (append-nil (filter p (map view (take i items)))) ∙ ap (λ b. filter p (map view (take i items)) ++ cond b (view x ∷ []) []) (sym fails) ∙ sym (next view p items i x short is)

-- One more element of a list that is gone through.
use Rattle.std.proofs.Common.{◌≡◌, ℕ, ◌+◌, ◌<◌, List, [], ◌∷◌, ◌++◌, length, get_or, take, map, sym, ap, ◌∙◌}
use Rattle.std.specs.List.{flat_map}
use Rattle.std.proofs.lemmas.List.{take_more, map_more, flat_map_more}

pub map_next : {X Y : Type 0} (f : X → Y) (xs : List X) (i : ℕ) (d : X) (y : Y) (old new : List Y) → i < length xs → y ≡ f (get_or xs i d) → old ≡ map f (take i xs) → new ≡ old ++ y ∷ [] → new ≡ map f (take (i + 1) xs)
map_next {X} {Y} f xs i d y old new low is so_far e =
    e ∙ ap (λ (l : List Y). l ++ y ∷ []) so_far ∙ ap (λ (z : Y). map f (take i xs) ++ z ∷ []) is ∙ sym (map_more f xs i d low)

pub flat_map_next : {X Y : Type 0} (f : X → List Y) (xs : List X) (i : ℕ) (x : X) (ys old new : List Y) → i < length xs → x ≡ get_or xs i x → ys ≡ f x → old ≡ flat_map f (take i xs) → new ≡ old ++ ys → new ≡ flat_map f (take (i + 1) xs)
flat_map_next {X} {Y} f xs i x ys old new low is gives so_far e =
    let taken = take_more xs i x low ∙ ap (λ (y : X). take i xs ++ y ∷ []) (sym is) in
    e ∙ ap (λ (l : List Y). l ++ ys) so_far ∙ ap (λ (l : List Y). flat_map f (take i xs) ++ l) gives ∙ flat_map_more f [] (take i xs) x ∙ ap (flat_map f) (sym taken)

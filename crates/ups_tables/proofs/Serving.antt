-- Elements of a list are served one after another.
use Rattle.std.proofs.Common.{◌≡◌, ℕ, ◌+◌, ◌<◌, List, [], ◌∷◌, ◌++◌, length, take, get_or, Option, sym, ap, ◌∙◌}
use Rattle.std.specs.List.{filter_map}
use Rattle.std.proofs.lemmas.List.{take_more}
use Rattle.std.proofs.lemmas.List.Elements.{filter_map-append}

-- what is made of the elements before one, and then of that too
pub map_step : {X Y : Type 0} (f : X → Option Y) (xs : List X) (i : ℕ) (x : X) (before after : List Y) → i < length xs → x ≡ get_or xs i x → before ≡ filter_map f (take i xs) → after ≡ before ++ filter_map f (x ∷ []) → after ≡ filter_map f (take (i + 1) xs)
map_step f xs i x before after low is was step =
    step ∙ ap (λ l. l ++ filter_map f (x ∷ [])) was ∙ sym (filter_map-append f (take i xs) (x ∷ [])) ∙ ap (filter_map f) (sym (take_more xs i x low ∙ ap (λ y. take i xs ++ y ∷ []) (sym is)))

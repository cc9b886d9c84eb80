-- A walk over a list from which some are picked: what was found so far, with what the rest will give, is what all give.
use Rattle.std.proofs.Common.{◌≡◌, Bool, true, false, cond, List, [], ◌∷◌, ◌++◌, map, filter, append_assoc}

pub next_picked : {X Y : Type 0} (f : X → Y) (p : X → Bool) (x : X) (rest : List X) (found : List Y) → (found ++ cond (p x) (f x ∷ []) []) ++ map f (filter p rest) ≡ found ++ map f (filter p (x ∷ rest))
next_picked {X} {Y} f p x rest found = by (p x)
  where
    by : (b : Bool) → (found ++ cond b (f x ∷ []) []) ++ map f (filter p rest) ≡ found ++ map f (cond b (x ∷ filter p rest) (filter p rest))
    by true = append_assoc found (f x ∷ []) (map f (filter p rest))
    by false = append_assoc found [] (map f (filter p rest))

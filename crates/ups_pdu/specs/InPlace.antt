-- A text in an array of fixed size: the text, followed by zeros.
use Rattle.std.specs.Prelude.{◌≡◌, ℕ, ◌-◌, ◌≤◌, List, ◌++◌, length, take, drop, replicate}
use Rattle.std.proofs.Common.{sym, ap, ◌∙◌, arith}
use Rattle.std.proofs.lemmas.List.{length-take, take-append-drop}

-- the text determines the array and its own length
pub array_again : (room : ℕ) (bytes : List ℕ) (len : ℕ) → len ≤ room → length bytes ≡ room → drop len bytes ≡ replicate (room - len) 0
    → (take len bytes ++ replicate (room - length (take len bytes)) 0 ≡ bytes) × (length (take len bytes) ≡ len)
array_again room bytes len short whole zeros =
    let e : length (take len bytes) ≡ len = omega (arith, length-take len bytes) in
    (ap (λ (n : ℕ). take len bytes ++ replicate (room - n) 0) e ∙ ap (λ (w : List ℕ). take len bytes ++ w) (sym zeros) ∙ take-append-drop len bytes, e)

-- Things one after the other in bytes: there is one way to cut them.
use Rattle.std.proofs.Common.{◌≡◌, ℕ, ◌<◌, List, [], ◌∷◌, length, refl, ap, subst, arith}
use Rattle.ups_pdu.specs.Each.{Each}

-- there is one thing at the front, in one way, and it takes some bytes
pub record IsOneWay {X : Type 0} (Front : List ℕ → X → List ℕ → Type 0) : Type 0 where
  pub one : (bytes : List ℕ) (x y : X) (r s : List ℕ) → Front bytes x r → Front bytes y s → (x ≡ y) × (r ≡ s)
  pub some : (bytes : List ℕ) (x : X) (r : List ℕ) → Front bytes x r → 0 < length bytes

-- what stands at the front is the first of the things
pub record Split {X : Type 0} (Front : List ℕ → X → List ℕ → Type 0) (x : X) (after : List ℕ) (xs : List X) : Type 0 where
  pub tail : List X
  pub parts : xs ≡ x ∷ tail
  pub more : Each Front after tail

pub splits : {X : Type 0} (Front : List ℕ → X → List ℕ → Type 0) → IsOneWay Front → (bytes : List ℕ) (x : X) (after : List ℕ) → Front bytes x after → (xs : List X) → Each Front bytes xs → Split Front x after xs
splits Front way bytes x after is [] e = absurd (omega (arith, way.some bytes x after is, ap length e))
splits Front way bytes x after is (y ∷ ys) (r, first, more) =
    let same = way.one bytes y x r after first is in
    record { tail = ys; parts = ap (λ h. h ∷ ys) same.0; more = subst (λ (l : List ℕ). Each Front l ys) same.1 more }

-- where nothing stands at the front there are no things
pub ends : {X : Type 0} (Front : List ℕ → X → List ℕ → Type 0) (bytes : List ℕ) → ((x : X) → (rest : List ℕ) → Front bytes x rest → ⊥) → (xs : List X) → Each Front bytes xs → (xs ≡ []) × (bytes ≡ [])
ends Front bytes none [] e = (refl, e)
ends Front bytes none (y ∷ ys) (r, first, more) = absurd (none y r first)

pub each_one : {X : Type 0} (Front : List ℕ → X → List ℕ → Type 0) → IsOneWay Front → (bytes : List ℕ) (xs ys : List X) → Each Front bytes xs → Each Front bytes ys → xs ≡ ys
each_one Front way bytes [] [] d e = refl
each_one Front way bytes [] (y ∷ ys) d (r, is, more) = absurd (omega (arith, ap length d, way.some bytes y r is))
each_one Front way bytes (x ∷ xs) ys (r, is, more) e =
    let s = splits Front way bytes x r is ys e in
    let same : xs ≡ s.tail = each_one Front way r xs s.tail more s.more in
    let parts : ys ≡ x ∷ s.tail = s.parts in
    cc

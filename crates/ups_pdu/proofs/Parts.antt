-- Two ways to cut one list are one, and a number has one spelling in bytes.
use Rattle.std.proofs.Common.{◌≡◌, ℕ, ◌^◌, ◌<◌, List, [], ◌∷◌, ◌++◌, length, refl, sym, ap, ◌∙◌, arith}
use Rattle.std.specs.Int.{w16, w32, to_be_bytes, from_be_bytes, to_le_bytes, from_le_bytes}
use Rattle.std.proofs.lemmas.Nat.{from_be_bytes-to_be_bytes_2, from_be_bytes-to_be_bytes_4, from_le_bytes-to_le_bytes_2, from_le_bytes-to_le_bytes_4}

pub same_parts : {A : Type 0} (a b x y : List A) → length a ≡ length b → a ++ x ≡ b ++ y → (a ≡ b) × (x ≡ y)
same_parts [] [] x y len e = (refl, e)
same_parts [] (d ∷ b) x y len e = absurd (omega (arith, len))
same_parts (c ∷ a) [] x y len e = absurd (omega (arith, len))
same_parts (c ∷ a) (d ∷ b) x y len e =
    let inner = same_parts a b x y (omega (arith, len)) cc in
    let i0 : a ≡ b = inner.0 in
    let i1 : x ≡ y = inner.1 in
    (cc, i1)

pub same_be_2 : (m n : ℕ) → m < 2 ^ 16 → n < 2 ^ 16 → to_be_bytes w16 m ≡ to_be_bytes w16 n → m ≡ n
same_be_2 m n lm ln e = sym (from_be_bytes-to_be_bytes_2 m lm) ∙ ap (from_be_bytes w16) e ∙ from_be_bytes-to_be_bytes_2 n ln

pub same_be_4 : (m n : ℕ) → m < 2 ^ 32 → n < 2 ^ 32 → to_be_bytes w32 m ≡ to_be_bytes w32 n → m ≡ n
same_be_4 m n lm ln e = sym (from_be_bytes-to_be_bytes_4 m lm) ∙ ap (from_be_bytes w32) e ∙ from_be_bytes-to_be_bytes_4 n ln

pub same_le_2 : (m n : ℕ) → m < 2 ^ 16 → n < 2 ^ 16 → to_le_bytes w16 m ≡ to_le_bytes w16 n → m ≡ n
same_le_2 m n lm ln e = sym (from_le_bytes-to_le_bytes_2 m lm) ∙ ap (from_le_bytes w16) e ∙ from_le_bytes-to_le_bytes_2 n ln

pub same_le_4 : (m n : ℕ) → m < 2 ^ 32 → n < 2 ^ 32 → to_le_bytes w32 m ≡ to_le_bytes w32 n → m ≡ n
same_le_4 m n lm ln e = sym (from_le_bytes-to_le_bytes_4 m lm) ∙ ap (from_le_bytes w32) e ∙ from_le_bytes-to_le_bytes_4 n ln

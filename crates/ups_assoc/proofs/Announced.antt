-- The walk over the elements of a command.
use Rattle.std.proofs.Common.{◌≡◌, ℕ, zero, suc, ◌<◌, ◌≤◌, ◌^◌, Bool, true, false, not, ◌&&◌, ◌==◌, cond, List, [], ◌∷◌, ◌++◌, length, drop, refl, sym, ap, ◌∙◌, arith}
use Rattle.std.specs.Int.{w32, to_le_bytes}
use Rattle.std.proofs.lemmas.List.{length-append, drop_at}
use Rattle.std.proofs.lemmas.Nat.{from_le_bytes-to_le_bytes_4}
use Rattle.ups_assoc.specs.Same.{is_same}
use Rattle.ups_assoc.specs.Announcing.{announces, data_set_type, announced_behind, data_follows}

pub behind_within : (n : ℕ) (bytes : List ℕ) → n ≤ length bytes → announced_behind n bytes ≡ announced_behind 0 (drop n bytes)
unfolding announced_behind
behind_within zero bytes h = refl
behind_within (suc n) [] h = absurd (omega arith)
behind_within (suc n) (b ∷ bytes) h = behind_within n bytes (omega arith)

pub behind_past : (n : ℕ) (bytes : List ℕ) → length bytes < n → announced_behind n bytes ≡ false
unfolding announced_behind
behind_past zero bytes h = absurd (omega arith)
behind_past (suc n) [] h = refl
behind_past (suc n) (b ∷ bytes) h = behind_past n bytes (omega arith)

pub behind_short : (bytes : List ℕ) → length bytes < 8 → announced_behind 0 bytes ≡ false
unfolding announced_behind
behind_short [] h = refl
behind_short (a ∷ []) h = refl
behind_short (a ∷ b ∷ []) h = refl
behind_short (a ∷ b ∷ c ∷ []) h = refl
behind_short (a ∷ b ∷ c ∷ d ∷ []) h = refl
behind_short (a ∷ b ∷ c ∷ d ∷ e ∷ []) h = refl
behind_short (a ∷ b ∷ c ∷ d ∷ e ∷ f ∷ []) h = refl
behind_short (a ∷ b ∷ c ∷ d ∷ e ∷ f ∷ g ∷ []) h = refl
behind_short (a ∷ b ∷ c ∷ d ∷ e ∷ f ∷ g ∷ h ∷ value) s = absurd (omega arith)

-- an element at the front
pub front_is : (tag : List ℕ) (len : ℕ) (value : List ℕ) → length tag ≡ 4 → len < 2 ^ 32
    → announced_behind 0 (tag ++ (to_le_bytes w32 len ++ value)) ≡ cond (is_same tag data_set_type) (announces len value) (announced_behind len value)
unfolding announced_behind
front_is [] len value four fits = absurd (omega arith)
front_is (a ∷ []) len value four fits = absurd (omega arith)
front_is (a ∷ b ∷ []) len value four fits = absurd (omega arith)
front_is (a ∷ b ∷ c ∷ []) len value four fits = absurd (omega arith)
front_is (a ∷ b ∷ c ∷ d ∷ []) len value four fits =
    ap (λ (n : ℕ). cond (is_same (a ∷ b ∷ c ∷ d ∷ []) data_set_type) (announces n value) (announced_behind n value)) (from_le_bytes-to_le_bytes_4 len fits)
front_is (a ∷ b ∷ c ∷ d ∷ e ∷ tag) len value four fits = absurd (omega arith)

-- the Command Data Set Type decides
pub decided : (command rest tag : List ℕ) (len : ℕ) (value : List ℕ) → data_follows command ≡ announced_behind 0 rest → length tag ≡ 4 → len < 2 ^ 32
    → rest ≡ tag ++ (to_le_bytes w32 len ++ value) → is_same tag data_set_type ≡ true → announces len value ≡ data_follows command
decided command rest tag len value on four fits parts is =
    sym (on ∙ ap (announced_behind 0) parts ∙ front_is tag len value four fits ∙ ap (λ (b : Bool). cond b (announces len value) (announced_behind len value)) is)

-- any other element is passed over
pub passed : (command rest tag : List ℕ) (len : ℕ) (value : List ℕ) → data_follows command ≡ announced_behind 0 rest → length tag ≡ 4 → len < 2 ^ 32
    → rest ≡ tag ++ (to_le_bytes w32 len ++ value) → is_same tag data_set_type ≡ false → data_follows command ≡ announced_behind len value
passed command rest tag len value on four fits parts other =
    on ∙ ap (announced_behind 0) parts ∙ front_is tag len value four fits ∙ ap (λ (b : Bool). cond b (announces len value) (announced_behind len value)) other

-- an element with another tag, in a command set
pub element_passed : (tag value rest : List ℕ) → length tag ≡ 4 → length value < 2 ^ 32 → is_same tag data_set_type ≡ false
    → data_follows (tag ++ (to_le_bytes w32 (length value) ++ (value ++ rest))) ≡ data_follows rest
element_passed tag value rest four fits other =
    front_is tag (length value) (value ++ rest) four fits
    ∙ ap (λ (b : Bool). cond b (announces (length value) (value ++ rest)) (announced_behind (length value) (value ++ rest))) other
    ∙ behind_within (length value) (value ++ rest) (omega (arith, length-append value rest))
    ∙ ap (announced_behind 0) (drop_at value rest (length value) refl)

pub type_decides : (low high : ℕ) (rest : List ℕ) → data_follows (data_set_type ++ (to_le_bytes w32 2 ++ (low ∷ high ∷ rest))) ≡ not (low == 1 && high == 1)
type_decides low high rest = front_is data_set_type 2 (low ∷ high ∷ rest) refl (omega arith)

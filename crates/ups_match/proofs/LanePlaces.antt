-- Places of a text, one in each lane of a vector.
use Rattle.std.proofs.Common.{◌≡◌, ◌≢◌, ◌≤◌, ◌<◌, ◌+◌, ◌-◌, ℕ, Bool, true, false, cond, eqb, List, length, drop, take, map, replicate, get_or, refl, sym, ap, ◌∙◌, arith, drop-drop}
use Rattle.std.specs.Prelude.{Option, None, Some}
use Rattle.std.specs.Int.{bit_at}
use Rattle.std.specs.Simd.Lanes.{zip2, sel_l, mask_l}
use Rattle.std.proofs.lemmas.Simd.{length-zip2, get_or-zip2, get_or-replicate, length-sel_l, get_or-sel_l, bit_mask_l}
use Rattle.std.proofs.lemmas.Nat.Bits.{bit_at-zero}
use Rattle.std.proofs.lemmas.List.{get_or-take, get_or-drop}
use Rattle.std.proofs.Math.ListN.{get_or-map}
use Rattle.ups_match.specs.Likeness.{is_question_mark}
use Rattle.ups_match.specs.Runs.{behind_front}
use Rattle.ups_match.specs.Lanes.{HasLanes}
use Rattle.ups_match.proofs.Begun.{by_order}
use Rattle.ups_match.proofs.PatternRuns.{same_number}
use Rattle.ups_match.proofs.Places.{fits, front_to, fits_same}

-- the lanes of places at which a text has a byte
pub selected : (text places : List ℕ) (byte : ℕ) → length (take 64 text) ≡ 64 → length places ≡ 64
    → HasLanes (sel_l (zip2 eqb (take 64 text) (replicate 64 byte)) places (replicate 64 0)) (λ k. cond (eqb (get_or text k 0) byte) (get_or places k 0) 0)
selected text places byte p q =
    let v = take 64 text in
    let long : length (zip2 eqb v (replicate 64 byte)) ≡ 64 = length-zip2 eqb v (replicate 64 byte) p ∙ p in
    record {
      long = length-sel_l _ places (replicate 64 0) (long ∙ sym q) long ∙ long;
      each = λ k l.
          let test : get_or (zip2 eqb v (replicate 64 byte)) k false ≡ eqb (get_or text k 0) byte =
          get_or-zip2 eqb v (replicate 64 byte) k 0 0 false (omega arith) l ∙ ap (eqb (get_or v k 0)) (get_or-replicate 64 k byte 0 l) ∙ ap (λ x. eqb x byte) (get_or-take 64 text k 0 l) in
          get_or-sel_l _ places (replicate 64 0) k 0 (omega arith) (omega arith) l
          ∙ (λ i. cond (test i) (get_or places k 0) (get_or-replicate 64 k 0 0 l i));
    }

-- the test that a lane has a place
abbrev pub has_place : ℕ → Bool
has_place x = eqb x 255

-- where the mask of the places is 0, no lane has one
pub no_lane : (v : List ℕ) → mask_l (map has_place v) ≡ 0 → (k : ℕ) → get_or v k 0 ≢ 255
no_lane v none k same =
    let bit : bit_at (mask_l (map has_place v)) k ≡ cond {A = ℕ} (has_place (get_or v k 0)) 1 0 = bit_mask_l (map has_place v) k ∙ ap (λ b. cond b 1 0) (get_or-map has_place v k 0) in
    let clear : bit_at (mask_l (map has_place v)) k ≡ 0 = ap (λ m. bit_at m k) none ∙ bit_at-zero k in
    let set : cond {A = ℕ} (has_place (get_or v k 0)) 1 0 ≡ 1 = ap (λ x. cond {A = ℕ} (has_place x) 1 0) same in
    absurd (omega (arith, bit, clear, set))

-- the first i bytes of a run stand for those of a text from place k on
abbrev pub FitsSoFar : List ℕ → List ℕ → ℕ → ℕ → Type 0
FitsSoFar run text i k = (j : ℕ) → j < i → fits (get_or run j 0) (get_or text (k + j) 0) ≡ true

-- where the first i bytes of a run fit, the lane has the place
abbrev pub Keeps : List ℕ → List ℕ → ℕ → List ℕ → Type 0
Keeps run text i places = (k : ℕ) → k < 64 → FitsSoFar run text i k → get_or places k 0 ≡ 255

module _ (run text : List ℕ) (i : ℕ) (places : List ℕ) (old : Keeps run text i places) where
  -- a byte other than ? keeps the places at which the text has it
  pub keeps_with : (next : List ℕ) → is_question_mark (get_or run i 0) ≡ false
      → HasLanes next (λ k. cond (eqb (get_or (drop i text) k 0) (get_or run i 0)) (get_or places k 0) 0) → Keeps run text (i + 1) next
  keeps_with next plain lanes k low each =
      let stands : get_or text (k + i) 0 ≡ get_or run i 0 = fits_same _ _ plain (each i (omega arith)) in
      let place : i + k ≡ k + i = omega arith in
      let here : get_or (drop i text) k 0 ≡ get_or run i 0 = get_or-drop i text k 0 ∙ ap (λ n. get_or text n 0) place ∙ stands in
      lanes.each k low
      ∙ ap (λ b. cond b (get_or places k 0) 0) (ap (λ x. eqb x (get_or run i 0)) here ∙ same_number (get_or run i 0))
      ∙ old k low (λ j below. each j (omega arith))

  -- where no lane has a place, the run fits at none
  pub fits_nowhere : i ≤ length run → ((k : ℕ) → k < 64 → get_or places k 0 ≢ 255) → (k : ℕ) → k < 64 → behind_front run (drop k text) ≡ None
  fits_nowhere within none k low = go (behind_front run (drop k text)) refl
    where
      go : (o : Option (List ℕ)) → behind_front run (drop k text) ≡ o → o ≡ None
      go None is = refl
      go (Some left) is =
          absurd (none k low (old k low (λ j below. ap (fits (get_or run j 0)) (sym (get_or-drop k text j 0)) ∙ front_to run (drop k text) left is j (omega arith))))

-- where no lane of two vectors has a place, whose places stand next to one another, the run fits at none
pub fits_nowhere_in_two : (run text : List ℕ) (i : ℕ) (near far : List ℕ) → Keeps run text i near → Keeps run (drop 64 text) i far → i ≤ length run
    → ((k : ℕ) → k < 64 → get_or near k 0 ≢ 255) → ((k : ℕ) → k < 64 → get_or far k 0 ≢ 255) → (k : ℕ) → k < 128 → behind_front run (drop k text) ≡ None
fits_nowhere_in_two run text i near far kept_near kept_far within none_near none_far k low =
    by_order k 64
    (fits_nowhere run text i near kept_near within none_near k)
    (λ high.
    let place : 64 + (k - 64) ≡ k = omega arith in
    ap (behind_front run) (sym (drop-drop (k - 64) 64 text ∙ ap (λ n. drop n text) place))
    ∙ fits_nowhere run (drop 64 text) i far kept_far within none_far (k - 64) (omega arith))

-- Tags one after the other.
use Rattle.std.proofs.Common.{◌≡◌, ℕ, suc, ◌+◌, ◌*◌, ◌/◌, ◌<◌, ◌%◌, List, [], ◌∷◌, ◌++◌, length, get_or, refl, sym, ap, subst, ◌∙◌, append_assoc, arith}
use Rattle.std.specs.Int.{w16, to_le_bytes}
use Rattle.std.proofs.lemmas.List.{append-nil, nil_from_length}
use Rattle.ups_pdu.specs.Each.{Each}
use Rattle.ups_pdu.proofs.Parts.{same_parts, same_le_2}
use Rattle.ups_dataset.specs.declared.tag.Tag.{Tag}
use Rattle.ups_dataset.specs.Tag.{tag_bytes}
use Rattle.ups_dimse.specs.Values.{IsTagAt}

pub one_tag : (bytes : List ℕ) (t u : Tag) (r s : List ℕ) → IsTagAt bytes t r → IsTagAt bytes u s → (t ≡ u) × (r ≡ s)
one_tag bytes t u r s p q =
    let tags = same_parts (tag_bytes t) (tag_bytes u) r s refl (sym p.parts ∙ q.parts) in
    let halves = same_parts (to_le_bytes w16 t.group) (to_le_bytes w16 u.group) (to_le_bytes w16 t.element) (to_le_bytes w16 u.element) refl tags.0 in
    let group = same_le_2 t.group u.group p.group_fits q.group_fits halves.0 in
    let element = same_le_2 t.element u.element p.element_fits q.element_fits halves.1 in
    (λ i. record { group = group i; element = element i }, tags.1)

tag_long : (bytes : List ℕ) (t : Tag) (r : List ℕ) → IsTagAt bytes t r → length bytes ≡ length r + 4
tag_long bytes t r p = ap length p.parts ∙ omega arith

pub one_tags : (bytes : List ℕ) (ts us : List Tag) → Each IsTagAt bytes ts → Each IsTagAt bytes us → ts ≡ us
one_tags bytes [] [] p q = refl
one_tags bytes [] (u ∷ us) p q = let none : length bytes ≡ 0 = ap length p in absurd (omega (arith, none, tag_long bytes u q.0 q.1))
one_tags bytes (t ∷ ts) [] p q = let none : length bytes ≡ 0 = ap length q in absurd (omega (arith, none, tag_long bytes t p.0 p.1))
one_tags bytes (t ∷ ts) (u ∷ us) p q =
    let same = one_tag bytes t u p.0 q.0 p.1 q.1 in
    let inner = one_tags q.0 ts us (subst (λ (l : List ℕ). Each IsTagAt l ts) same.1 p.2) q.2 in
    λ i. same.0 i ∷ inner i

pub tags_fours : (bytes : List ℕ) (ts : List Tag) → Each IsTagAt bytes ts → length bytes % 4 ≡ 0
tags_fours bytes [] p = ap (λ (l : List ℕ). length l % 4) p
tags_fours bytes (t ∷ ts) p = omega (arith, tag_long bytes t p.0 p.1, tags_fours p.0 ts p.2)

-- the tags that were read so far, and the rest
pub record TagsSoFar (bytes : List ℕ) (ts : List Tag) (rest : List ℕ) : Type 0 where
  pub on : (tail : List Tag) → Each IsTagAt rest tail → Each IsTagAt bytes (ts ++ tail)
  pub fours : length rest % 4 ≡ 0

pub tags_end : (bytes : List ℕ) (ts : List Tag) (rest : List ℕ) → TagsSoFar bytes ts rest → length rest < 4 → Each IsTagAt bytes ts
tags_end bytes ts rest s short = subst (λ (l : List Tag). Each IsTagAt bytes l) (append-nil ts) (s.on [] (nil_from_length rest (omega (arith, s.fours, short))))

-- bytes in fours are tags
two_bytes : (a b : ℕ) → a < 256 → b < 256 → to_le_bytes w16 (a + 256 * b) ≡ a ∷ b ∷ []
two_bytes a b la lb =
    let low : (a + 256 * b) % 256 ≡ a = omega (arith, la) in
    let high : (a + 256 * b) / 256 % 256 ≡ b = omega (arith, la, lb) in
    λ i. low i ∷ high i ∷ []

pub some_tags : (bytes : List ℕ) → ((k : ℕ) → k < length bytes → get_or bytes k 0 < 256) → length bytes % 4 ≡ 0 → (ts : List Tag) × Each IsTagAt bytes ts
some_tags [] small fours = ([], refl)
some_tags (a ∷ []) small fours = absurd (omega (arith, fours))
some_tags (a ∷ b ∷ []) small fours = absurd (omega (arith, fours))
some_tags (a ∷ b ∷ c ∷ []) small fours = absurd (omega (arith, fours))
some_tags (a ∷ b ∷ c ∷ d ∷ rest) small fours =
    let inner = some_tags rest (λ k l. small (suc (suc (suc (suc k)))) (omega (arith, l))) (omega (arith, fours)) in
    let la : a < 256 = small 0 (omega arith) in
    let lb : b < 256 = small 1 (omega arith) in
    let lc : c < 256 = small 2 (omega arith) in
    let ld : d < 256 = small 3 (omega arith) in
    let t : Tag = record { group = a + 256 * b; element = c + 256 * d } in (
      t ∷ inner.0,
      (
        rest,
        record {
          group_fits = omega (arith, la, lb);
          element_fits = omega (arith, lc, ld);
          parts = λ i. (sym (two_bytes a b la lb) i ++ sym (two_bytes c d lc ld) i) ++ rest;
        },
        inner.1,
      ),
    )

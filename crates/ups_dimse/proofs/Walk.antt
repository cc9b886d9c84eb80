-- One way to read the elements of a command set.
use Rattle.std.proofs.Common.{◌≡◌, ℕ, ◌+◌, ◌<◌, ◌≤◌, List, [], ◌∷◌, ◌++◌, length, refl, sym, ap, subst, ◌∙◌, arith}
use Rattle.std.specs.Int.{w16, w32, to_le_bytes}
use Rattle.std.proofs.lemmas.List.{length-append}
use Rattle.ups_pdu.proofs.Parts.{same_parts, same_le_2, same_le_4}
use Rattle.ups_dataset.specs.Tag.{tag_bytes}
use Rattle.ups_dimse.specs.Elements.{CommandElement, IsCommandElement, SpellsCommandElements, AreCommandElements, command_tag}

-- one element at the front, and one rest
pub one_element : (bytes : List ℕ) (e f : CommandElement) (r s : List ℕ) → IsCommandElement bytes e r → IsCommandElement bytes f s → (e ≡ f) × (r ≡ s)
one_element bytes e f r s p q =
    let tags = same_parts (tag_bytes (command_tag e.number)) (tag_bytes (command_tag f.number)) (to_le_bytes w32 (length e.value) ++ (e.value ++ r)) (to_le_bytes w32 (length f.value) ++ (f.value ++ s)) refl (sym p.parts ∙ q.parts) in
    let numbers = same_parts (to_le_bytes w16 0) (to_le_bytes w16 0) (to_le_bytes w16 e.number) (to_le_bytes w16 f.number) refl tags.0 in
    let number : e.number ≡ f.number = same_le_2 e.number f.number p.in_group q.in_group numbers.1 in
    let lens = same_parts (to_le_bytes w32 (length e.value)) (to_le_bytes w32 (length f.value)) (e.value ++ r) (f.value ++ s) refl tags.1 in
    let len : length e.value ≡ length f.value = same_le_4 (length e.value) (length f.value) (omega (arith, p.defined)) (omega (arith, q.defined)) lens.0 in
    let values = same_parts e.value f.value r s len lens.1 in
    (λ i. record { number = number i; value = values.0 i }, values.1)

pub element_shorter : (bytes : List ℕ) (e : CommandElement) (r : List ℕ) → IsCommandElement bytes e r → length r < length bytes
element_shorter bytes e r p = rw p.parts (omega (arith, length-append e.value r))

-- what holds of the elements from here on holds of them all
pub record GoesOn (bytes : List ℕ) (from : ℕ) (rest : List ℕ) : Type 0 where
  pub back : AreCommandElements from rest → AreCommandElements 0 bytes
  pub on : AreCommandElements 0 bytes → AreCommandElements from rest

pub front_of : (from : ℕ) (bytes : List ℕ) (e : CommandElement) (rest : List ℕ) → IsCommandElement bytes e rest → AreCommandElements from bytes → (from ≤ e.number) × AreCommandElements (e.number + 1) rest
front_of from bytes e rest p ([], s) = let none : length bytes ≡ 0 = ap length s in absurd (omega (arith, none, element_shorter bytes e rest p))
front_of from bytes e rest p (f ∷ fs, s) =
    let same = one_element bytes f e s.0 rest s.1 p in
    (subst (λ (x : CommandElement). from ≤ x.number) same.0 s.2, (fs, subst (λ (l : List ℕ). SpellsCommandElements (e.number + 1) l fs []) same.1 (subst (λ (x : CommandElement). SpellsCommandElements (x.number + 1) s.0 fs []) same.0 s.3)))

pub goes_next : (bytes : List ℕ) (from : ℕ) (rest : List ℕ) (e : CommandElement) (after : List ℕ) → GoesOn bytes from rest → IsCommandElement rest e after → from ≤ e.number → GoesOn bytes (e.number + 1) after
goes_next bytes from rest e after g p low = record {
  back = λ a. g.back (e ∷ a.0, (after, p, low, a.1));
  on = λ a. (front_of from rest e after p (g.on a)).1;
}

-- where no element stands at the front, there is none
pub no_front : (from : ℕ) (bytes : List ℕ) (es : List CommandElement) → ((e : CommandElement) → (rest : List ℕ) → IsCommandElement bytes e rest → ⊥) → SpellsCommandElements from bytes es [] → es ≡ []
no_front from bytes [] none s = refl
no_front from bytes (e ∷ es) none s = absurd (none e s.0 s.1)

pub not_here : (bytes : List ℕ) (from : ℕ) (rest : List ℕ) → GoesOn bytes from rest → 0 < length rest → ((e : CommandElement) → (after : List ℕ) → IsCommandElement rest e after → ⊥) → AreCommandElements 0 bytes → ⊥
not_here bytes from rest g some none a =
    let b = g.on a in
    let es : b.0 ≡ [] = no_front from rest b.0 none b.1 in
    let nil : rest ≡ [] = subst (λ (l : List CommandElement). SpellsCommandElements from rest l []) es b.1 in
    let zero : length rest ≡ 0 = ap length nil in
    omega (arith, some, zero)

pub too_low : (bytes : List ℕ) (from : ℕ) (rest : List ℕ) (e : CommandElement) (after : List ℕ) → GoesOn bytes from rest → IsCommandElement rest e after → e.number < from → AreCommandElements 0 bytes → ⊥
too_low bytes from rest e after g p low a = omega (arith, low, (front_of from rest e after p (g.on a)).0)

-- the bytes are one list of elements
pub one_list : (from : ℕ) (bytes : List ℕ) (es fs : List CommandElement) → SpellsCommandElements from bytes es [] → SpellsCommandElements from bytes fs [] → es ≡ fs
one_list from bytes [] [] s t = refl
one_list from bytes [] (f ∷ fs) s t = let none : length bytes ≡ 0 = ap length s in absurd (omega (arith, none, element_shorter bytes f t.0 t.1))
one_list from bytes (e ∷ es) [] s t = let none : length bytes ≡ 0 = ap length t in absurd (omega (arith, none, element_shorter bytes e s.0 s.1))
one_list from bytes (e ∷ es) (f ∷ fs) s t =
    let same = one_element bytes f e t.0 s.0 t.1 s.1 in
    let tail = subst (λ (l : List ℕ). SpellsCommandElements (e.number + 1) l fs []) same.1 (subst (λ (x : CommandElement). SpellsCommandElements (x.number + 1) t.0 fs []) same.0 t.3) in
    let inner = one_list (e.number + 1) s.0 es fs s.3 tail in
    λ i. sym same.0 i ∷ inner i

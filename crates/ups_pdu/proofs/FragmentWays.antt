-- There is one way to read presentation data values.
use Rattle.std.proofs.Common.{◌≡◌, ◌≢◌, ℕ, ◌<◌, List, [], ◌∷◌, ◌++◌, length, refl, sym, ap, subst, ◌∙◌, append_assoc, arith}
use Rattle.std.specs.Prelude.{bit_and, ◌==◌}
use Rattle.std.specs.Int.{w32, to_be_bytes}
use Rattle.std.proofs.lemmas.List.{append-nil}
use Rattle.ups_pdu.specs.Each.{Each}
use Rattle.ups_pdu.specs.declared.pdv.Pdv.{Pdv}
use Rattle.ups_pdu.specs.Fragment.{Fragment, IsChunk, IsFragment, FragmentsFill, IsPdv, SpellsPdv}
use Rattle.ups_pdu.specs.Spelling.{SpellsData}
use Rattle.ups_pdu.proofs.Parts.{same_parts, same_be_4}
use Rattle.ups_pdu.proofs.Sequence.{IsOneWay, ends}

one_chunk : (bytes c d x y : List ℕ) → IsChunk bytes c x → IsChunk bytes d y → (c ≡ d) × (x ≡ y)
one_chunk bytes c d x y p q =
    let fronts = same_parts (to_be_bytes w32 (length c)) (to_be_bytes w32 (length d)) (c ++ x) (d ++ y) refl (sym p.parts ∙ q.parts) in
    same_parts c d x y (same_be_4 (length c) (length d) p.fits q.fits fronts.0) fronts.1

one_fragment : (bytes : List ℕ) (a b : Fragment) (x y : List ℕ) → IsFragment bytes a x → IsFragment bytes b y → (a ≡ b) × (x ≡ y)
one_fragment bytes a b x y p q =
    let same = one_chunk bytes (a.context ∷ a.control ∷ a.message) (b.context ∷ b.control ∷ b.message) x y p.is q.is in
    let cells : a.context ∷ a.control ∷ a.message ≡ b.context ∷ b.control ∷ b.message = same.0 in
    let context : a.context ≡ b.context = cc in
    let control : a.control ≡ b.control = cc in
    let message : a.message ≡ b.message = cc in
    (λ i. record { context = context i; control = control i; message = message i }, same.1)

pub fragment_way : IsOneWay IsFragment
fragment_way = record { one = one_fragment; some = λ bytes x r p. omega (arith, ap length p.is.parts) }

one_value : {A : Type 0} (f : Fragment) (p q : Pdv A) → IsPdv f p → IsPdv f q → p ≡ q
one_value f p q s t =
    let context : p.context ≡ q.context = s.context ∙ sym t.context in
    let command : p.command ≡ q.command = s.command ∙ sym t.command in
    let last : p.last ≡ q.last = s.last ∙ sym t.last in
    let message : p.bytes ≡ q.bytes = s.message ∙ sym t.message in
    λ i. record { context = context i; command = command i; last = last i; bytes = message i }

one_pdv : {A : Type 0} (bytes : List ℕ) (p q : Pdv A) (x y : List ℕ) → SpellsPdv bytes p x → SpellsPdv bytes q y → (p ≡ q) × (x ≡ y)
one_pdv bytes p q x y s t =
    let same = one_fragment bytes s.fragment t.fragment x y s.is t.is in
    (one_value t.fragment p q (subst (λ (f : Fragment). IsPdv f p) same.0 s.value) t.value, same.1)

pub pdv_way : (A : Type 0) → IsOneWay (SpellsPdv {A = A})
pdv_way A = record { one = λ bytes p q x y s t. one_pdv bytes p q x y s t; some = λ bytes p r s. omega (arith, ap length s.is.is.parts) }

-- one more value was read
pub one_more : {A : Type 0} (body : List ℕ) (done : List (Pdv A)) (rest after : List ℕ) (f : Fragment) (p : Pdv A)
    → ((tail : List (Pdv A)) → Each SpellsPdv rest tail → Each SpellsPdv body (done ++ tail)) → IsFragment rest f after → IsPdv f p
    → (tail : List (Pdv A)) → Each SpellsPdv after tail → Each SpellsPdv body ((done ++ p ∷ []) ++ tail)
one_more {A} body done rest after f p found is value tail more =
    subst (λ (l : List (Pdv A)). Each SpellsPdv body l) (sym (append_assoc done (p ∷ []) tail)) (found (p ∷ tail) (after, record { fragment = f; is = is; value = value }, more))

-- all values were read
pub no_more : {A : Type 0} (body : List ℕ) (done : List (Pdv A)) (rest : List ℕ)
    → ((tail : List (Pdv A)) → Each SpellsPdv rest tail → Each SpellsPdv body (done ++ tail)) → ((f : Fragment) → (after : List ℕ) → IsFragment rest f after → ⊥) → FragmentsFill rest
    → Each SpellsPdv body done
no_more {A} body done rest found none (fs, each) =
    subst (λ (l : List (Pdv A)). Each SpellsPdv body l) (append-nil done) (found [] (ends IsFragment rest none fs each).1)

pdv_of : (A : Type 0) → Fragment → Pdv A
pdv_of A f = record { context = f.context; command = bit_and f.control 1 == 1; last = bit_and f.control 2 == 2; bytes = f.message }

-- fragments are the values of something
pub pdvs_from_fragments : (A : Type 0) (bytes : List ℕ) (fs : List Fragment) → Each IsFragment bytes fs → (ps : List (Pdv A)) × Each SpellsPdv bytes ps
unfolding pdv_of
pdvs_from_fragments A bytes [] e = ([], e)
pdvs_from_fragments A bytes (f ∷ fs) (r, first, more) =
    let others = pdvs_from_fragments A r fs more in
    (pdv_of A f ∷ others.0, (r, record { fragment = f; is = first; value = record { context = refl; command = refl; last = refl; message = refl } }, others.1))

pub not_none : {A : Type 0} (bytes : List ℕ) (ps : List (Pdv A)) → 0 < length bytes → Each SpellsPdv bytes ps → ps ≢ []
not_none bytes [] some e = λ _. omega (arith, ap length e)
not_none bytes (p ∷ ps) some e = λ n. cc

pub none_of_nil : {A : Type 0} (bytes : List ℕ) → bytes ≡ [] → (ps : List (Pdv A)) → SpellsData bytes ps → ⊥
none_of_nil bytes e [] s = s.some refl
none_of_nil bytes e (p ∷ ps) s = let first = s.each.1 in omega (arith, ap length e, ap length first.is.is.parts)

pub fills_from_pdvs : {A : Type 0} (bytes : List ℕ) (ps : List (Pdv A)) → Each SpellsPdv bytes ps → FragmentsFill bytes
fills_from_pdvs bytes [] e = ([], e)
fills_from_pdvs bytes (p ∷ ps) (r, first, more) = let f = fills_from_pdvs r ps more in (first.fragment ∷ f.0, (r, first.is, f.1))

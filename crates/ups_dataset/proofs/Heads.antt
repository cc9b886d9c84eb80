-- The one way to read a header.
use Rattle.std.proofs.Common.{true, false, ◌≡◌, ℕ, Bool, ◌≤◌, inl, inr, List, [], ◌∷◌, ◌++◌, length, refl, sym, ap, ◌∙◌, arith}
use Rattle.std.specs.Int.{w16, w32, to_le_bytes}
use Rattle.ups_dataset.specs.declared.tag.Tag.{Tag}
use Rattle.ups_dataset.specs.declared.vr.Vr.{Vr}
use Rattle.ups_dataset.specs.declared.vr.Vr.TheVariants.{Un}
use Rattle.ups_pdu.specs.declared.syntax.TransferSyntax.{TransferSyntax}
use Rattle.ups_pdu.specs.declared.syntax.TransferSyntax.TheVariants.{Implicit, Explicit}
use Rattle.ups_dataset.specs.declared.head.Head.{Head}
use Rattle.ups_dataset.specs.declared.head.Head.TheVariants.{Known, Strange, Mark}
use Rattle.ups_dataset.specs.Tag.{IsTag, tag_bytes, is_mark}
use Rattle.ups_dataset.specs.Vr.{letters, is_long}
use Rattle.ups_dataset.specs.Head.{IsMark, IsShortHead, IsLongHead, IsStrange, IsHead, implicit_vr}
use Rattle.ups_pdu.proofs.Parts.{same_parts}
use Rattle.ups_dataset.proofs.Parts.{same_tag, same_long, same_short}
use Rattle.ups_dataset.proofs.Letters.{letters_two, one_vr}
use Rattle.std.proofs.lemmas.List.{length-append}

pub one_mark : (text : List ℕ) (j k : Tag) (m n : ℕ) (x y : List ℕ) → IsMark text j m x → IsMark text k n y → (j ≡ k) × (m ≡ n) × (x ≡ y)
one_mark text j k m n x y p q =
    let tags = same_tag j k (to_le_bytes w32 m ++ x) (to_le_bytes w32 n ++ y) text p.low q.low p.parts q.parts in
    let lens = same_long m n x y (to_le_bytes w32 m ++ x) p.fits q.fits refl tags.1 in
    (tags.0, lens.0, lens.1)

-- the tag of a header
abbrev pub head_tag : Head → Tag
head_tag (Known tag vr len) = tag
head_tag (Strange tag) = tag
head_tag (Mark tag len) = tag

-- a tag stands in front, and four bytes more
pub record Begins (text : List ℕ) (tag : Tag) (marked : Bool) : Type 0 where
  pub low : IsTag tag
  pub is : is_mark tag ≡ marked
  pub after : List ℕ
  pub parts : text ≡ tag_bytes tag ++ after
  pub long : 8 ≤ length text

abbrev pub marked : Head → Bool
marked (Known tag vr len) = false
marked (Strange tag) = false
marked (Mark tag len) = true

pub begins : (syntax : TransferSyntax) (text : List ℕ) (head : Head) (rest : List ℕ) → IsHead syntax text head rest → Begins text (head_tag head) (marked head)
begins syntax text (Mark tag len) rest (m, p) = record { low = p.low; is = m; after = to_le_bytes w32 len ++ rest; parts = p.parts; long = rw p.parts (omega arith) }
begins Implicit text (Known tag vr len) rest (m, v, p) = record { low = p.low; is = m; after = to_le_bytes w32 len ++ rest; parts = p.parts; long = rw p.parts (omega arith) }
begins Explicit text (Known tag vr len) rest (m, inl p) = record { low = p.low; is = m; after = letters vr ++ (to_le_bytes w16 len ++ rest); parts = p.parts; long = rw p.parts (omega (arith, letters_two vr, length-append (letters vr) (to_le_bytes w16 len ++ rest))) }
begins Explicit text (Known tag vr len) rest (m, inr p) = record { low = p.low; is = m; after = letters vr ++ (to_le_bytes w16 p.reserved ++ (to_le_bytes w32 len ++ rest)); parts = p.parts; long = rw p.parts (omega (arith, letters_two vr, length-append (letters vr) (to_le_bytes w16 p.reserved ++ (to_le_bytes w32 len ++ rest)))) }
begins Implicit text (Strange tag) rest h = absurd h
begins Explicit text (Strange tag) rest (m, p) = record { low = p.low; is = m; after = p.first ∷ p.second ∷ (to_le_bytes w16 p.more ++ rest); parts = p.parts; long = rw p.parts (omega arith) }

pub one_begin : (text : List ℕ) (j k : Tag) (a b : Bool) → Begins text j a → Begins text k b → (j ≡ k) × (a ≡ b)
one_begin text j k a b p q =
    let same = same_tag j k p.after q.after text p.low q.low p.parts q.parts in
    (same.0, sym p.is ∙ ap is_mark same.0 ∙ q.is)

pub mark_begins : (text : List ℕ) (tag : Tag) (len : ℕ) (rest : List ℕ) (m : Bool) → is_mark tag ≡ m → IsMark text tag len rest → Begins text tag m
mark_begins text tag len rest m is p = record { low = p.low; is = is; after = to_le_bytes w32 len ++ rest; parts = p.parts; long = rw p.parts (omega arith) }

pub explicit_none : (text : List ℕ) (tag : Tag) (len : ℕ) (rest : List ℕ) → IsMark text tag len rest → is_mark tag ≡ false
    → ((tag : Tag) → (vr : Vr) → (len : ℕ) → (rest : List ℕ) → (IsShortHead text tag vr len rest → ⊥) × (IsLongHead text tag vr len rest → ⊥) × (IsStrange text tag rest → ⊥))
    → (head : Head) (r : List ℕ) → IsHead Explicit text head r → ⊥
explicit_none text tag len rest mark isnt none (Known t v l) r (m, inl p) = (none t v l r).0 p
explicit_none text tag len rest mark isnt none (Known t v l) r (m, inr p) = (none t v l r).1 p
explicit_none text tag len rest mark isnt none (Strange t) r (m, p) = (none t Un 0 r).2 p
explicit_none text tag len rest mark isnt none (Mark t l) r (m, p) = let e = one_begin text t tag true false (begins Explicit text (Mark t l) r (m, p)) (mark_begins text tag len rest false isnt mark) in let e1 : true ≡ false = e.1 in absurd cc

pub not_both : (text : List ℕ) (j k : Tag) → Begins text j true → Begins text k false → ⊥
not_both text j k p q = let e = one_begin text j k true false p q in let e1 : true ≡ false = e.1 in absurd cc

short_long : (text : List ℕ) (j k : Tag) (v w : Vr) (m n : ℕ) (x y : List ℕ) → IsShortHead text j v m x → IsLongHead text k w n y → ⊥
short_long text j k v w m n x y p q =
    let tags = same_tag j k (letters v ++ (to_le_bytes w16 m ++ x)) (letters w ++ (to_le_bytes w16 q.reserved ++ (to_le_bytes w32 n ++ y))) text p.low q.low p.parts q.parts in
    let vrs = same_parts (letters v) (letters w) (to_le_bytes w16 m ++ x) (to_le_bytes w16 q.reserved ++ (to_le_bytes w32 n ++ y)) (letters_two v ∙ sym (letters_two w)) tags.1 in
    let e : false ≡ true = sym p.short ∙ ap is_long (one_vr v w vrs.0) ∙ q.long in
    absurd cc

no_letters : (text : List ℕ) (j k : Tag) (v : Vr) (x y : List ℕ) → IsTag j → text ≡ tag_bytes j ++ (letters v ++ x) → IsStrange text k y → ⊥
no_letters text j k v x y low parts q =
    let tags = same_tag j k (letters v ++ x) (q.first ∷ q.second ∷ (to_le_bytes w16 q.more ++ y)) text low q.low parts q.parts in
    q.unknown v (same_parts (letters v) (q.first ∷ q.second ∷ []) x (to_le_bytes w16 q.more ++ y) (letters_two v) tags.1).0

-- one header at the front, and one rest
pub one_head : (syntax : TransferSyntax) (text : List ℕ) (h k : Head) (x y : List ℕ) → IsHead syntax text h x → IsHead syntax text k y → (h ≡ k) × (x ≡ y)
one_head syntax text (Mark j m) (Mark k n) x y (a, p) (b, q) =
    let e = one_mark text j k m n x y p q in
    (λ i. Mark (e.0 i) (e.1 i), e.2)
one_head Implicit text (Known j v m) (Known k w n) x y (a, ev, p) (b, ew, q) =
    let e = one_mark text j k m n x y p q in
    let vs : v ≡ w = ev ∙ (λ i. implicit_vr (e.0 i) (e.1 i)) ∙ sym ew in
    (λ i. Known (e.0 i) (vs i) (e.1 i), e.2)
one_head Explicit text (Known j v m) (Known k w n) x y (a, inl p) (b, inl q) =
    let tags = same_tag j k (letters v ++ (to_le_bytes w16 m ++ x)) (letters w ++ (to_le_bytes w16 n ++ y)) text p.low q.low p.parts q.parts in
    let vrs = same_parts (letters v) (letters w) (to_le_bytes w16 m ++ x) (to_le_bytes w16 n ++ y) (letters_two v ∙ sym (letters_two w)) tags.1 in
    let lens = same_short m n x y (to_le_bytes w16 m ++ x) p.fits q.fits refl vrs.1 in
    let vs : v ≡ w = one_vr v w vrs.0 in
    (λ i. Known (tags.0 i) (vs i) (lens.0 i), lens.1)
one_head Explicit text (Known j v m) (Known k w n) x y (a, inr p) (b, inr q) =
    let tags = same_tag j k (letters v ++ (to_le_bytes w16 p.reserved ++ (to_le_bytes w32 m ++ x))) (letters w ++ (to_le_bytes w16 q.reserved ++ (to_le_bytes w32 n ++ y))) text p.low q.low p.parts q.parts in
    let vrs = same_parts (letters v) (letters w) (to_le_bytes w16 p.reserved ++ (to_le_bytes w32 m ++ x)) (to_le_bytes w16 q.reserved ++ (to_le_bytes w32 n ++ y)) (letters_two v ∙ sym (letters_two w)) tags.1 in
    let free = same_parts (to_le_bytes w16 p.reserved) (to_le_bytes w16 q.reserved) (to_le_bytes w32 m ++ x) (to_le_bytes w32 n ++ y) refl vrs.1 in
    let lens = same_long m n x y (to_le_bytes w32 m ++ x) p.fits q.fits refl free.1 in
    let vs : v ≡ w = one_vr v w vrs.0 in
    (λ i. Known (tags.0 i) (vs i) (lens.0 i), lens.1)
one_head Explicit text (Known j v m) (Known k w n) x y (a, inl p) (b, inr q) = absurd (short_long text j k v w m n x y p q)
one_head Explicit text (Known j v m) (Known k w n) x y (a, inr p) (b, inl q) = absurd (short_long text k j w v n m y x q p)
one_head Explicit text (Known j v m) (Strange k) x y (a, inl p) (b, q) = absurd (no_letters text j k v (to_le_bytes w16 m ++ x) y p.low p.parts q)
one_head Explicit text (Known j v m) (Strange k) x y (a, inr p) (b, q) = absurd (no_letters text j k v (to_le_bytes w16 p.reserved ++ (to_le_bytes w32 m ++ x)) y p.low p.parts q)
one_head Explicit text (Strange k) (Known j v m) y x (b, q) (a, inl p) = absurd (no_letters text j k v (to_le_bytes w16 m ++ x) y p.low p.parts q)
one_head Explicit text (Strange k) (Known j v m) y x (b, q) (a, inr p) = absurd (no_letters text j k v (to_le_bytes w16 p.reserved ++ (to_le_bytes w32 m ++ x)) y p.low p.parts q)
one_head Explicit text (Strange j) (Strange k) x y (a, p) (b, q) =
    let tags = same_tag j k (p.first ∷ p.second ∷ (to_le_bytes w16 p.more ++ x)) (q.first ∷ q.second ∷ (to_le_bytes w16 q.more ++ y)) text p.low q.low p.parts q.parts in
    let free = same_parts (p.first ∷ p.second ∷ to_le_bytes w16 p.more) (q.first ∷ q.second ∷ to_le_bytes w16 q.more) x y refl tags.1 in
    (λ i. Strange (tags.0 i), free.1)
one_head Implicit text (Strange j) k x y h g = absurd h
one_head Implicit text (Known j v m) (Strange k) x y h g = absurd g
one_head Implicit text (Mark j m) (Strange k) x y h g = absurd g
one_head syntax text (Mark j m) (Known k w n) x y h g = absurd (not_both text j k (begins syntax text (Mark j m) x h) (begins syntax text (Known k w n) y g))
one_head syntax text (Known k w n) (Mark j m) x y h g = absurd (not_both text j k (begins syntax text (Mark j m) y g) (begins syntax text (Known k w n) x h))
one_head Explicit text (Mark j m) (Strange k) x y h g = absurd (not_both text j k (begins Explicit text (Mark j m) x h) (begins Explicit text (Strange k) y g))
one_head Explicit text (Strange k) (Mark j m) x y h g = absurd (not_both text j k (begins Explicit text (Mark j m) y g) (begins Explicit text (Strange k) x h))

pub long_parts : (text a1 a2 r ls : List ℕ) (tag : Tag) (first second more len : ℕ) → text ≡ tag_bytes tag ++ a1 → a1 ≡ first ∷ second ∷ (to_le_bytes w16 more ++ a2) → ls ≡ first ∷ second ∷ [] → a2 ≡ to_le_bytes w32 len ++ r
    → text ≡ tag_bytes tag ++ (ls ++ (to_le_bytes w16 more ++ (to_le_bytes w32 len ++ r)))
long_parts text a1 a2 r ls tag first second more len p q e s = p ∙ ap (λ l. tag_bytes tag ++ l) (q ∙ (λ i. (sym e i) ++ (to_le_bytes w16 more ++ s i)))

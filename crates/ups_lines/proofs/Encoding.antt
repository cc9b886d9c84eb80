-- Words stand for one data set.
use Rattle.std.proofs.Common.{◌≡◌, ℕ, ◌+◌, ◌*◌, ◌<◌, inl, inr, List, [], ◌∷◌, ◌++◌, length, refl, sym, ap, subst, ◌∙◌, arith, append_assoc, append-nil, Result, Ok, Err}
use Rattle.std.specs.Prelude.{OnOk}
use Rattle.std.specs.Char.{digit_value}
use Rattle.ups_pdu.specs.declared.syntax.TransferSyntax.TheVariants.{Explicit}
use Rattle.ups_pdu.proofs.Sequence.{IsOneWay, each_one}
use Rattle.ups_dataset.specs.declared.tag.Tag.{Tag}
use Rattle.ups_dataset.specs.Written.{written_element}
use Rattle.ups_lines.specs.Escapes.{StandsFor, IsText}
use Rattle.ups_lines.specs.declared.fault.LineFault.{LineFault}
use Rattle.ups_lines.specs.Forms.{element_for}
use Rattle.ups_lines.specs.Words.{SpellsNumber, SpellsTag}
use Rattle.ups_lines.specs.Elements.{IsPair, SpellsBytes, IsAttribute, IsHex, EncodesWord, Encodes}
use Rattle.ups_lines.proofs.Decoding.{one_meaning}

one_pair : (text : List ℕ) (x y : ℕ) (r s : List ℕ) → IsPair text x r → IsPair text y s → (x ≡ y) × (r ≡ s)
one_pair text x y r s e f =
    let p : text ≡ e.high ∷ e.low ∷ r = e.parts in
    let q : text ≡ f.high ∷ f.low ∷ s = f.parts in
    let high : e.high ≡ f.high = cc in
    let low : e.low ≡ f.low = cc in
    let there : x ≡ 16 * digit_value f.high + digit_value f.low = e.spells.value ∙ ap (λ n. 16 * digit_value n + digit_value e.low) high ∙ ap (λ n. 16 * digit_value f.high + digit_value n) low in
    (there ∙ sym f.spells.value, cc)

some_pair : (text : List ℕ) (x : ℕ) (r : List ℕ) → IsPair text x r → 0 < length text
some_pair text x r e = omega (arith, ap length e.parts)

pairs : IsOneWay IsPair
pairs = record { one = one_pair; some = some_pair }

-- what has been read of digits, and what is left of them
pub record HasRead (digits rest front out : List ℕ) : Type 0 where
  pub read : List ℕ
  pub grown : out ≡ front ++ read
  pub whole : (left : List ℕ) → SpellsBytes rest left → SpellsBytes digits (read ++ left)

pub none_read : (digits front : List ℕ) → HasRead digits digits front front
none_read digits front = record { read = []; grown = sym (append-nil front); whole = λ left is. is }

pub pair_read : (digits rest behind front out : List ℕ) (byte : ℕ) → IsPair rest byte behind → HasRead digits rest front out → HasRead digits behind front (out ++ byte ∷ [])
pair_read digits rest behind front out byte first so = record {
  read = so.read ++ byte ∷ [];
  grown = ap (λ (l : List ℕ). l ++ byte ∷ []) so.grown ∙ append_assoc front so.read (byte ∷ []);
  whole = λ left is. subst (SpellsBytes digits) (sym (append_assoc so.read (byte ∷ []) left)) (so.whole (byte ∷ left) (behind, first, is));
}

nothing : (xs : List ℕ) → length xs ≡ 0 → xs ≡ []
nothing [] none = refl
nothing (x ∷ xs) none = absurd (omega (arith, none))

pub all_read : (digits rest front out : List ℕ) → length rest ≡ 0 → HasRead digits rest front out → (bytes : List ℕ) × SpellsBytes digits bytes × (out ≡ front ++ bytes)
all_read digits rest front out none so = (so.read, subst (SpellsBytes digits) (append-nil so.read) (so.whole [] (nothing rest none)), so.grown)

spelled : ℕ → ℕ → ℕ → ℕ → ℕ
spelled a b c d = 256 * (16 * digit_value a + digit_value b) + (16 * digit_value c + digit_value d)

number_is : (a b c d n : ℕ) → SpellsNumber a b c d n → n ≡ spelled a b c d
unfolding spelled
number_is a b c d n s = s.value ∙ ap (λ h. 256 * h + s.low) s.first.value ∙ ap (λ l. 256 * (16 * digit_value a + digit_value b) + l) s.second.value

same_tag : (t u : Tag) → t.group ≡ u.group → t.element ≡ u.element → t ≡ u
same_tag t u g e =
    let make : ℕ → ℕ → Tag = λ group element. record { group = group; element = element } in
    ap (λ n. make n t.element) g ∙ ap (λ n. make u.group n) e

one_tag : (d : List ℕ) (t u : Tag) → SpellsTag d t → SpellsTag d u → t ≡ u
one_tag d t u s v =
    let p : d ≡ s.a ∷ s.b ∷ s.c ∷ s.d ∷ s.e ∷ s.f ∷ s.g ∷ s.h ∷ [] = s.digits in
    let q : d ≡ v.a ∷ v.b ∷ v.c ∷ v.d ∷ v.e ∷ v.f ∷ v.g ∷ v.h ∷ [] = v.digits in
    let group : t.group ≡ spelled s.a s.b s.c s.d = number_is s.a s.b s.c s.d t.group s.group in
    let group_too : u.group ≡ spelled v.a v.b v.c v.d = number_is v.a v.b v.c v.d u.group v.group in
    let element : t.element ≡ spelled s.e s.f s.g s.h = number_is s.e s.f s.g s.h t.element s.element in
    let element_too : u.element ≡ spelled v.e v.f v.g v.h = number_is v.e v.f v.g v.h u.element v.element in
    let one : t.group ≡ u.group = cc in
    let two : t.element ≡ u.element = cc in
    same_tag t u one two

one_attribute : (word x y : List ℕ) → IsAttribute word x → IsAttribute word y → x ≡ y
one_attribute word x y i j =
    let s = i.tagged in
    let v = j.tagged in
    let u : i.digits ≡ s.a ∷ s.b ∷ s.c ∷ s.d ∷ s.e ∷ s.f ∷ s.g ∷ s.h ∷ [] = s.digits in
    let w : j.digits ≡ v.a ∷ v.b ∷ v.c ∷ v.d ∷ v.e ∷ v.f ∷ v.g ∷ v.h ∷ [] = v.digits in
    let p : word ≡ s.a ∷ s.b ∷ s.c ∷ s.d ∷ s.e ∷ s.f ∷ s.g ∷ s.h ∷ 61 ∷ i.text = i.parts ∙ ap (λ (l : List ℕ). l ++ (61 ∷ i.text)) u in
    let q : word ≡ v.a ∷ v.b ∷ v.c ∷ v.d ∷ v.e ∷ v.f ∷ v.g ∷ v.h ∷ 61 ∷ j.text = j.parts ∙ ap (λ (l : List ℕ). l ++ (61 ∷ j.text)) w in
    let digits : i.digits ≡ j.digits = cc in
    let text : i.text ≡ j.text = cc in
    let tag : i.tag ≡ j.tag = one_tag j.digits i.tag j.tag (subst (λ (l : List ℕ). SpellsTag l i.tag) digits i.tagged) j.tagged in
    let bytes : i.bytes ≡ j.bytes = one_meaning j.text i.bytes j.bytes (subst (λ (l : List ℕ). StandsFor l i.bytes) text i.stands) j.stands in
    i.made ∙ ap (λ (t : Tag). written_element Explicit (element_for t i.bytes)) tag ∙ ap (λ (b : List ℕ). written_element Explicit (element_for j.tag b)) bytes ∙ sym j.made

-- a colon is no hex digit
no_digit : (c : ℕ) → digit_value c < 16 → c ≡ 58 → ⊥
no_digit c low is = let e : digit_value c ≡ 36 = ap digit_value is in omega (arith, e, low)

one_form : (word x y : List ℕ) → IsHex word x → IsAttribute word y → ⊥
one_form word x y i j =
    let v = j.tagged in
    let w : j.digits ≡ v.a ∷ v.b ∷ v.c ∷ v.d ∷ v.e ∷ v.f ∷ v.g ∷ v.h ∷ [] = v.digits in
    let p : word ≡ 58 ∷ i.digits = i.parts in
    let q : word ≡ v.a ∷ v.b ∷ v.c ∷ v.d ∷ v.e ∷ v.f ∷ v.g ∷ v.h ∷ 61 ∷ j.text = j.parts ∙ ap (λ (l : List ℕ). l ++ (61 ∷ j.text)) w in
    let is : v.a ≡ 58 = cc in
    no_digit v.a v.group.first.high_digit is

one_word : (word x y : List ℕ) → EncodesWord word x → EncodesWord word y → x ≡ y
one_word word x y (inl i) (inl j) =
    let p : word ≡ 58 ∷ i.digits = i.parts in
    let q : word ≡ 58 ∷ j.digits = j.parts in
    let digits : i.digits ≡ j.digits = cc in
    each_one IsPair pairs j.digits x y (subst (λ (l : List ℕ). SpellsBytes l x) digits i.spells) j.spells
one_word word x y (inl i) (inr j) = absurd (one_form word x y i j)
one_word word x y (inr i) (inl j) = absurd (one_form word y x j i)
one_word word x y (inr i) (inr j) = one_attribute word x y i j

pub one_data_set : (words : List (List ℕ)) (a b : List ℕ) → Encodes words a → Encodes words b → a ≡ b
one_data_set [] a b e f = e ∙ sym f
one_data_set (w ∷ ws) a b (x, more, first, rest, is) (y, others, second, behind, are) =
    let here : x ≡ y = one_word w x y first second in
    let there : more ≡ others = one_data_set ws more others rest behind in
    let p : a ≡ x ++ more = is in
    let q : b ≡ y ++ others = are in
    cc

-- what has been encoded of words, and what is left of them
pub record HasEncoded (words rest : List (List ℕ)) (out : List ℕ) : Type 0 where
  pub whole : (left : List ℕ) → Encodes rest left → Encodes words (out ++ left)

none_encoded : (words : List (List ℕ)) → HasEncoded words words []
none_encoded words = record { whole = λ left is. is }

pub begins : (words : List (List ℕ)) (out : List ℕ) → out ≡ [] → HasEncoded words words out
begins words out is = subst (HasEncoded words words) (sym is) (none_encoded words)

-- the words up to one of them, with what this one encodes behind
then_word : (words rest behind : List (List ℕ)) (word out one : List ℕ) → rest ≡ word ∷ behind → EncodesWord word one → HasEncoded words rest out → HasEncoded words behind (out ++ one)
then_word words rest behind word out one is encodes so = record {
  whole = λ left more. subst (Encodes words) (sym (append_assoc out one left)) (so.whole (one ++ left) (subst (λ (l : List (List ℕ)). Encodes l (one ++ left)) (sym is) (one, left, encodes, more, refl)));
}

pub word_encoded : (words rest behind : List (List ℕ)) (word out after : List ℕ) → rest ≡ word ∷ behind → ((one : List ℕ) × EncodesWord word one × (after ≡ out ++ one)) → HasEncoded words rest out → HasEncoded words behind after
word_encoded words rest behind word out after is (one, encodes, grown) so = subst (HasEncoded words behind) (sym grown) (then_word words rest behind word out one is encodes so)

pub all_encoded : (words rest : List (List ℕ)) (out : List ℕ) → rest ≡ [] → HasEncoded words rest out → Encodes words out
all_encoded words rest out none so = subst (Encodes words) (append-nil out) (so.whole [] (subst (λ (l : List (List ℕ)). Encodes l []) (sym none) refl))

-- what was put under a tag is an attribute
pub argument_put : (digits text written : List ℕ) (tag : Tag) (r : Result (Unit {0}) LineFault) (before after : List ℕ) → SpellsTag digits tag → (written ≡ text) × IsText text
    → ((bytes : List ℕ) → StandsFor written bytes → OnOk r (after ≡ before ++ written_element Explicit (element_for tag bytes))) → OnOk r ((x : List ℕ) × IsAttribute (digits ++ (61 ∷ text)) x × (after ≡ before ++ x))
argument_put digits text written tag (Ok done) before after tagged (same, (bytes, stands)) put =
    let grown : after ≡ before ++ written_element Explicit (element_for tag bytes) = put bytes (subst (λ (l : List ℕ). StandsFor l bytes) (sym same) stands) in
    (written_element Explicit (element_for tag bytes), record { digits = digits; text = text; tag = tag; bytes = bytes; parts = refl; tagged = tagged; stands = stands; made = refl }, grown)
argument_put digits text written tag (Err fault) before after tagged is put = tt

-- the attribute that a word is
pub attribute_put : (word digits behind text before after : List ℕ) (r : Result (Unit {0}) LineFault) → word ≡ digits ++ behind → behind ≡ 61 ∷ text
    → OnOk r ((x : List ℕ) × IsAttribute (digits ++ (61 ∷ text)) x × (after ≡ before ++ x)) → OnOk r ((x : List ℕ) × IsAttribute word x × (after ≡ before ++ x))
attribute_put word digits behind text before after r parts is h =
    subst (λ (w : List ℕ). OnOk r ((x : List ℕ) × IsAttribute w x × (after ≡ before ++ x))) (sym (parts ∙ ap (λ (l : List ℕ). digits ++ l) is)) h

-- a word that is an attribute
pub as_word : (word before after : List ℕ) (r : Result (Unit {0}) LineFault) → OnOk r ((x : List ℕ) × IsAttribute word x × (after ≡ before ++ x)) → OnOk r ((x : List ℕ) × EncodesWord word x × (after ≡ before ++ x))
as_word word before after (Ok done) (x, is, grown) = (x, inr is, grown)
as_word word before after (Err fault) h = tt

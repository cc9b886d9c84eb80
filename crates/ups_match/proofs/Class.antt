-- A row that matches all keys matches the first indexed one.
use Rattle.std.proofs.Common.{◌≡◌, ℕ, ℤ, Bool, true, false, ◌||◌, ◌&&◌, not, cond, List, [], ◌∷◌, filter, refl, sym, ap, ◌∙◌, arith, true≢false}
use Rattle.std.specs.Prelude.{Option, None, Some}
use Rattle.std.specs.List.{list_any, list_all, onto_first, slice_split}
use Rattle.std.specs.Ordering.{int_eq}
use Rattle.std.specs.Str.{bytes_eq}
use Rattle.std.specs.Cmp.Lexicographic.{same_text}
use Rattle.std.proofs.lemmas.Bool.{not-true}
use Rattle.ups_pdu.specs.Padding.{is_nil, is_padding, without_padding}
use Rattle.ups_dataset.specs.declared.tag.Tag.{Tag}
use Rattle.ups_dataset.specs.declared.dictionary.TheConstants.{CODE_VALUE, SCHEDULED_PROCEDURE_STEP_START_DATE_TIME}
use Rattle.ups_dataset.specs.Dictionary.{vr_of}
use Rattle.ups_dataset.specs.Head.{is_sequence}
use Rattle.ups_dataset.specs.Tag.{is_tag}
use Rattle.ups_dataset.specs.Data.{Data, bytes, items, Items, no_items, item, Elements, no_elements, element, El, elements_of}
use Rattle.ups_match.specs.declared.indexed.Indexed.{Indexed}
use Rattle.ups_match.specs.declared.indexed.KeyKind.{KeyKind}
use Rattle.ups_match.specs.declared.indexed.KeyKind.TheVariants.{Value, Code}
use Rattle.ups_match.specs.declared.ranges.Span.{Span}
use Rattle.ups_match.specs.declared.rule.Rule.{Rule}
use Rattle.ups_match.specs.declared.rule.Rule.TheVariants.{UidList, WildCards, WildCardsInText, Range, OneOfValues, WholeValue}
use Rattle.ups_match.specs.Class.{is_special, plain, plain_value, plain_code, text_asked, FirstKey, value, all, or_else, range_key, start_key, first_of, first_among, first_key, moment_stored, start_of, meets_first, class}
use Rattle.ups_match.specs.IndexedKeys.{indexed_keys, is_code_key}
use Rattle.ups_match.specs.Matching.{KeySet, key_rule, matches, value_at, any_item, any_stored_item, matches_stored_text, all_match, value_matches, is_universal, is_universal_key, all_universal, has_no_items, is_match}
use Rattle.ups_match.specs.Met.{stored_text_met}
use Rattle.ups_match.specs.Ranges.{span_of, spans}
use Rattle.ups_match.specs.Likeness.{is_like}
use Rattle.ups_match.specs.Values.{any_value, is_backslash, is_no_key, is_universal_text, shares_uid}

neither_of : (a b : Bool) → (a || b) ≡ false → (a ≡ false) × (b ≡ false)
neither_of true b h = absurd cc
neither_of false b h = (refl, h)

pub both : (a b : Bool) → (a && b) ≡ true → (a ≡ true) × (b ≡ true)
both true b h = (refl, h)
both false b h = absurd cc

pub one : (a b : Bool) → (a || b) ≡ true → a ≡ false → b ≡ true
one true b h n = absurd cc
one false b h n = h

pub same_tag : (s t : Tag) → is_tag s t ≡ true → s ≡ t
same_tag s t e =
    let groups : s.group ≡ t.group = grind (arith, e) in
    let elements : s.element ≡ t.element = grind (arith, e) in
    (λ i. record { group = groups i; element = elements i })

-- the key of a tag matches, where it isn't universal
pub key_matches : (offset : ℤ) (keys row : Elements) (tag : Tag) (d : Data) → is_no_key tag ≡ false → all_match offset keys row ≡ true → value_at tag keys ≡ Some d → is_universal d ≡ false
    → value_matches offset tag d (value_at tag row) ≡ true
key_matches offset no_elements row tag d own m at u = absurd cc
key_matches offset (element t vr v more) row tag d own m at u =
    let now = both (is_universal_key t v || value_matches offset t v (value_at t row)) (all_match offset more row) m in
    here now.0 (is_tag t tag) refl at (λ is. key_matches offset more row tag d own now.1 is u)
  where
    here : (is_universal_key t v || value_matches offset t v (value_at t row)) ≡ true → (b : Bool) → is_tag t tag ≡ b → cond b (Some v) (value_at tag more) ≡ Some d → (value_at tag more ≡ Some d → value_matches offset tag d (value_at tag row) ≡ true)
        → value_matches offset tag d (value_at tag row) ≡ true
    here now true e is later =
        let same : t ≡ tag = same_tag t tag e in
        let its : v ≡ d = cc in
        let other : is_universal_key t v ≡ false = (λ i. is_no_key (same i) || is_universal (its i)) ∙ ap (λ (b : Bool). b || is_universal d) own ∙ u in
        sym (λ i. value_matches offset (same i) (its i) (value_at (same i) row)) ∙ one (is_universal_key t v) (value_matches offset t v (value_at t row)) now other
    here now false e is later = later is

-- what is plain isn't universal
star_is_special : (t : List ℕ) → bytes_eq t (42 ∷ []) ≡ true → plain t ≡ None
star_is_special [] e = refl
star_is_special (x ∷ xs) e = let same = same_text (x ∷ xs) (42 ∷ []) (sym e) in ap plain same

never_none : (text : List ℕ) → None ≡ Some text → ⊥
never_none text e = cc

pub text_of_plain : (t text : List ℕ) → plain t ≡ Some text → t ≡ text
text_of_plain t text p = here (is_nil t || list_any is_special t) p
  where
    here : (b : Bool) → cond b None (Some t) ≡ Some text → t ≡ text
    here true e = absurd (never_none text e)
    here false e = cc

pub is_plain : (b text : List ℕ) → plain (without_padding b) ≡ Some text → is_universal_text b ≡ false
is_plain b text p = here (is_nil (without_padding b)) (bytes_eq (without_padding b) (42 ∷ [])) refl refl p
  where
    here : (n s : Bool) → is_nil (without_padding b) ≡ n → bytes_eq (without_padding b) (42 ∷ []) ≡ s → plain (without_padding b) ≡ Some text → (n || s) ≡ false
    here true s en es p = absurd (never_none text (sym (ap (λ (q : Bool). cond (q || list_any is_special (without_padding b)) None (Some (without_padding b))) en) ∙ p))
    here false true en es p = absurd (never_none text (sym (star_is_special (without_padding b) es) ∙ p))
    here false false en es p = refl

-- a key comes first, or the later one
step : (offset : ℤ) (row : Elements) (tag : Tag) (o : Option (List ℕ)) (later : FirstKey) → ((text : List ℕ) → o ≡ Some text → meets_first offset (value tag text) row ≡ true) → meets_first offset later row ≡ true
    → meets_first offset (or_else tag o later) row ≡ true
step offset row tag None later this rest = rest
step offset row tag (Some text) later this rest = this text refl

-- a plain text is one value, also with padding behind it
padding_is_itself : (x : ℕ) → is_padding x ≡ true → is_backslash x ≡ false
padding_is_itself x e = grind (arith, e)

special_backslash : (x : ℕ) → is_special x ≡ false → is_backslash x ≡ false
special_backslash x e = grind (arith, e)

no_backslash : (b : List ℕ) → list_any is_special (without_padding b) ≡ false → list_any is_backslash b ≡ false
no_backslash [] none = refl
no_backslash (x ∷ xs) none = here (is_padding x) (without_padding xs) refl refl none (no_backslash xs)
  where
    here : (q : Bool) (w : List ℕ) → is_padding x ≡ q → without_padding xs ≡ w → list_any is_special (cond (q && is_nil w) [] (x ∷ w)) ≡ false → (list_any is_special w ≡ false → list_any is_backslash xs ≡ false)
        → (is_backslash x || list_any is_backslash xs) ≡ false
    here true [] p e none rest = ap (λ (a : Bool). a || list_any is_backslash xs) (padding_is_itself x p) ∙ rest refl
    here true (w ∷ ws) p e none rest = ap (λ (a : Bool). a || list_any is_backslash xs) (padding_is_itself x p) ∙ rest (neither_of (is_special x) (list_any is_special (w ∷ ws)) none).1
    here false w p e none rest =
        let apart = neither_of (is_special x) (list_any is_special w) none in
        ap (λ (a : Bool). a || list_any is_backslash xs) (special_backslash x apart.0) ∙ rest apart.1

one_value : (b : List ℕ) → list_any is_backslash b ≡ false → slice_split is_backslash b ≡ b ∷ []
one_value [] none = refl
one_value (x ∷ xs) none =
    let apart = neither_of (is_backslash x) (list_any is_backslash xs) none in
    ap (λ (a : Bool). cond a ([] ∷ slice_split is_backslash xs) (onto_first x (slice_split is_backslash xs))) apart.0
    ∙ ap (onto_first x) (one_value xs apart.1)

unpadded_again : (b : List ℕ) → without_padding (without_padding b) ≡ without_padding b
unpadded_again [] = refl
unpadded_again (x ∷ xs) = here (is_padding x) (without_padding xs) refl (unpadded_again xs)
  where
    here : (q : Bool) (w : List ℕ) → is_padding x ≡ q → without_padding w ≡ w → without_padding (cond (q && is_nil w) [] (x ∷ w)) ≡ cond (q && is_nil w) [] (x ∷ w)
    here true [] p e = refl
    here true (w ∷ ws) p e = ap (λ (a : List ℕ). cond (is_padding x && is_nil a) [] (x ∷ a)) e ∙ ap (λ (q : Bool). cond (q && false) [] (x ∷ w ∷ ws)) p
    here false w p e = ap (λ (q : Bool). cond (q && is_nil (without_padding w)) [] (x ∷ without_padding w)) p ∙ ap (λ (a : List ℕ). x ∷ a) e

or_none : (a : Bool) → (a || false) ≡ a
or_none true = refl
or_none false = refl

no_special : (t text : List ℕ) → plain t ≡ Some text → list_any is_special t ≡ false
no_special t text p = here (is_nil t) (list_any is_special t) refl p
  where
    here : (n s : Bool) → list_any is_special t ≡ s → cond (n || s) None (Some t) ≡ Some text → s ≡ false
    here true s e q = absurd (never_none text q)
    here false true e q = absurd (never_none text q)
    here false false e q = refl

-- so a list of one UID shares what is that UID
shares_one : (key stored : List ℕ) → list_any is_special (without_padding key) ≡ false → shares_uid key stored ≡ any_value (bytes_eq (without_padding key)) stored
shares_one key stored none =
    ap (λ (vs : List (List ℕ)). list_any (λ v. any_value (bytes_eq (without_padding v)) stored) vs) (one_value key (no_backslash key none))
    ∙ or_none (any_value (bytes_eq (without_padding key)) stored)

shares_plain : (text stored : List ℕ) → without_padding text ≡ text → list_any is_special text ≡ false → shares_uid text stored ≡ any_value (bytes_eq text) stored
shares_plain text stored same none =
    shares_one text stored (ap (list_any is_special) same ∙ none) ∙ ap (λ (t : List ℕ). any_value (bytes_eq t) stored) same

-- a UID is matched as it stands
stored_uid : (offset : ℤ) (b text : List ℕ) (s : Option Data) → plain (without_padding b) ≡ Some text → matches_stored_text UidList offset b s ≡ stored_text_met UidList offset text s
stored_uid offset b text None p = refl
stored_uid offset b text (Some (items is)) p = refl
stored_uid offset b text (Some (bytes c)) p =
    let same = text_of_plain (without_padding b) text p in
    let none = no_special (without_padding b) text p in
    shares_one b c none
    ∙ ap (λ (t : List ℕ). any_value (bytes_eq t) c) same
    ∙ sym (shares_plain text c (sym (ap without_padding same) ∙ unpadded_again b ∙ same) (sym (ap (list_any is_special) same) ∙ none))

-- a text with wild cards is matched as it stands
stored : (offset : ℤ) (b text : List ℕ) (s : Option Data) → without_padding b ≡ text → matches_stored_text WildCards offset b s ≡ stored_text_met WildCards offset text s
stored offset b text None e = refl
stored offset b text (Some (bytes c)) e = ap (λ (t : List ℕ). stored_text_met WildCards offset t (Some (bytes c))) e
stored offset b text (Some (items is)) e = refl

module _ (offset : ℤ) (keys row : Elements) (m : all_match offset keys row ≡ true) where
  -- the key of a tag that has one plain value matches, by a rule that takes such a value as it stands
  plain_key : (rule : Rule) (tag : Tag) → is_no_key tag ≡ false → is_code_key tag ≡ false → key_rule tag ≡ rule → (text : List ℕ)
      → ((b : List ℕ) → plain (without_padding b) ≡ Some text → matches_stored_text rule offset b (value_at tag row) ≡ stored_text_met rule offset text (value_at tag row)) → plain_value (value_at tag keys) ≡ Some text
      → meets_first offset (value tag text) row ≡ true
  plain_key rule tag own other is_rule text stands p = here (value_at tag keys) refl p
    where
      here : (o : Option Data) → value_at tag keys ≡ o → plain_value o ≡ Some text → meets_first offset (value tag text) row ≡ true
      here None at p = absurd (never_none text p)
      here (Some (items is)) at p = absurd (never_none text p)
      here (Some (bytes b)) at p =
          let matched = key_matches offset keys row tag (bytes b) own m at (is_plain b text p) in
          ap (λ (c : Bool). cond c (any_stored_item (λ code. stored_text_met (key_rule CODE_VALUE) offset text (value_at CODE_VALUE code)) (value_at tag row)) (stored_text_met (key_rule tag) offset text (value_at tag row))) other
          ∙ ap (λ (r : Rule). stored_text_met r offset text (value_at tag row)) is_rule
          ∙ sym (stands b p)
          ∙ sym (ap (λ (r : Rule). matches_stored_text r offset b (value_at tag row)) is_rule)
          ∙ matched

  text_key : (tag : Tag) → is_no_key tag ≡ false → is_code_key tag ≡ false → key_rule tag ≡ WildCards → (text : List ℕ) → plain_value (value_at tag keys) ≡ Some text → meets_first offset (value tag text) row ≡ true
  text_key tag own other rule text p = plain_key WildCards tag own other rule text (λ b q. stored offset b text (value_at tag row) (text_of_plain (without_padding b) text q)) p

  uid_key : (tag : Tag) → is_no_key tag ≡ false → is_code_key tag ≡ false → key_rule tag ≡ UidList → (text : List ℕ) → plain_value (value_at tag keys) ≡ Some text → meets_first offset (value tag text) row ≡ true
  uid_key tag own other rule text p = plain_key UidList tag own other rule text (λ b q. stored_uid offset b text (value_at tag row) q) p

-- one key that isn't universal makes the keys of an item so
not_all_universal : (keys : Elements) (tag : Tag) (d : Data) → is_no_key tag ≡ false → value_at tag keys ≡ Some d → is_universal d ≡ false → all_universal keys ≡ false
not_all_universal no_elements tag d own at u = absurd cc
not_all_universal (element t vr v more) tag d own at u = here (is_tag t tag) refl at (λ is. not_all_universal more tag d own is u)
  where
    either : (a b : Bool) → b ≡ false → (a && b) ≡ false
    either true b e = e
    either false b e = refl

    here : (b : Bool) → is_tag t tag ≡ b → cond b (Some v) (value_at tag more) ≡ Some d → (value_at tag more ≡ Some d → all_universal more ≡ false) → all_universal (element t vr v more) ≡ false
    here true e is later =
        let same : t ≡ tag = same_tag t tag e in
        let its : v ≡ d = cc in
        let other : is_universal_key t v ≡ false = (λ i. is_no_key (same i) || is_universal (its i)) ∙ ap (λ (b : Bool). b || is_universal d) own ∙ u in
        ap (λ (b : Bool). b && all_universal more) other
    here false e is later = either (is_universal_key t v) (all_universal more) (later is)

-- some item passes a weaker test
any_weaker : (f g : Elements → Bool) → ((e : Elements) → f e ≡ true → g e ≡ true) → (is : Items) → any_item f is ≡ true → any_item g is ≡ true
any_weaker f g weaker no_items h = absurd cc
any_weaker f g weaker (item es more) h = here (f es) (g es) refl refl h (any_weaker f g weaker more)
  where
    here : (a b : Bool) → f es ≡ a → g es ≡ b → (a || any_item f more) ≡ true → (any_item f more ≡ true → any_item g more ≡ true) → (b || any_item g more) ≡ true
    here a true ea eb h later = refl
    here true false ea eb h later = absurd (true≢false (sym (weaker es ea) ∙ eb))
    here false false ea eb h later = later h

any_stored_weaker : (f g : Elements → Bool) → ((e : Elements) → f e ≡ true → g e ≡ true) → (s : Option Data) → any_stored_item f s ≡ true → any_stored_item g s ≡ true
any_stored_weaker f g weaker None h = absurd cc
any_stored_weaker f g weaker (Some (bytes b)) h = absurd cc
any_stored_weaker f g weaker (Some (items is)) h = any_weaker f g weaker is h

code_rule : key_rule CODE_VALUE ≡ WildCards
unfolding vr_of
code_rule = refl

start_rule : key_rule SCHEDULED_PROCEDURE_STEP_START_DATE_TIME ≡ Range
unfolding vr_of
start_rule = refl

-- the rule takes one plain value as it stands
abbrev pub takes_plain : Rule → Bool
takes_plain UidList = true
takes_plain WildCards = true
takes_plain WildCardsInText = false
takes_plain Range = false
takes_plain OneOfValues = false
takes_plain WholeValue = false

-- an attribute with a tag can be looked up so: it can be a key, and what is looked up is what the key is compared with,
-- its values by such a rule or the code values of a sequence
abbrev pub fits : Tag → KeyKind → Bool
fits tag Value = not (is_no_key tag) && (not (is_code_key tag) && takes_plain (key_rule tag))
fits tag Code = not (is_no_key tag) && (is_code_key tag && is_sequence (vr_of tag) 0)

abbrev pub all_fit : List Indexed → Bool
all_fit ks = list_all (λ k. fits k.tag k.kind) ks

pub indexed_fit : all_fit indexed_keys ≡ true
unfolding vr_of
indexed_fit = refl

pub record FitsValue (tag : Tag) : Type 0 where
  pub own : is_no_key tag ≡ false
  pub other : is_code_key tag ≡ false
  pub rule : takes_plain (key_rule tag) ≡ true

pub fits_value : (tag : Tag) → fits tag Value ≡ true → FitsValue tag
fits_value tag h =
    let (own, rest) = both (not (is_no_key tag)) (not (is_code_key tag) && takes_plain (key_rule tag)) h in
    let (other, rule) = both (not (is_code_key tag)) (takes_plain (key_rule tag)) rest in
    record { own = not-true (is_no_key tag) own; other = not-true (is_code_key tag) other; rule = rule }

pub record FitsCode (tag : Tag) : Type 0 where
  pub own : is_no_key tag ≡ false
  pub code : is_code_key tag ≡ true

pub fits_code : (tag : Tag) → fits tag Code ≡ true → FitsCode tag
fits_code tag h =
    let (own, rest) = both (not (is_no_key tag)) (is_code_key tag && is_sequence (vr_of tag) 0) h in
    let (code, sequence) = both (is_code_key tag) (is_sequence (vr_of tag) 0) rest in
    record { own = not-true (is_no_key tag) own; code = code }

neither : (a b : Bool) → b ≡ false → (a && b) ≡ false
neither true b e = e
neither false b e = refl

-- some stored value is like a text
abbrev pub stored_like : List ℕ → Option Data → Bool
stored_like text None = false
stored_like text (Some (bytes b)) = any_value (is_like text) b
stored_like text (Some (items is)) = false

like : (offset : ℤ) (tag : Tag) (text : List ℕ) (s : Option Data) → key_rule tag ≡ WildCards → stored_text_met (key_rule tag) offset text s ≡ stored_like text s
like offset tag text None rule = refl
like offset tag text (Some (items is)) rule = refl
like offset tag text (Some (bytes b)) rule = ap (λ (r : _). stored_text_met r offset text (Some (bytes b))) rule

-- some stored value is a text
abbrev pub stored_equal : List ℕ → Option Data → Bool
stored_equal text None = false
stored_equal text (Some (bytes b)) = any_value (bytes_eq text) b
stored_equal text (Some (items is)) = false

-- of a tag that isn't that of a code sequence, the value itself is compared; of a code sequence, the code values
of_value : (offset : ℤ) (tag : Tag) (text : List ℕ) (row : Elements) → is_code_key tag ≡ false → meets_first offset (value tag text) row ≡ stored_text_met (key_rule tag) offset text (value_at tag row)
of_value offset tag text row other = ap (λ (c : Bool). cond c (any_stored_item (λ code. stored_text_met (key_rule CODE_VALUE) offset text (value_at CODE_VALUE code)) (value_at tag row)) (stored_text_met (key_rule tag) offset text (value_at tag row))) other

of_code : (offset : ℤ) (tag : Tag) (text : List ℕ) (row : Elements) → is_code_key tag ≡ true → meets_first offset (value tag text) row ≡ any_stored_item (λ code. stored_text_met (key_rule CODE_VALUE) offset text (value_at CODE_VALUE code)) (value_at tag row)
of_code offset tag text row code = ap (λ (c : Bool). cond c (any_stored_item (λ code. stored_text_met (key_rule CODE_VALUE) offset text (value_at CODE_VALUE code)) (value_at tag row)) (stored_text_met (key_rule tag) offset text (value_at tag row))) code

-- what meets the first indexed key, where it is a value
pub meets_value : (offset : ℤ) (tag : Tag) (key : Option Data) (text : List ℕ) (row : Elements) → FitsValue tag → plain_value key ≡ Some text → stored_equal text (value_at tag row) ≡ stored_like text (value_at tag row)
    → meets_first offset (value tag text) row ≡ stored_like text (value_at tag row)
meets_value offset tag None text row fit p equal = absurd (never_none text p)
meets_value offset tag (Some (items is)) text row fit p equal = absurd (never_none text p)
meets_value offset tag (Some (bytes b)) text row fit p equal = of_value offset tag text row fit.other ∙ by_rule (key_rule tag) refl fit.rule
  where
    same : without_padding b ≡ text
    same = text_of_plain (without_padding b) text p

    here : (s : Option Data) → stored_text_met UidList offset text s ≡ stored_equal text s
    here None = refl
    here (Some (items is)) = refl
    here (Some (bytes c)) = shares_plain text c (sym (ap without_padding same) ∙ unpadded_again b ∙ same) (sym (ap (list_any is_special) same) ∙ no_special (without_padding b) text p)

    by_rule : (r : Rule) → key_rule tag ≡ r → takes_plain r ≡ true → stored_text_met (key_rule tag) offset text (value_at tag row) ≡ stored_like text (value_at tag row)
    by_rule UidList e t = ap (λ (r : Rule). stored_text_met r offset text (value_at tag row)) e ∙ here (value_at tag row) ∙ equal
    by_rule WildCards e t = like offset tag text (value_at tag row) e
    by_rule WildCardsInText e t = absurd cc
    by_rule Range e t = absurd cc
    by_rule OneOfValues e t = absurd cc
    by_rule WholeValue e t = absurd cc

any_same_item : (f g : Elements → Bool) → ((e : Elements) → f e ≡ g e) → (is : Items) → any_item f is ≡ any_item g is
any_same_item f g same no_items = refl
any_same_item f g same (item es more) = ap (λ (b : Bool). b || any_item f more) (same es) ∙ ap (λ (b : Bool). g es || b) (any_same_item f g same more)

any_same_stored : (f g : Elements → Bool) → ((e : Elements) → f e ≡ g e) → (s : Option Data) → any_stored_item f s ≡ any_stored_item g s
any_same_stored f g same None = refl
any_same_stored f g same (Some (bytes b)) = refl
any_same_stored f g same (Some (items is)) = any_same_item f g same is

pub meets_code : (offset : ℤ) (tag : Tag) (text : List ℕ) (row : Elements) → is_code_key tag ≡ true → meets_first offset (value tag text) row ≡ any_stored_item (λ code. stored_like text (value_at CODE_VALUE code)) (value_at tag row)
meets_code offset tag text row code =
    of_code offset tag text row code
    ∙ any_same_stored (λ code. stored_text_met (key_rule CODE_VALUE) offset text (value_at CODE_VALUE code)) (λ code. stored_like text (value_at CODE_VALUE code))
    (λ e. like offset CODE_VALUE text (value_at CODE_VALUE e) code_rule) (value_at tag row)

module _ (offset : ℤ) (keys row : Elements) (m : all_match offset keys row ≡ true) where
  code_key : (tag : Tag) → FitsCode tag → (text : List ℕ) → plain_code (value_at tag keys) ≡ Some text → meets_first offset (value tag text) row ≡ true
  code_key tag fit text p = of_code offset tag text row fit.code ∙ here (value_at tag keys) refl p
    where
      by_code : (es : Elements) (o : Option Data) → value_at CODE_VALUE es ≡ o → plain_value o ≡ Some text → (d : Data) × (o ≡ Some d) × (is_universal d ≡ false)
      by_code es None at p = absurd (never_none text p)
      by_code es (Some (items is)) at p = absurd (never_none text p)
      by_code es (Some (bytes b)) at p = (bytes b, refl, is_plain b text p)

      here : (o : Option Data) → value_at tag keys ≡ o → plain_code o ≡ Some text → any_stored_item (λ code. stored_text_met (key_rule CODE_VALUE) offset text (value_at CODE_VALUE code)) (value_at tag row) ≡ true
      here None at p = absurd (never_none text p)
      here (Some (bytes b)) at p = absurd (never_none text p)
      here (Some (items no_items)) at p = absurd (never_none text p)
      here (Some (items (item es more))) at p =
          let (d, is, u) = by_code es (value_at CODE_VALUE es) refl p in
          let no : is_universal (items (item es more)) ≡ false = neither (has_no_items more) (all_universal es) (not_all_universal es CODE_VALUE d refl is u) in
          let matched = key_matches offset keys row tag (items (item es more)) fit.own m at no in
          any_stored_weaker (all_match offset es) (λ code. stored_text_met (key_rule CODE_VALUE) offset text (value_at CODE_VALUE code))
          (λ code all. sym (of_value offset CODE_VALUE text code refl) ∙ text_key offset es code all CODE_VALUE refl refl code_rule text p) (value_at tag row) matched

  value_key : (tag : Tag) → FitsValue tag → (text : List ℕ) → plain_value (value_at tag keys) ≡ Some text → meets_first offset (value tag text) row ≡ true
  value_key tag fit text p = by_rule (key_rule tag) refl fit.rule
    where
      by_rule : (r : Rule) → key_rule tag ≡ r → takes_plain r ≡ true → meets_first offset (value tag text) row ≡ true
      by_rule UidList e t = uid_key offset keys row m tag fit.own fit.other e text p
      by_rule WildCards e t = text_key offset keys row m tag fit.own fit.other e text p
      by_rule WildCardsInText e t = absurd cc
      by_rule Range e t = absurd cc
      by_rule OneOfValues e t = absurd cc
      by_rule WholeValue e t = absurd cc

  indexed_key : (tag : Tag) (kind : KeyKind) → fits tag kind ≡ true → (text : List ℕ) → text_asked kind (value_at tag keys) ≡ Some text → meets_first offset (value tag text) row ≡ true
  indexed_key tag Value fit text p = value_key tag (fits_value tag fit) text p
  indexed_key tag Code fit text p = code_key tag (fits_code tag fit) text p

  first_matches : (ks : List Indexed) (later : FirstKey) → all_fit ks ≡ true → meets_first offset later row ≡ true → meets_first offset (first_of ks keys later) row ≡ true
  first_matches [] later fit rest = rest
  first_matches (k ∷ ks) later fit rest =
      let (now, others) = both (fits k.tag k.kind) (all_fit ks) fit in
      step offset row k.tag (text_asked k.kind (value_at k.tag keys)) (first_of ks keys later) (indexed_key k.tag k.kind now) (first_matches ks later others rest)

  range_of : (span : Option Span) → spans span (start_of offset row) ≡ true → meets_first offset (range_key span) row ≡ true
  range_of None h = refl
  range_of (Some s) h = h

  start_matched : (configured : ℤ) → meets_first offset (start_key configured offset (value_at SCHEDULED_PROCEDURE_STEP_START_DATE_TIME keys)) row ≡ true
  start_matched configured = here (value_at SCHEDULED_PROCEDURE_STEP_START_DATE_TIME keys) refl
    where
      in_range : (b : List ℕ) (s : Option Data) → matches_stored_text Range offset b s ≡ true → spans (span_of offset (without_padding b)) (moment_stored offset s) ≡ true
      in_range b None h = absurd cc
      in_range b (Some (items is)) h = absurd cc
      in_range b (Some (bytes c)) h = h

      by_offset : (b : List ℕ) → value_at SCHEDULED_PROCEDURE_STEP_START_DATE_TIME keys ≡ Some (bytes b) → (u : Bool) → is_universal_text b ≡ u → (other : Bool) → meets_first offset (cond (u || other) all (range_key (span_of offset (without_padding b)))) row ≡ true
      by_offset b at true e other = refl
      by_offset b at false e true = refl
      by_offset b at false e false =
          let matched = key_matches offset keys row SCHEDULED_PROCEDURE_STEP_START_DATE_TIME (bytes b) refl m at e in
          range_of (span_of offset (without_padding b))
          (in_range b (value_at SCHEDULED_PROCEDURE_STEP_START_DATE_TIME row) (sym (ap (λ (r : _). matches_stored_text r offset b (value_at SCHEDULED_PROCEDURE_STEP_START_DATE_TIME row)) start_rule) ∙ matched))

      here : (o : Option Data) → value_at SCHEDULED_PROCEDURE_STEP_START_DATE_TIME keys ≡ o → meets_first offset (start_key configured offset o) row ≡ true
      here None at = refl
      here (Some (items is)) at = refl
      here (Some (bytes b)) at = by_offset b at (is_universal_text b) refl (not (int_eq offset configured))

  first_matched : (configured : ℤ) → meets_first offset (first_among configured offset keys) row ≡ true
  first_matched configured = first_matches indexed_keys (start_key configured offset (value_at SCHEDULED_PROCEDURE_STEP_START_DATE_TIME keys)) indexed_fit (start_matched configured)

-- a row that matches keys is of their class
pub matches_first : (configured : ℤ) (keys : KeySet) (row : List El) → is_match keys row ≡ true → meets_first keys.offset (first_key configured keys) (elements_of row) ≡ true
unfolding first_key matches
matches_first configured keys row m = first_matched keys.offset (elements_of keys.attributes) (elements_of row) m configured

-- what passes a test is found among what passes a weaker one
filter_among : {X : Type 0} (p q : X → Bool) → ((x : X) → p x ≡ true → q x ≡ true) → (xs : List X) → filter p (filter q xs) ≡ filter p xs
filter_among p q weaker [] = refl
filter_among {X} p q weaker (x ∷ xs) = here (p x) (q x) refl refl (filter_among p q weaker xs)
  where
    here : (a b : Bool) → p x ≡ a → q x ≡ b → filter p (filter q xs) ≡ filter p xs → filter p (cond b (x ∷ filter q xs) (filter q xs)) ≡ cond (p x) (x ∷ filter p xs) (filter p xs)
    here a true ea eb rest = ap (λ (l : List X). cond (p x) (x ∷ l) l) rest
    here true false ea eb rest = absurd (true≢false (sym (weaker x ea) ∙ eb))
    here false false ea eb rest = rest ∙ sym (ap (λ (c : Bool). cond c (x ∷ filter p xs) (filter p xs)) ea)

-- so that the rows that match are those of the class that match
pub found_in_class : (configured : ℤ) (keys : KeySet) (rows : List (List El)) → filter (is_match keys) (class configured keys rows) ≡ filter (is_match keys) rows
unfolding class
found_in_class configured keys rows = filter_among (is_match keys) _ (matches_first configured keys) rows

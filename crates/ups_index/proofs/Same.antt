-- What is stored of a row has the first indexed key where the row matches it.
use Rattle.std.proofs.Common.{◌≡◌, ℕ, ℤ, Bool, true, false, ◌||◌, ◌&&◌, ◌==◌, not, cond, List, [], ◌∷◌, map, filter, flat_map, refl, sym, ap, ◌∙◌, subst}
use Rattle.std.specs.Prelude.{Option, None, Some}
use Rattle.std.specs.List.{list_any, list_all, slice_split}
use Rattle.std.specs.Ordering.{int_eq}
use Rattle.std.specs.Str.{bytes_eq}
use Rattle.std.specs.Cmp.{signed_Decides}
use Rattle.std.proofs.Math.Bool.{or-false}
use Rattle.std.proofs.lemmas.Bool.{not-true, or_parts}
use Rattle.std.proofs.lemmas.List.Folds.{list_any-append}
use Rattle.ups_pdu.specs.Padding.{is_nil, without_padding}
use Rattle.ups_dataset.specs.declared.tag.Tag.{Tag}
use Rattle.ups_dataset.specs.declared.dictionary.TheConstants.{CODE_VALUE, SCHEDULED_PROCEDURE_STEP_START_DATE_TIME}
use Rattle.ups_dataset.specs.Tag.{is_tag}
use Rattle.ups_dataset.specs.Data.{Data, bytes, items, Items, no_items, item, Elements, El, elements_of}
use Rattle.ups_match.specs.declared.indexed.Indexed.{Indexed}
use Rattle.ups_match.specs.declared.indexed.KeyKind.{KeyKind}
use Rattle.ups_match.specs.declared.indexed.KeyKind.TheVariants.{Value, Code}
use Rattle.ups_match.specs.Class.{is_special, plain, plain_value, plain_code, text_asked, FirstKey, value, all, or_else, range_key, start_key, first_of, first_key, start_of, meets_first}
use Rattle.ups_match.specs.IndexedKeys.{indexed_keys}
use Rattle.ups_match.specs.Likeness.{is_star, is_question_mark, ends_of, is_like}
use Rattle.ups_match.specs.Matching.{KeySet, value_at, any_item, any_stored_item}
use Rattle.ups_match.specs.Ranges.{span_of, spans}
use Rattle.ups_match.specs.Values.{is_backslash, is_universal_text}
use Rattle.ups_match.proofs.Class.{both, same_tag, stored_like, stored_equal, fits, all_fit, indexed_fit, fits_value, fits_code, meets_value, meets_code, text_of_plain}
use Rattle.ups_index.specs.Indexed.{indexed_class}
use Rattle.ups_index.specs.Stored.{stored_values, codes_in, stored_codes, stored_texts, under, texts_under, RowValues, values_of_row, is_stored_text, has_first}

-- a pattern without wild cards is like itself alone
plain_byte : (s q b rest : Bool) → ((s || (q || b)) || rest) ≡ false → (s ≡ false) × (q ≡ false) × (rest ≡ false)
plain_byte true q b rest h = absurd cc
plain_byte false true b rest h = absurd cc
plain_byte false false true rest h = absurd cc
plain_byte false false false rest h = (refl, refl, h)

like_is_same : (text v : List ℕ) → list_any is_special text ≡ false → is_like text v ≡ bytes_eq text v
like_is_same [] [] h = refl
like_is_same [] (v ∷ vs) h = refl
like_is_same (x ∷ xs) [] h =
    let p = plain_byte (is_star x) (is_question_mark x) (is_backslash x) (list_any is_special xs) h in
    ap (λ (b : Bool). cond b (list_any (is_like xs) ([] ∷ [])) false) p.0
like_is_same (x ∷ xs) (v ∷ vs) h =
    let p = plain_byte (is_star x) (is_question_mark x) (is_backslash x) (list_any is_special xs) h in
    ap (λ (b : Bool). cond b (list_any (is_like xs) (ends_of (v ∷ vs))) ((is_question_mark x || (x == v)) && is_like xs vs)) p.0
    ∙ ap (λ (b : Bool). (b || (x == v)) && is_like xs vs) p.1
    ∙ ap (λ (b : Bool). (x == v) && b) (like_is_same xs vs p.2)

-- what a plain text is
never_none : (text : List ℕ) → None ≡ Some text → ⊥
never_none text e = cc

pub record IsPlain (text : List ℕ) : Type 0 where
  pub has_bytes : is_nil text ≡ false
  pub has_no_wild : list_any is_special text ≡ false

plain_is : (t text : List ℕ) → plain t ≡ Some text → IsPlain text
plain_is t text p = subst IsPlain (text_of_plain t text p) (here (is_nil t) (list_any is_special t) refl refl p)
  where
    here : (n s : Bool) → is_nil t ≡ n → list_any is_special t ≡ s → cond (n || s) None (Some t) ≡ Some text → IsPlain t
    here true s en es q = absurd (never_none text q)
    here false true en es q = absurd (never_none text q)
    here false false en es q = record { has_bytes = en; has_no_wild = es }

value_is : (o : Option Data) (text : List ℕ) → plain_value o ≡ Some text → IsPlain text
value_is None text p = absurd (never_none text p)
value_is (Some (bytes b)) text p = plain_is (without_padding b) text p
value_is (Some (items is)) text p = absurd (never_none text p)

code_is : (o : Option Data) (text : List ℕ) → plain_code o ≡ Some text → IsPlain text
code_is None text p = absurd (never_none text p)
code_is (Some (bytes b)) text p = absurd (never_none text p)
code_is (Some (items no_items)) text p = absurd (never_none text p)
code_is (Some (items (item es more))) text p = value_is (value_at CODE_VALUE es) text p

module _ (text : List ℕ) (is : IsPlain text) where
  nothing : (v : List ℕ) → is_nil v ≡ true → is_like text v ≡ false
  nothing [] e = like_is_same text [] is.has_no_wild ∙ none text is.has_bytes
    where
      none : (t : List ℕ) → is_nil t ≡ false → bytes_eq t [] ≡ false
      none [] e = absurd cc
      none (x ∷ xs) e = refl
  nothing (x ∷ xs) e = absurd cc

  among : (vs : List (List ℕ)) → list_any (bytes_eq text) (filter (λ v. not (is_nil v)) (map without_padding vs)) ≡ list_any (λ v. is_like text (without_padding v)) vs
  among [] = refl
  among (v ∷ vs) = here (is_nil (without_padding v)) refl (among vs)
    where
      rest : List (List ℕ)
      rest = filter (λ v. not (is_nil v)) (map without_padding vs)

      here : (n : Bool) → is_nil (without_padding v) ≡ n → list_any (bytes_eq text) (filter (λ v. not (is_nil v)) (map without_padding vs)) ≡ list_any (λ v. is_like text (without_padding v)) vs
          → list_any (bytes_eq text) (cond (not n) (without_padding v ∷ filter (λ v. not (is_nil v)) (map without_padding vs)) (filter (λ v. not (is_nil v)) (map without_padding vs))) ≡ (is_like text (without_padding v) || list_any (λ v. is_like text (without_padding v)) vs)
      here true e later = later ∙ sym (ap (λ (b : Bool). b || list_any (λ v. is_like text (without_padding v)) vs) (nothing (without_padding v) e))
      here false e later =
          ap (λ (b : Bool). b || list_any (bytes_eq text) (filter (λ v. not (is_nil v)) (map without_padding vs))) (sym (like_is_same text (without_padding v) is.has_no_wild))
          ∙ ap (λ (b : Bool). is_like text (without_padding v) || b) later

  values_same : (s : Option Data) → list_any (bytes_eq text) (stored_values s) ≡ stored_like text s
  values_same None = refl
  values_same (Some (bytes b)) = among (slice_split is_backslash b)
  values_same (Some (items is)) = refl

  -- a plain text is the stored value that it is like
  alike : (vs : List (List ℕ)) → list_any (λ v. is_like text (without_padding v)) vs ≡ list_any (λ v. bytes_eq text (without_padding v)) vs
  alike [] = refl
  alike (v ∷ vs) = ap (λ (b : Bool). b || list_any (λ w. is_like text (without_padding w)) vs) (like_is_same text (without_padding v) is.has_no_wild) ∙ ap (λ (b : Bool). bytes_eq text (without_padding v) || b) (alike vs)

  like_equal : (s : Option Data) → stored_equal text s ≡ stored_like text s
  like_equal None = refl
  like_equal (Some (bytes b)) = sym (alike (slice_split is_backslash b))
  like_equal (Some (items is)) = refl

  codes_same : (is : Items) → list_any (bytes_eq text) (codes_in is) ≡ any_item (λ e. stored_like text (value_at CODE_VALUE e)) is
  codes_same no_items = refl
  codes_same (item es more) =
      list_any-append (bytes_eq text) (stored_values (value_at CODE_VALUE es)) (codes_in more)
      ∙ ap (λ (b : Bool). b || list_any (bytes_eq text) (codes_in more)) (values_same (value_at CODE_VALUE es))
      ∙ ap (λ (b : Bool). stored_like text (value_at CODE_VALUE es) || b) (codes_same more)

  stored_codes_same : (s : Option Data) → list_any (bytes_eq text) (stored_codes s) ≡ any_stored_item (λ e. stored_like text (value_at CODE_VALUE e)) s
  stored_codes_same None = refl
  stored_codes_same (Some (bytes b)) = refl
  stored_codes_same (Some (items is)) = codes_same is

-- what is stored under a tag is found under it, and not under another
under_own : (tag t : Tag) (text : List ℕ) (vs : List (List ℕ)) → is_tag t tag ≡ true → list_any (is_stored_text tag text) (under t vs) ≡ list_any (bytes_eq text) vs
under_own tag t text [] e = refl
under_own tag t text (v ∷ vs) e =
    ap (λ (b : Bool). (b && bytes_eq text v) || list_any (is_stored_text tag text) (under t vs)) e ∙ ap (λ (b : Bool). bytes_eq text v || b) (under_own tag t text vs e)

under_other : (tag t : Tag) (text : List ℕ) (vs : List (List ℕ)) → is_tag t tag ≡ false → list_any (is_stored_text tag text) (under t vs) ≡ false
under_other tag t text [] e = refl
under_other tag t text (v ∷ vs) e =
    ap (λ (b : Bool). (b && bytes_eq text v) || list_any (is_stored_text tag text) (under t vs)) e ∙ under_other tag t text vs e

-- what is stored for a table of keys
abbrev pub has_tag : Tag → List Indexed → Bool
has_tag tag ks = list_any (λ k. is_tag k.tag tag) ks

abbrev pub is_kind : KeyKind → KeyKind → Bool
is_kind Value Value = true
is_kind Value Code = false
is_kind Code Value = false
is_kind Code Code = true

-- the table has the tag once, with this kind
abbrev pub stands_once : Tag → KeyKind → List Indexed → Bool
stands_once tag kind [] = false
stands_once tag kind (k ∷ ks) = cond (is_tag k.tag tag) (is_kind k.kind kind && not (has_tag tag ks)) (stands_once tag kind ks)

abbrev pub all_once : List Indexed → List Indexed → Bool
all_once table ks = list_all (λ k. stands_once k.tag k.kind table) ks

indexed_once : all_once indexed_keys indexed_keys ≡ true
indexed_once = refl

same_kind : (a b : KeyKind) → is_kind a b ≡ true → a ≡ b
same_kind Value Value e = refl
same_kind Value Code e = absurd cc
same_kind Code Value e = absurd cc
same_kind Code Code e = refl

module _ (set : Elements) (tag : Tag) (text : List ℕ) where
  abbrev found : List Indexed → Bool
  found ks = list_any (is_stored_text tag text) (flat_map (texts_under set) ks)

  -- what is stored under other tags isn't found
  none_found : (ks : List Indexed) → has_tag tag ks ≡ false → found ks ≡ false
  none_found [] h = refl
  none_found (k ∷ ks) h =
      let (other, others) = or_parts (is_tag k.tag tag) (has_tag tag ks) h in
      list_any-append (is_stored_text tag text) (texts_under set k) (flat_map (texts_under set) ks)
      ∙ ap (λ (b : Bool). b || found ks) (under_other tag k.tag text (stored_texts k.kind (value_at k.tag set)) other)
      ∙ none_found ks others

  -- what is stored under a tag that stands once is found under it
  own_found : (kind : KeyKind) (ks : List Indexed) → stands_once tag kind ks ≡ true → found ks ≡ list_any (bytes_eq text) (stored_texts kind (value_at tag set))
  own_found kind [] h = absurd cc
  own_found kind (k ∷ ks) h = list_any-append (is_stored_text tag text) (texts_under set k) (flat_map (texts_under set) ks) ∙ here (is_tag k.tag tag) refl h (λ once. own_found kind ks once)
    where
      here : (b : Bool) → is_tag k.tag tag ≡ b → cond b (is_kind k.kind kind && not (has_tag tag ks)) (stands_once tag kind ks) ≡ true → (stands_once tag kind ks ≡ true → found ks ≡ list_any (bytes_eq text) (stored_texts kind (value_at tag set)))
          → (list_any (is_stored_text tag text) (texts_under set k) || found ks) ≡ list_any (bytes_eq text) (stored_texts kind (value_at tag set))
      here true e once later =
          let (its, apart) = both (is_kind k.kind kind) (not (has_tag tag ks)) once in
          let same : k.tag ≡ tag = same_tag k.tag tag e in
          ap (λ (b : Bool). b || found ks) (under_own tag k.tag text (stored_texts k.kind (value_at k.tag set)) e)
          ∙ ap (λ (b : Bool). list_any (bytes_eq text) (stored_texts k.kind (value_at k.tag set)) || b) (none_found ks (not-true (has_tag tag ks) apart))
          ∙ or-false (list_any (bytes_eq text) (stored_texts k.kind (value_at k.tag set)))
          ∙ (λ i. list_any (bytes_eq text) (stored_texts (same_kind k.kind kind its i) (value_at (same i) set)))
      here false e once later =
          ap (λ (b : Bool). b || found ks) (under_other tag k.tag text (stored_texts k.kind (value_at k.tag set)) e)
          ∙ later once

module _ (configured : ℤ) (keys : KeySet) (row : List El) where
  abbrev Same : FirstKey → Type 0
  Same first = meets_first keys.offset first (elements_of row) ≡ has_first first (values_of_row configured row)

  step : (tag : Tag) (o : Option (List ℕ)) (later : FirstKey) → ((text : List ℕ) → o ≡ Some text → Same (value tag text)) → Same later → Same (or_else tag o later)
  step tag None later this rest = rest
  step tag (Some text) later this rest = this text refl

  -- what is stored of a row under an indexed tag is the text where the row matches it
  key_same : (tag : Tag) (kind : KeyKind) → fits tag kind ≡ true → stands_once tag kind indexed_keys ≡ true → (text : List ℕ) → text_asked kind (value_at tag (elements_of keys.attributes)) ≡ Some text → Same (value tag text)
  unfolding values_of_row
  key_same tag Value fit once text p =
      let is = value_is (value_at tag (elements_of keys.attributes)) text p in
      let stored = value_at tag (elements_of row) in
      meets_value keys.offset tag (value_at tag (elements_of keys.attributes)) text (elements_of row) (fits_value tag fit) p (like_equal text is stored)
      ∙ sym (values_same text is stored)
      ∙ sym (own_found (elements_of row) tag text Value indexed_keys once)
  key_same tag Code fit once text p =
      let is = code_is (value_at tag (elements_of keys.attributes)) text p in
      meets_code keys.offset tag text (elements_of row) (fits_code tag fit).code
      ∙ sym (stored_codes_same text is (value_at tag (elements_of row)))
      ∙ sym (own_found (elements_of row) tag text Code indexed_keys once)

  table_same : (ks : List Indexed) (later : FirstKey) → all_fit ks ≡ true → all_once indexed_keys ks ≡ true → Same later → Same (first_of ks (elements_of keys.attributes) later)
  table_same [] later fit once rest = rest
  table_same (k ∷ ks) later fit once rest =
      let (fits_here, others_fit) = both (fits k.tag k.kind) (all_fit ks) fit in
      let (once_here, others_once) = both (stands_once k.tag k.kind indexed_keys) (all_once indexed_keys ks) once in
      step k.tag (text_asked k.kind (value_at k.tag (elements_of keys.attributes))) (first_of ks (elements_of keys.attributes) later) (key_same k.tag k.kind fits_here once_here) (table_same ks later others_fit others_once rest)

  range_same : (span : Option _) → keys.offset ≡ configured → Same (range_key span)
  unfolding values_of_row
  range_same None e = refl
  range_same (Some s) e = ap (λ (o : ℤ). spans (Some s) (start_of o (elements_of row))) e

  start_same : (o : Option Data) → Same (start_key configured keys.offset o)
  start_same None = refl
  start_same (Some (items is)) = refl
  start_same (Some (bytes b)) = here (is_universal_text b) (int_eq keys.offset configured) refl
    where
      here : (u q : Bool) → int_eq keys.offset configured ≡ q → Same (cond (u || not q) all (range_key (span_of keys.offset (without_padding b))))
      here true q e = refl
      here false false e = refl
      here false true e = range_same (span_of keys.offset (without_padding b)) ((signed_Decides keys.offset configured).0 e)

  -- what is stored of a row has the first indexed key of a query where the row matches it
  pub first_same : Same (first_key configured keys)
  unfolding first_key
  first_same = table_same indexed_keys (start_key configured keys.offset (value_at SCHEDULED_PROCEDURE_STEP_START_DATE_TIME (elements_of keys.attributes))) indexed_fit indexed_once (start_same (value_at SCHEDULED_PROCEDURE_STEP_START_DATE_TIME (elements_of keys.attributes)))

-- So the steps that have the first indexed key, by what is stored of them, are those of the rows that match it alone.
pub class_of_rows : (configured : ℤ) (keys : KeySet) (rows : List (List ℕ × List El)) → indexed_class (first_key configured keys) (map (λ r. (r.0, values_of_row configured r.1)) rows) ≡ map (λ r. r.0) (filter (λ r. meets_first keys.offset (first_key configured keys) (elements_of r.1)) rows)
class_of_rows configured keys [] = refl
class_of_rows configured keys (r ∷ rs) =
    ap (λ (b : Bool). map (λ (s : List ℕ × RowValues). s.0) (cond b ((r.0, values_of_row configured r.1) ∷ filter (λ s. has_first (first_key configured keys) s.1) (map (λ (q : List ℕ × List El). (q.0, values_of_row configured q.1)) rs)) (filter (λ s. has_first (first_key configured keys) s.1) (map (λ (q : List ℕ × List El). (q.0, values_of_row configured q.1)) rs)))) (sym (first_same configured keys r.1))
    ∙ here (meets_first keys.offset (first_key configured keys) (elements_of r.1)) (class_of_rows configured keys rs)
  where
    here : (b : Bool) → indexed_class (first_key configured keys) (map (λ q. (q.0, values_of_row configured q.1)) rs) ≡ map (λ q. q.0) (filter (λ q. meets_first keys.offset (first_key configured keys) (elements_of q.1)) rs)
        → map (λ (s : List ℕ × RowValues). s.0) (cond b ((r.0, values_of_row configured r.1) ∷ filter (λ s. has_first (first_key configured keys) s.1) (map (λ (q : List ℕ × List El). (q.0, values_of_row configured q.1)) rs)) (filter (λ s. has_first (first_key configured keys) s.1) (map (λ (q : List ℕ × List El). (q.0, values_of_row configured q.1)) rs)))
        ≡ map (λ (q : List ℕ × List El). q.0) (cond b (r ∷ filter (λ q. meets_first keys.offset (first_key configured keys) (elements_of q.1)) rs) (filter (λ q. meets_first keys.offset (first_key configured keys) (elements_of q.1)) rs))
    here true rest = ap (λ (t : List (List ℕ)). r.0 ∷ t) rest
    here false rest = rest

-- What is written is spelled again.
use Rattle.std.proofs.Common.{true, false, ◌≡◌, ◌≢◌, ◌<◌, ◌≤◌, ◌+◌, ◌%◌, ◌^◌, ℕ, Bool, inl, inr, List, [], ◌++◌, length, refl, sym, ap, subst, ◌∙◌, arith, append_assoc}
use Rattle.std.proofs.lemmas.List.{length-append}
use Rattle.ups_dataset.specs.declared.tag.Tag.{Tag}
use Rattle.ups_dataset.specs.Limits.{max_depth, max_short_length, undefined_length}
use Rattle.ups_dataset.specs.declared.vr.Vr.{Vr}
use Rattle.ups_dataset.specs.declared.vr.Vr.TheVariants.{Sq, Un}
use Rattle.ups_pdu.specs.declared.syntax.TransferSyntax.{TransferSyntax}
use Rattle.ups_pdu.specs.declared.syntax.TransferSyntax.TheVariants.{Implicit, Explicit}
use Rattle.ups_dataset.specs.declared.head.Reach.TheVariants.{Filled}
use Rattle.ups_dataset.specs.declared.head.Head.TheVariants.{Known}
use Rattle.ups_dataset.specs.Tag.{IsTag, number, tag_bytes, is_mark}
use Rattle.ups_dataset.specs.Vr.{letters, is_long}
use Rattle.ups_dataset.specs.Data.{Data, bytes, items, Items, no_items, item, Elements, no_elements, element, El, elements_of}
use Rattle.ups_dataset.specs.Valid.{depth_data, depth_items, depth_elements, IsValue, HoldsSets, AreElements, AreSets, IsDataSet}
use Rattle.ups_dataset.specs.Head.{IsHead, is_sequence, implicit_vr}
use Rattle.ups_dataset.specs.Spelling.{SpellsElements, SpellsValue, SpellsItems, SpellsSet, inside, kept, kept_data, kept_items}
use Rattle.ups_dataset.specs.Written.{written_length, written_head, written_elements, written_data, written_items, written, AreImplicit, IsImplicitData, AreImplicitItems, KeepsVrs}
use Rattle.ups_dataset.proofs.Depths.{within}
use Rattle.ups_dataset.proofs.Letters.{letters_two}

-- the same at each depth
abbrev AreKept : TransferSyntax → Elements → Type 0
AreKept Explicit es = Unit {0}
AreKept Implicit es = AreImplicit es

abbrev IsKeptData : TransferSyntax → Data → Type 0
IsKeptData Explicit d = Unit {0}
IsKeptData Implicit d = IsImplicitData d

abbrev AreKeptItems : TransferSyntax → Items → Type 0
AreKeptItems Explicit is = Unit {0}
AreKeptItems Implicit is = AreImplicitItems is

-- the representation that a reading gives back
abbrev IsRead : TransferSyntax → Tag → Vr → ℕ → Type 0
IsRead Implicit tag vr len = vr ≡ implicit_vr tag len
IsRead Explicit tag vr len = is_long vr ≡ false → len ≤ max_short_length

kept_parts : (syntax : TransferSyntax) (tag : Tag) (vr : Vr) (d : Data) (more : Elements) → AreKept syntax (element tag vr d more) → IsKeptData syntax d × AreKept syntax more
kept_parts Explicit tag vr d more h = (tt, tt)
kept_parts Implicit tag vr d more (_, hd, hm) = (hd, hm)

kept_item_parts : (syntax : TransferSyntax) (es : Elements) (more : Items) → AreKeptItems syntax (item es more) → AreKept syntax es × AreKeptItems syntax more
kept_item_parts Explicit es more h = (tt, tt)
kept_item_parts Implicit es more (he, hm) = (he, hm)

kept_items_of : (syntax : TransferSyntax) (is : Items) → IsKeptData syntax (items is) → AreKeptItems syntax is
kept_items_of Explicit is h = tt
kept_items_of Implicit is h = h

is_read : (syntax : TransferSyntax) (tag : Tag) (vr : Vr) (d : Data) (more : Elements) → IsValue vr d → AreKept syntax (element tag vr d more) → IsRead syntax tag vr (length (written_data syntax d))
is_read Implicit tag vr d more v (e, _, _) = e
is_read Explicit tag vr (bytes b) more (_, _, few) h = few
is_read Explicit tag vr (items is) more (s, _) h = λ short. let c : true ≡ false = sym (ap is_long s) ∙ short in absurd cc

letters_head : (tag : Tag) (vr : Vr) (len : ℕ) (rest : List ℕ) (b : Bool) → is_long vr ≡ b → IsTag tag → is_mark tag ≡ false → (is_long vr ≡ false → len ≤ max_short_length) → len < undefined_length
    → IsHead Explicit ((tag_bytes tag ++ (letters vr ++ written_length b len)) ++ rest) (Known tag vr len) rest
letters_head tag vr len rest true e low m say fits = (m, inr (record { reserved = 0; low = low; fits = omega (arith, fits); long = e; parts = ap (λ l. tag_bytes tag ++ l) (append_assoc (letters vr) (written_length true len) rest) }))
letters_head tag vr len rest false e low m say fits = (m, inl (record { low = low; fits = omega (arith, say e); short = e; parts = ap (λ l. tag_bytes tag ++ l) (append_assoc (letters vr) (written_length false len) rest) }))

head_again : (syntax : TransferSyntax) (tag : Tag) (vr : Vr) (len : ℕ) (rest : List ℕ) → IsTag tag → is_mark tag ≡ false → IsRead syntax tag vr len → len < undefined_length → IsHead syntax (written_head syntax tag vr len ++ rest) (Known tag vr len) rest
head_again Implicit tag vr len rest low m say fits = (m, say, record { low = low; fits = omega (arith, fits); parts = refl })
head_again Explicit tag vr len rest low m say fits = letters_head tag vr len rest (is_long vr) refl low m say fits

plain : (vr : Vr) (len : ℕ) → vr ≢ Sq → len < undefined_length → is_sequence vr len ≡ false
plain Sq len n l = absurd (n refl)
plain Un len n l = grind (arith, l)
plain vr len n l = refl

even_length : (b : Bool) (len : ℕ) → (length (written_length b len) % 2) ≡ 0
even_length true len = refl
even_length false len = refl

even_head : (syntax : TransferSyntax) (tag : Tag) (vr : Vr) (len : ℕ) → (length (written_head syntax tag vr len) % 2) ≡ 0
even_head Implicit tag vr len = refl
even_head Explicit tag vr len = omega (arith, letters_two vr, even_length (is_long vr) len, length-append (letters vr) (written_length (is_long vr) len))

mutual
  even_elements : (syntax : TransferSyntax) (low : ℕ) (es : Elements) → AreElements low es → (length (written_elements syntax es) % 2) ≡ 0
  even_elements syntax low no_elements h = refl
  even_elements syntax low (element tag vr d more) (_, _, is, sets, later) =
      omega (arith, even_head syntax tag vr (length (written_data syntax d)), even_data syntax vr d is.value sets, even_elements syntax (number tag + 1) more later, length-append (written_head syntax tag vr (length (written_data syntax d)) ++ written_data syntax d) (written_elements syntax more), length-append (written_head syntax tag vr (length (written_data syntax d))) (written_data syntax d))

  even_data : (syntax : TransferSyntax) (vr : Vr) (d : Data) → IsValue vr d → HoldsSets d → (length (written_data syntax d) % 2) ≡ 0
  even_data syntax vr (bytes b) (_, e, _) h = e
  even_data syntax vr (items is) v h = even_items syntax is h

  even_items : (syntax : TransferSyntax) (is : Items) → AreSets is → (length (written_items syntax is) % 2) ≡ 0
  even_items syntax no_items h = refl
  even_items syntax (item es more) (he, hm) = omega (arith, even_elements syntax 0 es he, even_items syntax more hm, length-append (written_elements syntax es) (written_items syntax more))

head_long : (syntax : TransferSyntax) (tag : Tag) (vr : Vr) (len : ℕ) → 2 ≤ length (written_head syntax tag vr len)
head_long Implicit tag vr len = omega arith
head_long Explicit tag vr len = omega arith

inside_same : (syntax : TransferSyntax) (vr : Vr) → vr ≡ Sq → inside syntax vr ≡ syntax
inside_same syntax vr e = ap (λ v. inside syntax v) e

mutual
  again_elements : (syntax : TransferSyntax) (level low : ℕ) (es : Elements) → level + depth_elements es ≤ max_depth → AreElements low es → AreKept syntax es → length (written_elements syntax es) < 2 ^ 32 → SpellsElements syntax level Filled low (written_elements syntax es) es []
  again_elements syntax level low no_elements deep h k l = (refl, refl)
  again_elements syntax level low (element tag vr d more) deep (rises, small, is, sets, later) k l =
      let head = written_head syntax tag vr (length (written_data syntax d)) in
      let data_bytes = written_data syntax d in
      let rest = written_elements syntax more in
      let sum = length-append (head ++ data_bytes) rest in
      let sum_too = length-append head data_bytes in
      let long = head_long syntax tag vr (length data_bytes) in
      let fits : length data_bytes < undefined_length = omega (arith, l, sum, sum_too, long) in
      let parts = kept_parts syntax tag vr d more k in (
        rest,
        vr,
        length data_bytes,
        data_bytes ++ rest,
        subst (λ (t : List ℕ). IsHead syntax t (Known tag vr (length data_bytes)) (data_bytes ++ rest)) (sym (append_assoc head data_bytes rest)) (head_again syntax tag vr (length data_bytes) (data_bytes ++ rest) small is.no_mark (is_read syntax tag vr d more is.value k) fits),
        rises,
        again_data syntax level vr d rest (omega (arith, deep)) is.value sets parts.0 fits,
        again_elements syntax level (number tag + 1) more (omega (arith, deep)) later parts.1 (omega (arith, l, sum)),
      )

  again_data : (syntax : TransferSyntax) (level : ℕ) (vr : Vr) (d : Data) (rest : List ℕ) → level + depth_data d ≤ max_depth → IsValue vr d → HoldsSets d → IsKeptData syntax d → length (written_data syntax d) < undefined_length → SpellsValue syntax level vr (length (written_data syntax d)) (written_data syntax d ++ rest) vr d rest
  again_data syntax level vr (bytes b) rest deep (n, e, _) sets k fits = (plain vr (length b) n fits, refl, fits, e, refl, refl)
  again_data syntax level vr (items is) rest deep (s, _) sets k fits = (
    ap (λ v. is_sequence v (length (written_items syntax is))) s,
    s,
    Filled,
    written_items syntax is,
    [],
    (fits, even_items syntax is sets, refl, refl, refl),
    subst (λ (x : TransferSyntax). SpellsItems x level Filled (written_items syntax is) is []) (sym (inside_same syntax vr s)) (again_items syntax level is deep sets (kept_items_of syntax is k) (omega (arith, fits))),
  )

  again_items : (syntax : TransferSyntax) (level : ℕ) (is : Items) → level + depth_items is ≤ max_depth → AreSets is → AreKeptItems syntax is → length (written_items syntax is) < undefined_length → SpellsItems syntax level Filled (written_items syntax is) is []
  again_items syntax level no_items deep h k l = (refl, refl)
  again_items syntax level (item es more) deep (he, hm) k l =
      let body = written_elements syntax es in
      let rest = written_items syntax more in
      let sum = length-append body rest in
      let parts = kept_item_parts syntax es more k in (
        rest,
        length body,
        body ++ rest,
        record { low = record { group = omega arith; element = omega arith }; fits = omega (arith, l, sum); parts = refl },
        omega (arith, deep),
        Filled,
        body,
        [],
        (omega (arith, l, sum), even_elements syntax 0 es he, refl, refl, refl),
        again_elements syntax (level + 1) 0 es (omega (arith, deep)) he parts.0 (omega (arith, l, sum)),
        again_items syntax level more (omega (arith, deep)) hm parts.1 (omega (arith, l, sum)),
      )

-- a data set has no group lengths
mutual
  kept_elements : (low : ℕ) (es : Elements) → AreElements low es → kept es ≡ es
  kept_elements low no_elements h = refl
  kept_elements low (element tag vr d more) (_, _, is, sets, later) =
      let a = kept_of d sets in
      let b = kept_elements (number tag + 1) more later in
      rw is.no_group_length (λ i. element tag vr (a i) (b i))

  kept_of : (d : Data) → HoldsSets d → kept_data d ≡ d
  kept_of (bytes b) h = refl
  kept_of (items is) h = ap (λ l. items l) (kept_in is h)

  kept_in : (is : Items) → AreSets is → kept_items is ≡ is
  kept_in no_items h = refl
  kept_in (item es more) (he, hm) =
      let a = kept_elements 0 es he in
      let b = kept_in more hm in
      (λ i. item (a i) (b i))

kept_vrs : (syntax : TransferSyntax) (set : List El) → KeepsVrs syntax set → AreKept syntax (elements_of set)
kept_vrs Explicit set h = tt
kept_vrs Implicit set h = h

-- without letters no header is longer
head_shorter : (tag : Tag) (vr : Vr) (m n : ℕ) → length (written_head Implicit tag vr m) ≤ length (written_head Explicit tag vr n)
head_shorter tag vr m n = omega (arith, letters_two vr, length-append (letters vr) (written_length (is_long vr) n), shortest (is_long vr) n)
  where
    shortest : (b : Bool) (n : ℕ) → 2 ≤ length (written_length b n)
    shortest true n = omega arith
    shortest false n = omega arith

mutual
  shorter_elements : (es : Elements) → length (written_elements Implicit es) ≤ length (written_elements Explicit es)
  shorter_elements no_elements = omega arith
  shorter_elements (element tag vr d more) =
      let m = length (written_data Implicit d) in
      let n = length (written_data Explicit d) in
      omega (
        arith,
        head_shorter tag vr m n,
        shorter_data d,
        shorter_elements more,
        length-append (written_head Implicit tag vr m ++ written_data Implicit d) (written_elements Implicit more),
        length-append (written_head Implicit tag vr m) (written_data Implicit d),
        length-append (written_head Explicit tag vr n ++ written_data Explicit d) (written_elements Explicit more),
        length-append (written_head Explicit tag vr n) (written_data Explicit d),
      )

  shorter_data : (d : Data) → length (written_data Implicit d) ≤ length (written_data Explicit d)
  shorter_data (bytes b) = omega arith
  shorter_data (items is) = shorter_items is

  shorter_items : (is : Items) → length (written_items Implicit is) ≤ length (written_items Explicit is)
  shorter_items no_items = omega arith
  shorter_items (item es more) =
      omega (arith, shorter_elements es, shorter_items more, length-append (written_elements Implicit es) (written_items Implicit more), length-append (written_elements Explicit es) (written_items Explicit more))

pub small_enough : (syntax : TransferSyntax) (set : List El) → length (written Explicit set) < 2 ^ 32 → length (written syntax set) < 2 ^ 32
small_enough Explicit set l = l
small_enough Implicit set l = omega (arith, l, shorter_elements (elements_of set))

pub again : (syntax : TransferSyntax) (set : List El) (text : List ℕ) → IsDataSet set → length (written Explicit set) < 2 ^ 32 → text ≡ written syntax set → KeepsVrs syntax set → SpellsSet syntax text set
again syntax set text h l e k =
    rw e (elements_of set, again_elements syntax 0 0 (elements_of set) (omega (arith, within 0 (elements_of set) h)) h (kept_vrs syntax set k) (small_enough syntax set l), kept_elements 0 (elements_of set) h)

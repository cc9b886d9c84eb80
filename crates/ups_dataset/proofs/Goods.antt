-- What a header without a fault says.
use Rattle.std.proofs.Common.{true, false, ◌≡◌, ◌≢◌, ℕ, Bool, ◌<◌, ◌≤◌, ◌+◌, ◌%◌, ◌⊎◌, inl, inr, Option, None, Some, List, ◌++◌, length, refl, sym, ap, ◌∙◌, arith, nat_lt, ◌==◌, if◌then◌else◌}
use Rattle.std.proofs.lemmas.List.{length-append}
use Rattle.ups_dataset.specs.declared.tag.Tag.{Tag}
use Rattle.ups_dataset.specs.Limits.{max_depth, undefined_length}
use Rattle.ups_dataset.specs.declared.vr.Vr.{Vr}
use Rattle.ups_pdu.specs.declared.syntax.TransferSyntax.{TransferSyntax}
use Rattle.ups_pdu.specs.declared.syntax.TransferSyntax.TheVariants.{Implicit, Explicit}
use Rattle.ups_dataset.specs.declared.head.Reach.{Reach}
use Rattle.ups_dataset.specs.declared.head.Reach.TheVariants.{Filled, Ended}
use Rattle.ups_dataset.specs.declared.head.Head.{Head}
use Rattle.ups_dataset.specs.declared.head.Head.TheVariants.{Known, Strange, Mark}
use Rattle.ups_dataset.specs.declared.fault.SetFault.{SetFault}
use Rattle.ups_dataset.specs.declared.fault.SetFault.TheVariants.{Short, TagOrder, OddLength, Depth, BadItem}
use Rattle.std.specs.Int.{w16, w32, to_le_bytes}
use Rattle.ups_dataset.specs.Tag.{number, item_delimitation, sequence_delimitation}
use Rattle.ups_dataset.specs.Vr.{letters}
use Rattle.ups_dataset.specs.Head.{IsMark, IsHead, IsKnown, IsSequenceItem, IsLength, IsLeft, Ends, Spans, is_sequence, length_fault}
use Rattle.ups_dataset.specs.Data.{Data, bytes, items, Items, no_items, item, Elements, no_elements, element}
use Rattle.ups_dataset.specs.Spelling.{SpellsElements, SpellsValue, SpellsItems, inside}

stops : (b : Bool) (f : SetFault) (x : Option SetFault) → (if b then Some f else x) ≡ None → (b ≡ false) × (x ≡ None)
stops true f x e = absurd cc
stops false f x e = (refl, e)

goes : (b : Bool) (f : SetFault) (x : Option SetFault) → (if b then x else Some f) ≡ None → (b ≡ true) × (x ≡ None)
goes true f x e = (refl, e)
goes false f x e = absurd cc

either : (b : Bool) (x y : Option SetFault) → (if b then x else y) ≡ None → ((b ≡ true) × (x ≡ None)) ⊎ ((b ≡ false) × (y ≡ None))
either true x y e = inl (refl, e)
either false x y e = inr (refl, e)

good_length : (len room : ℕ) → length_fault len room ≡ None → ((len % 2) ≡ 0) × (len ≤ room)
good_length len room e =
    let a = goes ((len % 2) == 0) OddLength (if nat_lt room len then Some Short else None) e in
    let b = stops (nat_lt room len) Short None a.1 in
    (grind (arith, a.0), grind (arith, b.0))

pub known_rises : (syntax : TransferSyntax) (from : ℕ) (text : List ℕ) (tag : Tag) (vr : Vr) (len : ℕ) (after : List ℕ) → IsKnown syntax from text tag vr len after → from ≤ number tag
known_rises syntax from text tag vr len after k =
    let a = stops (nat_lt (number tag) from) TagOrder _ k.good in
    grind (arith, a.0)

pub mark_shorter : (text : List ℕ) (tag : Tag) (len : ℕ) (rest : List ℕ) → IsMark text tag len rest → length rest < length text
mark_shorter text tag len rest p = rw p.parts (omega arith)

pub head_shorter : (syntax : TransferSyntax) (text : List ℕ) (head : Head) (rest : List ℕ) → IsHead syntax text head rest → length rest < length text
head_shorter syntax text (Mark tag len) rest (m, p) = mark_shorter text tag len rest p
head_shorter Implicit text (Known tag vr len) rest (m, v, p) = mark_shorter text tag len rest p
head_shorter Explicit text (Known tag vr len) rest (m, inl p) = rw p.parts (omega (arith, length-append (letters vr) (to_le_bytes w16 len ++ rest)))
head_shorter Explicit text (Known tag vr len) rest (m, inr p) = rw p.parts (omega (arith, length-append (letters vr) (to_le_bytes w16 p.reserved ++ (to_le_bytes w32 len ++ rest))))
head_shorter Implicit text (Strange tag) rest h = absurd h
head_shorter Explicit text (Strange tag) rest (m, p) = rw p.parts (omega arith)

head_fits : (syntax : TransferSyntax) (text : List ℕ) (tag : Tag) (vr : Vr) (len : ℕ) (rest : List ℕ) → len ≢ undefined_length → IsHead syntax text (Known tag vr len) rest → len < undefined_length
head_fits Implicit text tag vr len rest e (m, v, p) = omega (arith, e, p.fits)
head_fits Explicit text tag vr len rest e (m, inl p) = omega (arith, e, p.fits)
head_fits Explicit text tag vr len rest e (m, inr p) = omega (arith, e, p.fits)

ends_shorter : (mark : Tag) (reach : Reach) (text rest : List ℕ) → Ends mark reach text rest → length rest ≤ length text
ends_shorter mark Filled text rest (e, r) = rw (e, r) (omega arith)
ends_shorter mark Ended text rest is = omega (arith, mark_shorter text mark 0 rest is)

ends_left : (mark : Tag) (reach : Reach) (text rest : List ℕ) → Ends mark reach text rest → IsLeft reach rest
ends_left mark Filled text rest (e, r) = r
ends_left mark Ended text rest is = tt

pub spans_shorter : (len : ℕ) (after : List ℕ) (reach : Reach) (inner left rest : List ℕ) → Spans len after reach inner left rest → length left ≤ length inner → length rest ≤ length after
spans_shorter len after Filled inner left rest (_, _, _, parts, _) l = rw parts (omega (arith, length-append inner rest))
spans_shorter len after Ended inner left rest (_, i, r) l = omega (arith, l, ap length i, ap length r)

pub known_length : (syntax : TransferSyntax) (from : ℕ) (text : List ℕ) (tag : Tag) (vr : Vr) (len : ℕ) (after : List ℕ) → IsKnown syntax from text tag vr len after → IsLength len (length after)
known_length syntax from text tag vr len after k =
    let a = stops (nat_lt (number tag) from) TagOrder _ k.good in
    elim (either (len == undefined_length) (if is_sequence vr len then None else Some BadItem) (length_fault len (length after)) a.1) [
      | inl (e, _) ↦ inl (grind (arith, e))
      | inr (e, g) ↦ let l = good_length len (length after) g in inr (head_fits syntax text tag vr len after (grind (arith, e)) k.head, l.0, l.1)
    ]

pub known_bytes : (syntax : TransferSyntax) (from : ℕ) (text : List ℕ) (tag : Tag) (vr : Vr) (len : ℕ) (after : List ℕ) → IsKnown syntax from text tag vr len after → is_sequence vr len ≡ false → len < undefined_length
known_bytes syntax from text tag vr len after k plain =
    let a = stops (nat_lt (number tag) from) TagOrder _ k.good in
    elim (either (len == undefined_length) (if is_sequence vr len then None else Some BadItem) (length_fault len (length after)) a.1) [
      | inl (_, e) ↦ let s = goes (is_sequence vr len) BadItem None e in let b : false ≡ true = sym plain ∙ s.0 in absurd cc
      | inr (e, g) ↦ head_fits syntax text tag vr len after (grind (arith, e)) k.head
    ]

-- each rest is shorter
mutual
  pub elements_shorter : (syntax : TransferSyntax) (level : ℕ) (reach : Reach) (from : ℕ) (text : List ℕ) (es : Elements) (rest : List ℕ) → SpellsElements syntax level reach from text es rest → length rest ≤ length text
  elements_shorter syntax level reach from text no_elements rest e = ends_shorter item_delimitation reach text rest e
  elements_shorter syntax level reach from text (element tag vr d more) rest (next, head_vr, len, after, is, low, value, later) =
      omega (arith, head_shorter syntax text (Known tag head_vr len) after is, data_shorter syntax level head_vr len after vr d next value, elements_shorter syntax level reach (number tag + 1) next more rest later)

  pub data_shorter : (syntax : TransferSyntax) (level : ℕ) (head_vr : Vr) (len : ℕ) (after : List ℕ) (vr : Vr) (d : Data) (next : List ℕ) → SpellsValue syntax level head_vr len after vr d next → length next ≤ length after
  data_shorter syntax level head_vr len after vr (bytes b) next (_, _, _, _, _, parts) = rw parts (omega (arith, length-append b next))
  data_shorter syntax level head_vr len after vr (items is) next (_, _, reach, inner, left, spans, spelled) = spans_shorter len after reach inner left next spans (items_shorter (inside syntax head_vr) level reach inner is left spelled)

  pub items_shorter : (syntax : TransferSyntax) (level : ℕ) (reach : Reach) (text : List ℕ) (is : Items) (rest : List ℕ) → SpellsItems syntax level reach text is rest → length rest ≤ length text
  items_shorter syntax level reach text no_items rest e = ends_shorter sequence_delimitation reach text rest e
  items_shorter syntax level reach text (item es more) rest (next, len, after, is, low, within, inner, left, spans, spelled, later) =
      omega (arith, mark_shorter text _ len after is, spans_shorter len after within inner left next spans (elements_shorter syntax (level + 1) within 0 inner es left spelled), items_shorter syntax level reach next more rest later)

-- nothing is left where the inside fills its bytes
pub elements_left : (syntax : TransferSyntax) (level : ℕ) (reach : Reach) (from : ℕ) (text : List ℕ) (es : Elements) (rest : List ℕ) → SpellsElements syntax level reach from text es rest → IsLeft reach rest
elements_left syntax level reach from text no_elements rest e = ends_left item_delimitation reach text rest e
elements_left syntax level reach from text (element tag vr d more) rest (next, head_vr, len, after, is, low, value, later) = elements_left syntax level reach (number tag + 1) next more rest later

pub items_left : (syntax : TransferSyntax) (level : ℕ) (reach : Reach) (text : List ℕ) (is : Items) (rest : List ℕ) → SpellsItems syntax level reach text is rest → IsLeft reach rest
items_left syntax level reach text no_items rest e = ends_left sequence_delimitation reach text rest e
items_left syntax level reach text (item es more) rest (next, len, after, is, low, within, inner, left, spans, spelled, later) = items_left syntax level reach next more rest later

pub item_deep : (level : ℕ) (text : List ℕ) (len : ℕ) (after : List ℕ) → IsSequenceItem level text len after → level < max_depth
item_deep level text len after k =
    elim (either (len == undefined_length) (if nat_lt level max_depth then None else Some Depth) (if (len % 2) == 0 then (if nat_lt (length after) len then Some Short else (if nat_lt level max_depth then None else Some Depth)) else Some OddLength) k.good) [
      | inl (_, e) ↦ let s = goes (nat_lt level max_depth) Depth None e in grind (arith, s.0)
      | inr (_, e) ↦ let a = goes ((len % 2) == 0) OddLength _ e in let b = stops (nat_lt (length after) len) Short _ a.1 in let s = goes (nat_lt level max_depth) Depth None b.1 in grind (arith, s.0)
    ]

pub bytes_data : (syntax : TransferSyntax) (level : ℕ) (vr : Vr) (len : ℕ) (after b next : List ℕ) → is_sequence vr len ≡ false → len < undefined_length → IsLength len (length after) → length b ≡ len → after ≡ b ++ next → SpellsValue syntax level vr len after vr (bytes b) next
bytes_data syntax level vr len after b next plain low (inl e) l p = absurd (omega (arith, e, low))
bytes_data syntax level vr len after b next plain low (inr (_, even, _)) l p = (plain, refl, low, even, l, p)

pub known_shorter : (syntax : TransferSyntax) (from : ℕ) (text : List ℕ) (tag : Tag) (vr : Vr) (len : ℕ) (after : List ℕ) → IsKnown syntax from text tag vr len after → length after < length text
known_shorter syntax from text tag vr len after k = head_shorter syntax text (Known tag vr len) after k.head

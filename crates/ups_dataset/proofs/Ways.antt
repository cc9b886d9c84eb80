-- One way to read, and nothing is spelled where something fails.
use Rattle.std.proofs.Common.{true, false, ◌≡◌, ℕ, Bool, ◌<◌, ◌≤◌, ◌+◌, ◌%◌, ◌⊎◌, inl, inr, Option, None, Some, List, length, refl, sym, ap, subst, ◌∙◌, arith, nat_lt, ◌==◌, if◌then◌else◌}
use Rattle.std.proofs.lemmas.List.{length-append}
use Rattle.ups_dataset.specs.declared.tag.Tag.{Tag}
use Rattle.ups_dataset.specs.Limits.{max_depth, undefined_length}
use Rattle.ups_dataset.specs.declared.vr.Vr.{Vr}
use Rattle.ups_dataset.specs.declared.vr.Vr.TheVariants.{Un}
use Rattle.ups_pdu.specs.declared.syntax.TransferSyntax.{TransferSyntax}
use Rattle.ups_dataset.specs.declared.head.Reach.{Reach}
use Rattle.ups_dataset.specs.declared.head.Reach.TheVariants.{Filled, Ended}
use Rattle.ups_dataset.specs.declared.head.Head.{Head}
use Rattle.ups_dataset.specs.declared.head.Head.TheVariants.{Known, Strange, Mark}
use Rattle.ups_dataset.specs.declared.fault.SetFault.{SetFault}
use Rattle.ups_dataset.specs.declared.fault.SetFault.TheVariants.{Short, BadItem, Memory}
use Rattle.ups_dataset.specs.Head.{IsMark, IsHead, HeadFails, ItemHeadFails, Ends, Spans, Opens, is_sequence, head_fault, item_fault}
use Rattle.ups_dataset.specs.Data.{Data, bytes, items, Items, no_items, item, Elements, no_elements, element}
use Rattle.ups_dataset.specs.Spelling.{SpellsElements, SpellsValue, SpellsItems, inside}
use Rattle.ups_dataset.specs.Failing.{ElementsFail, ValueFails, ItemsFail, at_head, in_value, behind_value, in_items, at_item, in_item, behind_item}
use Rattle.ups_dataset.specs.Tag.{number, item_tag, item_delimitation, sequence_delimitation}
use Rattle.ups_pdu.proofs.Parts.{same_parts}
use Rattle.ups_dataset.proofs.Heads.{one_mark, one_head, begins, mark_begins, not_both, head_tag}

abbrev vr_in : Head → Vr
vr_in (Known tag vr len) = vr
vr_in (Strange tag) = Un
vr_in (Mark tag len) = Un

abbrev len_in : Head → ℕ
len_in (Known tag vr len) = len
len_in (Strange tag) = 0
len_in (Mark tag len) = len

-- two headers at the front are one
pub record Same (j k : Tag) (v w : Vr) (m n : ℕ) (x y : List ℕ) : Type 0 where
  pub tags : j ≡ k
  pub vrs : v ≡ w
  pub lens : m ≡ n
  pub rests : x ≡ y

pub same_heads : (syntax : TransferSyntax) (text : List ℕ) (j k : Tag) (v w : Vr) (m n : ℕ) (x y : List ℕ) → IsHead syntax text (Known j v m) x → IsHead syntax text (Known k w n) y → Same j k v w m n x y
same_heads syntax text j k v w m n x y p q =
    let e = one_head syntax text (Known j v m) (Known k w n) x y p q in
    record { tags = ap head_tag e.0; vrs = ap vr_in e.0; lens = ap len_in e.0; rests = e.1 }

pub ends_head : (syntax : TransferSyntax) (reach : Reach) (text rest : List ℕ) (tag : Tag) (vr : Vr) (len : ℕ) (after : List ℕ) → Ends item_delimitation reach text rest → IsHead syntax text (Known tag vr len) after → ⊥
ends_head syntax Filled text rest tag vr len after (e, _) h = omega (arith, ap length e, (begins syntax text (Known tag vr len) after h).long)
ends_head syntax Ended text rest tag vr len after e h = not_both text item_delimitation tag (mark_begins text item_delimitation 0 rest true refl e) (begins syntax text (Known tag vr len) after h)

pub ends_item : (reach : Reach) (text rest : List ℕ) (len : ℕ) (after : List ℕ) → Ends sequence_delimitation reach text rest → IsMark text item_tag len after → ⊥
ends_item Filled text rest len after (e, _) h = omega (arith, ap length e, (mark_begins text item_tag len after true refl h).long)
ends_item Ended text rest len after e h = omega (arith, ap (λ (t : Tag). t.element) (one_mark text sequence_delimitation item_tag 0 len rest after e h).0)

pub one_end : (mark : Tag) (reach : Reach) (text r s : List ℕ) → Ends mark reach text r → Ends mark reach text s → r ≡ s
one_end mark Filled text r s (_, p) (_, q) = p ∙ sym q
one_end mark Ended text r s p q = (one_mark text mark mark 0 0 r s p q).2

-- the inside of a length is known
pub one_inside : (len : ℕ) (after : List ℕ) (reach within : Reach) (inner left rest inner' left' rest' : List ℕ) → Spans len after reach inner left rest → Spans len after within inner' left' rest' → (reach ≡ within) × (inner ≡ inner')
one_inside len after Filled Filled inner left rest inner' left' rest' (_, _, l, p, _) (_, _, m, q, _) = (refl, (same_parts inner inner' rest rest' (l ∙ sym m) (sym p ∙ q)).0)
one_inside len after Ended Ended inner left rest inner' left' rest' (_, p, _) (_, q, _) = (refl, p ∙ sym q)
one_inside len after Filled Ended inner left rest inner' left' rest' p q = absurd (omega (arith, p.0, q.0))
one_inside len after Ended Filled inner left rest inner' left' rest' p q = absurd (omega (arith, p.0, q.0))

pub one_rest : (len : ℕ) (after : List ℕ) (reach : Reach) (inner left left' rest rest' : List ℕ) → left ≡ left' → Spans len after reach inner left rest → Spans len after reach inner left' rest' → rest ≡ rest'
one_rest len after Filled inner left left' rest rest' e (_, _, l, p, _) (_, _, m, q, _) = (same_parts inner inner rest rest' refl (sym p ∙ q)).1
one_rest len after Ended inner left left' rest rest' e (_, _, p) (_, _, q) = sym p ∙ e ∙ q

pub move_data : (syntax : TransferSyntax) (level : ℕ) (v w : Vr) (m n : ℕ) (x y : List ℕ) (vr : Vr) (d : Data) (next : List ℕ) → v ≡ w → m ≡ n → x ≡ y → SpellsValue syntax level w n y vr d next → SpellsValue syntax level v m x vr d next
move_data syntax level v w m n x y vr d next ev em ex s =
    subst (λ (a : List ℕ). SpellsValue syntax level v m a vr d next) (sym ex) (subst (λ (a : ℕ). SpellsValue syntax level v a y vr d next) (sym em) (subst (λ (a : Vr). SpellsValue syntax level a n y vr d next) (sym ev) s))

mutual
  pub one_elements : (syntax : TransferSyntax) (level : ℕ) (reach : Reach) (from : ℕ) (text : List ℕ) (es fs : Elements) (r s : List ℕ) → SpellsElements syntax level reach from text es r → SpellsElements syntax level reach from text fs s → (es ≡ fs) × (r ≡ s)
  one_elements syntax level reach from text no_elements no_elements r s p q = (refl, one_end item_delimitation reach text r s p q)
  one_elements syntax level reach from text no_elements (element tag vr d more) r s p (next, head_vr, len, after, is, low, value, later) = absurd (ends_head syntax reach text r tag head_vr len after p is)
  one_elements syntax level reach from text (element tag vr d more) no_elements r s (next, head_vr, len, after, is, low, value, later) p = absurd (ends_head syntax reach text s tag head_vr len after p is)
  one_elements syntax level reach from text (element j v d more) (element k w f later) r s (nj, hj, mj, aj, ij, lj, dj, ej) (nk, hk, mk, ak, ik, lk, dk, ek) =
      let same = same_heads syntax text j k hj hk mj mk aj ak ij ik in
      let values = one_data syntax level hj mj aj v d nj w f nk dj (move_data syntax level hj hk mj mk aj ak w f nk same.vrs same.lens same.rests dk) in
      let rest = one_elements syntax level reach (number j + 1) nj more later r s ej (subst (λ (l : List ℕ). SpellsElements syntax level reach (number j + 1) l later s) (sym values.2) (subst (λ (t : Tag). SpellsElements syntax level reach (number t + 1) nk later s) (sym same.tags) ek)) in
      (λ i. element (same.tags i) (values.0 i) (values.1 i) (rest.0 i), rest.1)

  pub one_data : (syntax : TransferSyntax) (level : ℕ) (head_vr : Vr) (len : ℕ) (after : List ℕ) (v : Vr) (d : Data) (r : List ℕ) (w : Vr) (f : Data) (s : List ℕ) → SpellsValue syntax level head_vr len after v d r → SpellsValue syntax level head_vr len after w f s → (v ≡ w) × (d ≡ f) × (r ≡ s)
  one_data syntax level head_vr len after v (bytes b) r w (bytes c) s (_, ev, _, _, lb, p) (_, ew, _, _, lc, q) =
      let parts = same_parts b c r s (lb ∙ sym lc) (sym p ∙ q) in
      (ev ∙ sym ew, ap (λ l. bytes l) parts.0, parts.1)
  one_data syntax level head_vr len after v (bytes b) r w (items is) s a c = let e : false ≡ true = sym a.0 ∙ c.0 in absurd cc
  one_data syntax level head_vr len after v (items is) r w (bytes b) s a c = let e : true ≡ false = sym a.0 ∙ c.0 in absurd cc
  one_data syntax level head_vr len after v (items is) r w (items js) s (_, ev, reach, inner, left, spans, spelled) (_, ew, within, inner', left', spans', spelled') =
      let same = one_inside len after reach within inner left r inner' left' s spans spans' in
      let again : SpellsItems (inside syntax head_vr) level reach inner js left' = subst (λ (l : List ℕ). SpellsItems (inside syntax head_vr) level reach l js left') (sym same.1) (subst (λ (c : Reach). SpellsItems (inside syntax head_vr) level c inner' js left') (sym same.0) spelled') in
      let spans_again : Spans len after reach inner left' s = subst (λ (l : List ℕ). Spans len after reach l left' s) (sym same.1) (subst (λ (c : Reach). Spans len after c inner' left' s) (sym same.0) spans') in
      let one = one_items (inside syntax head_vr) level reach inner is js left left' spelled again in
      (ev ∙ sym ew, ap (λ l. items l) one.0, one_rest len after reach inner left left' r s one.1 spans spans_again)

  pub one_items : (syntax : TransferSyntax) (level : ℕ) (reach : Reach) (text : List ℕ) (is js : Items) (r s : List ℕ) → SpellsItems syntax level reach text is r → SpellsItems syntax level reach text js s → (is ≡ js) × (r ≡ s)
  one_items syntax level reach text no_items no_items r s p q = (refl, one_end sequence_delimitation reach text r s p q)
  one_items syntax level reach text no_items (item es more) r s p (next, len, after, is, low, within, inner, left, spans, spelled, later) = absurd (ends_item reach text r len after p is)
  one_items syntax level reach text (item es more) no_items r s (next, len, after, is, low, within, inner, left, spans, spelled, later) p = absurd (ends_item reach text s len after p is)
  one_items syntax level reach text (item es more) (item fs later) r s (nj, mj, aj, ij, _, cj, bj, lj, sj, ej, tj) (nk, mk, ak, ik, _, ck, bk, lk, sk, ek, tk) =
      let marks = one_mark text item_tag item_tag mj mk aj ak ij ik in
      let moved : Spans mj aj ck bk lk nk = subst (λ (a : List ℕ). Spans mj a ck bk lk nk) (sym marks.2) (subst (λ (m : ℕ). Spans m ak ck bk lk nk) (sym marks.1) sk) in
      let same = one_inside mj aj cj ck bj lj nj bk lk nk sj moved in
      let again : SpellsElements syntax (level + 1) cj 0 bj fs lk = subst (λ (l : List ℕ). SpellsElements syntax (level + 1) cj 0 l fs lk) (sym same.1) (subst (λ (c : Reach). SpellsElements syntax (level + 1) c 0 bk fs lk) (sym same.0) ek) in
      let spans_again : Spans mj aj cj bj lk nk = subst (λ (l : List ℕ). Spans mj aj cj l lk nk) (sym same.1) (subst (λ (c : Reach). Spans mj aj c bk lk nk) (sym same.0) moved) in
      let one = one_elements syntax (level + 1) cj 0 bj es fs lj lk ej again in
      let rest = one_items syntax level reach nj more later r s tj (subst (λ (l : List ℕ). SpellsItems syntax level reach l later s) (sym (one_rest mj aj cj bj lj lk nj nk one.1 sj spans_again)) tk) in
      (λ i. item (one.0 i) (rest.0 i), rest.1)

-- what is spelled has no fault at its header
pub good_head : (from : ℕ) (tag : Tag) (vr : Vr) (len room : ℕ) → from ≤ number tag → ((len ≡ undefined_length) × (is_sequence vr len ≡ true)) ⊎ ((len < undefined_length) × ((len % 2) ≡ 0) × (len ≤ room)) → head_fault from (Known tag vr len) room ≡ None
good_head from tag vr len room low (inl (e, s)) =
    let a : nat_lt (number tag) from ≡ false = grind (arith, low) in
    let b : (len == undefined_length) ≡ true = grind (arith, e) in
    rw (a, b, s) refl
good_head from tag vr len room low (inr (l, even, fits)) =
    let a : nat_lt (number tag) from ≡ false = grind (arith, low) in
    let b : (len == undefined_length) ≡ false = grind (arith, l) in
    let c : ((len % 2) == 0) ≡ true = grind (arith, even) in
    let d : nat_lt room len ≡ false = grind (arith, fits) in
    rw (a, b, c, d) refl

spans_length : (len : ℕ) (after : List ℕ) (reach : Reach) (inner left rest : List ℕ) → Spans len after reach inner left rest → (len ≡ undefined_length) ⊎ ((len < undefined_length) × ((len % 2) ≡ 0) × (len ≤ length after))
spans_length len after Filled inner left rest (l, even, e, p, _) = inr (l, even, omega (arith, e, ap length p, length-append inner rest))
spans_length len after Ended inner left rest (e, _, _) = inl e

pub spelled_good : (syntax : TransferSyntax) (level from : ℕ) (tag : Tag) (head_vr : Vr) (len : ℕ) (after : List ℕ) (vr : Vr) (d : Data) (next : List ℕ) → from ≤ number tag → SpellsValue syntax level head_vr len after vr d next → head_fault from (Known tag head_vr len) (length after) ≡ None
spelled_good syntax level from tag head_vr len after vr (bytes b) next low (_, _, l, even, e, p) = good_head from tag head_vr len (length after) low (inr (l, even, omega (arith, e, ap length p, length-append b next)))
spelled_good syntax level from tag head_vr len after vr (items is) next low (s, _, reach, inner, left, spans, _) = elim (spans_length len after reach inner left next spans) [
  | inl e ↦ good_head from tag head_vr len (length after) low (inl (e, s))
  | inr r ↦ good_head from tag head_vr len (length after) low (inr r)
]

pub good_item : (level len : ℕ) (after : List ℕ) (reach : Reach) (inner left rest : List ℕ) → level < max_depth → Spans len after reach inner left rest → item_fault level len (length after) ≡ None
good_item level len after reach inner left rest low spans = elim (spans_length len after reach inner left rest spans) [
  | inl e ↦ (let b : (len == undefined_length) ≡ true = grind (arith, e) in let d : nat_lt level max_depth ≡ true = grind (arith, low) in rw (b, d) refl)
  | inr (l, even, fits) ↦ (let b : (len == undefined_length) ≡ false = grind (arith, l) in let c : ((len % 2) == 0) ≡ true = grind (arith, even) in let r : nat_lt (length after) len ≡ false = grind (arith, fits) in let d : nat_lt level max_depth ≡ true = grind (arith, low) in rw (b, c, r, d) refl)
]

opens_spans : (len : ℕ) (after : List ℕ) (within : Reach) (inner' : List ℕ) (reach : Reach) (inner left rest : List ℕ) → Opens len after within inner' → Spans len after reach inner left rest → (within ≡ reach) × (inner' ≡ inner)
opens_spans len after Filled inner' Filled inner left rest (_, m, r, q) (_, _, l, p, _) = (refl, (same_parts inner' inner r rest (m ∙ sym l) (sym q ∙ p)).0)
opens_spans len after Ended inner' Ended inner left rest (_, q) (_, p, _) = (refl, q ∙ sym p)
opens_spans len after Filled inner' Ended inner left rest p q = absurd (omega (arith, p.0, q.0))
opens_spans len after Ended inner' Filled inner left rest p q = absurd (omega (arith, p.0, q.0))

head_not : (syntax : TransferSyntax) (from : ℕ) (text : List ℕ) (fault : SetFault) (tag : Tag) (vr : Vr) (len : ℕ) (after : List ℕ) → HeadFails syntax from text fault → IsHead syntax text (Known tag vr len) after → head_fault from (Known tag vr len) (length after) ≡ None → ⊥
head_not syntax from text fault tag vr len after (inl (_, none)) is good = none (Known tag vr len) after is
head_not syntax from text fault tag vr len after (inr (head, rest, h, e)) is good =
    let same = one_head syntax text head (Known tag vr len) rest after h is in
    let clash : Some fault ≡ None = sym e ∙ (λ i. head_fault from (same.0 i) (length (same.1 i))) ∙ good in
    absurd cc

item_not : (level : ℕ) (text : List ℕ) (fault : SetFault) (len : ℕ) (after : List ℕ) → ItemHeadFails level text fault → IsMark text item_tag len after → item_fault level len (length after) ≡ None → ⊥
item_not level text fault len after (inl (_, short)) is good = omega (arith, short, (mark_begins text item_tag len after true refl is).long)
item_not level text fault len after (inr (inl (_, tag, m, rest, h, other))) is good = other (one_mark text tag item_tag m len rest after h is).0
item_not level text fault len after (inr (inr (m, rest, h, e))) is good =
    let same = one_mark text item_tag item_tag m len rest after h is in
    let clash : Some fault ≡ None = sym e ∙ (λ i. item_fault level (same.1 i) (length (same.2 i))) ∙ good in
    absurd cc

-- nothing is spelled where something fails
mutual
  pub not_elements : (syntax : TransferSyntax) (level : ℕ) (reach : Reach) (from : ℕ) (text : List ℕ) (fault : SetFault) (es : Elements) (rest : List ℕ) → ElementsFail syntax level reach from text fault → SpellsElements syntax level reach from text es rest → ⊥
  not_elements syntax level reach from text fault no_elements rest (at_head _ _ _ _ _ _ noend bad) p = noend rest p
  not_elements syntax level reach from text fault no_elements rest (in_value _ _ _ _ _ _ tag vr len after noend known bad) p = noend rest p
  not_elements syntax level reach from text fault no_elements rest (behind_value _ _ _ _ _ _ tag vr len after kept d next noend known value bad) p = noend rest p
  not_elements syntax level reach from text fault (element k w f later) rest (at_head _ _ _ _ _ _ noend bad) (nk, hk, mk, ak, ik, lk, dk, ek) =
      head_not syntax from text fault k hk mk ak bad ik (spelled_good syntax level from k hk mk ak w f nk lk dk)
  not_elements syntax level reach from text fault (element k w f later) rest (in_value _ _ _ _ _ _ tag vr len after noend known bad) (nk, hk, mk, ak, ik, lk, dk, ek) =
      let same = same_heads syntax text tag k vr hk len mk after ak known.head ik in
      not_value syntax level vr len after fault w f nk bad (move_data syntax level vr hk len mk after ak w f nk same.vrs same.lens same.rests dk)
  not_elements syntax level reach from text fault (element k w f later) rest (behind_value _ _ _ _ _ _ tag vr len after kept d next noend known value bad) (nk, hk, mk, ak, ik, lk, dk, ek) =
      let same = same_heads syntax text tag k vr hk len mk after ak known.head ik in
      let values = one_data syntax level vr len after kept d next w f nk value (move_data syntax level vr hk len mk after ak w f nk same.vrs same.lens same.rests dk) in
      not_elements syntax level reach (number tag + 1) next fault later rest bad (subst (λ (l : List ℕ). SpellsElements syntax level reach (number tag + 1) l later rest) (sym values.2) (subst (λ (t : Tag). SpellsElements syntax level reach (number t + 1) nk later rest) (sym same.tags) ek))

  pub not_value : (syntax : TransferSyntax) (level : ℕ) (vr : Vr) (len : ℕ) (after : List ℕ) (fault : SetFault) (kept : Vr) (d : Data) (next : List ℕ) → ValueFails syntax level vr len after fault → SpellsValue syntax level vr len after kept d next → ⊥
  not_value syntax level vr len after fault kept (bytes b) next (in_items _ _ _ _ _ _ reach inner is opens bad) p = let e : true ≡ false = sym is ∙ p.0 in absurd cc
  not_value syntax level vr len after fault kept (items js) next (in_items _ _ _ _ _ _ reach inner is opens bad) (_, _, within, inner', left, spans, spelled) =
      let same = opens_spans len after reach inner within inner' left next opens spans in
      not_items (inside syntax vr) level reach inner fault js left bad (subst (λ (l : List ℕ). SpellsItems (inside syntax vr) level reach l js left) (sym same.1) (subst (λ (c : Reach). SpellsItems (inside syntax vr) level c inner' js left) (sym same.0) spelled))

  pub not_items : (syntax : TransferSyntax) (level : ℕ) (reach : Reach) (text : List ℕ) (fault : SetFault) (is : Items) (rest : List ℕ) → ItemsFail syntax level reach text fault → SpellsItems syntax level reach text is rest → ⊥
  not_items syntax level reach text fault no_items rest (at_item _ _ _ _ _ noend bad) p = noend rest p
  not_items syntax level reach text fault no_items rest (in_item _ _ _ _ _ len after within inner noend is opens bad) p = noend rest p
  not_items syntax level reach text fault no_items rest (behind_item _ _ _ _ _ len after within inner left next es noend is spans spelled bad) p = noend rest p
  not_items syntax level reach text fault (item fs later) rest (at_item _ _ _ _ _ noend bad) (nk, mk, ak, ik, dk, ck, bk, lk, sk, ek, tk) =
      item_not level text fault mk ak bad ik (good_item level mk ak ck bk lk nk dk sk)
  not_items syntax level reach text fault (item fs later) rest (in_item _ _ _ _ _ len after within inner noend is opens bad) (nk, mk, ak, ik, dk, ck, bk, lk, sk, ek, tk) =
      let marks = one_mark text item_tag item_tag len mk after ak is.head ik in
      let moved : Spans len after ck bk lk nk = subst (λ (a : List ℕ). Spans len a ck bk lk nk) (sym marks.2) (subst (λ (m : ℕ). Spans m ak ck bk lk nk) (sym marks.1) sk) in
      let same = opens_spans len after within inner ck bk lk nk opens moved in
      not_elements syntax (level + 1) within 0 inner fault fs lk bad (subst (λ (l : List ℕ). SpellsElements syntax (level + 1) within 0 l fs lk) (sym same.1) (subst (λ (c : Reach). SpellsElements syntax (level + 1) c 0 bk fs lk) (sym same.0) ek))
  not_items syntax level reach text fault (item fs later) rest (behind_item _ _ _ _ _ len after within inner left next es noend is spans spelled bad) (nk, mk, ak, ik, dk, ck, bk, lk, sk, ek, tk) =
      let marks = one_mark text item_tag item_tag len mk after ak is.head ik in
      let moved : Spans len after ck bk lk nk = subst (λ (a : List ℕ). Spans len a ck bk lk nk) (sym marks.2) (subst (λ (m : ℕ). Spans m ak ck bk lk nk) (sym marks.1) sk) in
      let same = one_inside len after within ck inner left next bk lk nk spans moved in
      let again : SpellsElements syntax (level + 1) within 0 inner fs lk = subst (λ (l : List ℕ). SpellsElements syntax (level + 1) within 0 l fs lk) (sym same.1) (subst (λ (c : Reach). SpellsElements syntax (level + 1) c 0 bk fs lk) (sym same.0) ek) in
      let spans_again : Spans len after within inner lk nk = subst (λ (l : List ℕ). Spans len after within l lk nk) (sym same.1) (subst (λ (c : Reach). Spans len after c bk lk nk) (sym same.0) moved) in
      let one = one_elements syntax (level + 1) within 0 inner es fs left lk spelled again in
      not_items syntax level reach next fault later rest bad (subst (λ (l : List ℕ). SpellsItems syntax level reach l later rest) (sym (one_rest len after within inner left lk next nk one.1 spans spans_again)) tk)

-- no fault of a header is lack of memory
if_never : (b : Bool) (x y : Option SetFault) → (x ≡ Some Memory → ⊥) → (y ≡ Some Memory → ⊥) → (if b then x else y) ≡ Some Memory → ⊥
if_never true x y p q e = p e
if_never false x y p q e = q e

head_never : (from : ℕ) (head : Head) (room : ℕ) → head_fault from head room ≡ Some Memory → ⊥
head_never from (Known tag vr len) room = if_never (nat_lt (number tag) from) _ _ (λ e. absurd cc) (if_never (len == undefined_length) _ _ (if_never (is_sequence vr len) _ _ (λ e. absurd cc) (λ e. absurd cc)) (if_never ((len % 2) == 0) _ _ (if_never (nat_lt room len) _ _ (λ e. absurd cc) (λ e. absurd cc)) (λ e. absurd cc)))
head_never from (Strange tag) room = if_never (nat_lt (number tag) from) _ _ (λ e. absurd cc) (λ e. absurd cc)
head_never from (Mark tag len) room = λ e. absurd cc

item_never : (level len room : ℕ) → item_fault level len room ≡ Some Memory → ⊥
item_never level len room = if_never (len == undefined_length) _ _ (if_never (nat_lt level max_depth) _ _ (λ e. absurd cc) (λ e. absurd cc)) (if_never ((len % 2) == 0) _ _ (if_never (nat_lt room len) _ _ (λ e. absurd cc) (if_never (nat_lt level max_depth) _ _ (λ e. absurd cc) (λ e. absurd cc))) (λ e. absurd cc))

mutual
  pub never_elements : (syntax : TransferSyntax) (level : ℕ) (reach : Reach) (from : ℕ) (text : List ℕ) (fault : SetFault) → ElementsFail syntax level reach from text fault → fault ≡ Memory → ⊥
  never_elements syntax level reach from text fault (at_head _ _ _ _ _ _ noend (inl (s, _))) m = let e : Short ≡ Memory = sym s ∙ m in absurd cc
  never_elements syntax level reach from text fault (at_head _ _ _ _ _ _ noend (inr (head, rest, is, e))) m = head_never from head (length rest) (e ∙ ap (λ f. Some f) m)
  never_elements syntax level reach from text fault (in_value _ _ _ _ _ _ tag vr len after noend known bad) m = never_value syntax level vr len after fault bad m
  never_elements syntax level reach from text fault (behind_value _ _ _ _ _ _ tag vr len after kept d next noend known value bad) m = never_elements syntax level reach (number tag + 1) next fault bad m

  pub never_value : (syntax : TransferSyntax) (level : ℕ) (vr : Vr) (len : ℕ) (after : List ℕ) (fault : SetFault) → ValueFails syntax level vr len after fault → fault ≡ Memory → ⊥
  never_value syntax level vr len after fault (in_items _ _ _ _ _ _ reach inner is opens bad) m = never_items (inside syntax vr) level reach inner fault bad m

  pub never_items : (syntax : TransferSyntax) (level : ℕ) (reach : Reach) (text : List ℕ) (fault : SetFault) → ItemsFail syntax level reach text fault → fault ≡ Memory → ⊥
  never_items syntax level reach text fault (at_item _ _ _ _ _ noend (inl (s, _))) m = let e : Short ≡ Memory = sym s ∙ m in absurd cc
  never_items syntax level reach text fault (at_item _ _ _ _ _ noend (inr (inl p))) m = let e : BadItem ≡ Memory = sym p.0 ∙ m in absurd cc
  never_items syntax level reach text fault (at_item _ _ _ _ _ noend (inr (inr (len, rest, is, e)))) m = item_never level len (length rest) (e ∙ ap (λ f. Some f) m)
  never_items syntax level reach text fault (in_item _ _ _ _ _ len after within inner noend is opens bad) m = never_elements syntax (level + 1) within 0 inner fault bad m
  never_items syntax level reach text fault (behind_item _ _ _ _ _ len after within inner left next es noend is spans spelled bad) m = never_items syntax level reach next fault bad m

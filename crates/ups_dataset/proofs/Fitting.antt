-- What is spelled is a data set.
use Rattle.std.proofs.Common.{true, false, ◌≡◌, ◌≢◌, ◌<◌, ◌≤◌, ◌+◌, ◌%◌, ◌&&◌, ℕ, Bool, inl, inr, List, refl, sym, ap, subst, ◌∙◌, arith, if◌then◌else◌, nat_lt}
use Rattle.ups_dataset.specs.declared.tag.Tag.{Tag}
use Rattle.ups_dataset.specs.Limits.{max_depth, max_short_length, undefined_length}
use Rattle.ups_dataset.specs.declared.vr.Vr.{Vr}
use Rattle.ups_dataset.specs.declared.vr.Vr.TheVariants.{Sq, Un}
use Rattle.ups_pdu.specs.declared.syntax.TransferSyntax.{TransferSyntax}
use Rattle.ups_pdu.specs.declared.syntax.TransferSyntax.TheVariants.{Implicit, Explicit}
use Rattle.ups_dataset.specs.declared.head.Reach.{Reach}
use Rattle.ups_dataset.specs.declared.head.Head.TheVariants.{Known}
use Rattle.ups_dataset.specs.Tag.{IsTag, number, is_mark, is_group_length}
use Rattle.ups_dataset.specs.Vr.{is_long}
use Rattle.ups_dataset.specs.Dictionary.{vr_of}
use Rattle.ups_dataset.specs.Data.{Data, bytes, items, Items, no_items, item, Elements, no_elements, element}
use Rattle.ups_dataset.specs.Valid.{depth_data, depth_items, depth_elements, IsValue, HoldsSets, AreElements, AreSets}
use Rattle.ups_dataset.specs.Head.{IsHead, is_sequence}
use Rattle.ups_dataset.specs.Spelling.{SpellsElements, SpellsValue, SpellsItems, inside, kept, kept_data, kept_items}
use Rattle.ups_dataset.proofs.Heads.{begins}

-- only a representation with a long length has many bytes without letters
few_bytes : (many long : Bool) (vr : Vr) → is_long vr ≡ long → is_long (if many then (if long then vr else Un) else vr) ≡ false → many ≡ false
few_bytes false long vr e h = refl
few_bytes true true vr e h = let c : true ≡ false = sym e ∙ h in absurd cc
few_bytes true false vr e h = let c : true ≡ false = h in absurd cc

head_says : (syntax : TransferSyntax) (text : List ℕ) (tag : Tag) (vr : Vr) (len : ℕ) (after : List ℕ) → IsHead syntax text (Known tag vr len) after → len < undefined_length → (len % 2) ≡ 0 → is_long vr ≡ false → len ≤ max_short_length
head_says Implicit text tag vr len after (m, v, p) low even short =
    let few : (nat_lt max_short_length len && nat_lt len undefined_length) ≡ false = few_bytes (nat_lt max_short_length len && nat_lt len undefined_length) (is_long (vr_of tag)) (vr_of tag) refl (sym (ap is_long v) ∙ short) in
    grind (arith, few, low)
head_says Explicit text tag vr len after (m, inl p) low even short = omega (arith, p.fits, even)
head_says Explicit text tag vr len after (m, inr p) low even short = let c : false ≡ true = sym short ∙ p.long in absurd cc

not_sequence : (vr : Vr) (len : ℕ) → is_sequence vr len ≡ false → vr ≢ Sq
not_sequence vr len e s = let c : true ≡ false = sym (ap (λ v. is_sequence v len) s) ∙ e in absurd cc

depth_of : (level : ℕ) (d : Data) (tag : Tag) (vr : Vr) (more : Elements) (b : Bool) → level + depth_data d ≤ max_depth → level + depth_elements more ≤ max_depth → level + depth_elements (if b then more else element tag vr d more) ≤ max_depth
depth_of level d tag vr more true h k = k
depth_of level d tag vr more false h k = omega (arith, h, k)

-- no deeper than there is room for
mutual
  pub depth_spelled : (syntax : TransferSyntax) (level : ℕ) (reach : Reach) (from : ℕ) (text : List ℕ) (es : Elements) (rest : List ℕ) → level ≤ max_depth → SpellsElements syntax level reach from text es rest → level + depth_elements (kept es) ≤ max_depth
  depth_spelled syntax level reach from text no_elements rest l e = omega (arith, l)
  depth_spelled syntax level reach from text (element tag vr d more) rest l (next, head_vr, len, after, is, rises, value, later) =
      depth_of level (kept_data d) tag vr (kept more) (is_group_length tag) (depth_value syntax level head_vr len after vr d next l value) (depth_spelled syntax level reach (number tag + 1) next more rest l later)

  depth_value : (syntax : TransferSyntax) (level : ℕ) (head_vr : Vr) (len : ℕ) (after : List ℕ) (vr : Vr) (d : Data) (next : List ℕ) → level ≤ max_depth → SpellsValue syntax level head_vr len after vr d next → level + depth_data (kept_data d) ≤ max_depth
  depth_value syntax level head_vr len after vr (bytes b) next l value = omega (arith, l)
  depth_value syntax level head_vr len after vr (items is) next l (_, _, reach, inner, left, _, spelled) = depth_in (inside syntax head_vr) level reach inner is left l spelled

  depth_in : (syntax : TransferSyntax) (level : ℕ) (reach : Reach) (text : List ℕ) (is : Items) (rest : List ℕ) → level ≤ max_depth → SpellsItems syntax level reach text is rest → level + depth_items (kept_items is) ≤ max_depth
  depth_in syntax level reach text no_items rest l e = omega (arith, l)
  depth_in syntax level reach text (item es more) rest l (next, len, after, is, low, within, inner, left, spans, spelled, later) =
      omega (arith, depth_spelled syntax (level + 1) within 0 inner es left (omega (arith, low)) spelled, depth_in syntax level reach next more rest l later)

fit_by : (low : ℕ) (tag : Tag) (vr : Vr) (d : Data) (more : Elements) (b : Bool) → is_group_length tag ≡ b → low ≤ number tag → IsTag tag → is_mark tag ≡ false → IsValue vr d → HoldsSets d
    → ((l : ℕ) → l ≤ number tag + 1 → AreElements l more) → AreElements low (if b then more else element tag vr d more)
fit_by low tag vr d more true g rises small m value sets later = later low (omega (arith, rises))
fit_by low tag vr d more false g rises small m value sets later = (rises, small, record { no_mark = m; no_group_length = g; value = value }, sets, later (number tag + 1) (omega arith))

mutual
  pub fit_elements : (syntax : TransferSyntax) (level : ℕ) (reach : Reach) (from : ℕ) (text : List ℕ) (es : Elements) (rest : List ℕ) → level ≤ max_depth → SpellsElements syntax level reach from text es rest → (low : ℕ) → low ≤ from → AreElements low (kept es)
  fit_elements syntax level reach from text no_elements rest l e low le = tt
  fit_elements syntax level reach from text (element tag vr d more) rest l (next, head_vr, len, after, is, rises, value, later) low le =
      let b = begins syntax text (Known tag head_vr len) after is in
      fit_by low tag vr (kept_data d) (kept more) (is_group_length tag) refl (omega (arith, le, rises)) b.low b.is (fit_value syntax level text tag head_vr len after vr d next l is value) (fit_sets syntax level head_vr len after vr d next l value)
      (λ m k. fit_elements syntax level reach (number tag + 1) next more rest l later m k)

  fit_value : (syntax : TransferSyntax) (level : ℕ) (text : List ℕ) (tag : Tag) (head_vr : Vr) (len : ℕ) (after : List ℕ) (vr : Vr) (d : Data) (next : List ℕ) → level ≤ max_depth → IsHead syntax text (Known tag head_vr len) after → SpellsValue syntax level head_vr len after vr d next → IsValue vr (kept_data d)
  fit_value syntax level text tag head_vr len after vr (bytes b) next l is (plain, v, low, even, e, _) =
      ((λ s. not_sequence head_vr len plain (sym v ∙ s)), subst (λ (n : ℕ). (n % 2) ≡ 0) (sym e) even, (λ short. omega (arith, e, head_says syntax text tag head_vr len after is low even (sym (ap is_long v) ∙ short))))
  fit_value syntax level text tag head_vr len after vr (items js) next l is (plain, s, reach, inner, left, spans, spelled) =
      (s, omega (arith, depth_value syntax level head_vr len after vr (items js) next l (plain, s, reach, inner, left, spans, spelled)))

  fit_sets : (syntax : TransferSyntax) (level : ℕ) (head_vr : Vr) (len : ℕ) (after : List ℕ) (vr : Vr) (d : Data) (next : List ℕ) → level ≤ max_depth → SpellsValue syntax level head_vr len after vr d next → HoldsSets (kept_data d)
  fit_sets syntax level head_vr len after vr (bytes b) next l value = tt
  fit_sets syntax level head_vr len after vr (items js) next l (_, _, reach, inner, left, _, spelled) = fit_items (inside syntax head_vr) level reach inner js left l spelled

  fit_items : (syntax : TransferSyntax) (level : ℕ) (reach : Reach) (text : List ℕ) (is : Items) (rest : List ℕ) → level ≤ max_depth → SpellsItems syntax level reach text is rest → AreSets (kept_items is)
  fit_items syntax level reach text no_items rest l e = tt
  fit_items syntax level reach text (item es more) rest l (next, len, after, is, low, within, inner, left, spans, spelled, later) =
      (fit_elements syntax (level + 1) within 0 inner es left (omega (arith, low)) spelled 0 (omega arith), fit_items syntax level reach next more rest l later)

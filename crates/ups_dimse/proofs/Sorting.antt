-- The values that one pass over the elements of a command set finds.
use Rattle.std.proofs.Common.{◌≡◌, ℕ, ◌+◌, ◌<◌, ◌≤◌, cond, eqb, Bool, true, false, List, [], ◌∷◌, ◌++◌, Option, Some, refl, sym, ap, subst, ◌∙◌, arith}
use Rattle.std.specs.Option.{option_copied}
use Rattle.std.proofs.lemmas.Bool.{ne_eqb, eqb-true}
use Rattle.ups_dimse.specs.declared.values.CommandValues.{CommandValues}
use Rattle.ups_dimse.specs.Elements.{CommandElement, IsCommandElement, SpellsCommandElements, value_in}
use Rattle.ups_dimse.specs.Sorted.{HasValues, kept_under, Keeps}
use Rattle.ups_dimse.proofs.Walk.{GoesOn, goes_next}

-- the numbers of the elements are below `from`
abbrev pub Below : ℕ → List CommandElement → Type 0
Below from [] = Unit {0}
Below from (e ∷ es) = (e.number < from) × Below from es

below_next : (from : ℕ) (es : List CommandElement) (e : CommandElement) → Below from es → from ≤ e.number → Below (e.number + 1) (es ++ e ∷ [])
below_next from [] e b l = (omega arith, tt)
below_next from (x ∷ xs) e b l = (omega (arith, b.0, l), below_next from xs e b.1 l)

spells_next : (low from : ℕ) (bytes : List ℕ) (es : List CommandElement) (rest : List ℕ) (e : CommandElement) (after : List ℕ)
    → SpellsCommandElements low bytes es rest → Below from es → low ≤ from → from ≤ e.number → IsCommandElement rest e after → SpellsCommandElements low bytes (es ++ e ∷ []) after
spells_next low from bytes [] rest e after s b l h p = (after, subst (λ (x : List ℕ). IsCommandElement x e after) (sym s) p, omega (arith, l, h), refl)
spells_next low from bytes (x ∷ xs) rest e after s b l h p = (s.0, s.1, s.2, spells_next (x.number + 1) from s.0 xs rest e after s.3 b.1 (omega (arith, b.0)) h p)

kept_behind : (n number : ℕ) (value : List ℕ) (x : CommandElement) (o tail rest : Option (List ℕ)) (t : Bool) → eqb x.number n ≡ t → x.number < number → o ≡ cond (eqb x.number n) (Some x.value) tail
    → (o ≡ tail → kept_under n number value o ≡ rest) → kept_under n number value o ≡ cond (eqb x.number n) (Some x.value) rest
kept_behind n number value x o tail rest true is less same there =
    let other : number ≡ n → ⊥ = λ e. omega (arith, less, e, eqb-true x.number n is) in
    ap (λ (b : Bool). cond b (Some value) o) (ne_eqb number n other) ∙ same ∙ ap (λ (b : Bool). cond b (Some x.value) tail) is ∙ sym (ap (λ (b : Bool). cond b (Some x.value) rest) is)
kept_behind n number value x o tail rest false is less same there =
    there (same ∙ ap (λ (b : Bool). cond b (Some x.value) tail) is) ∙ sym (ap (λ (b : Bool). cond b (Some x.value) rest) is)

kept_next : (n from : ℕ) (es : List CommandElement) (e : CommandElement) (o : Option (List ℕ)) → Below from es → from ≤ e.number → o ≡ value_in n es → kept_under n e.number e.value o ≡ value_in n (es ++ e ∷ [])
kept_next n from [] e o b l same = ap (λ (x : Option (List ℕ)). cond (eqb e.number n) (Some e.value) x) same
kept_next n from (x ∷ xs) e o b l same =
    kept_behind n e.number e.value x o (value_in n xs) (value_in n (xs ++ e ∷ [])) (eqb x.number n) refl (omega (arith, b.0, l)) same (kept_next n from xs e o b.1 l)

has_next : (from : ℕ) (es : List CommandElement) (e : CommandElement) (before after : CommandValues) → Below from es → from ≤ e.number → HasValues es before → Keeps e.number e.value before after → HasValues (es ++ e ∷ []) after
has_next from es e before after b l has keeps = record {
  affected_class = keeps.affected_class ∙ kept_next 0x0002 from es e (option_copied before.affected_class) b l has.affected_class;
  requested_class = keeps.requested_class ∙ kept_next 0x0003 from es e (option_copied before.requested_class) b l has.requested_class;
  command_field = keeps.command_field ∙ kept_next 0x0100 from es e (option_copied before.command_field) b l has.command_field;
  message_id = keeps.message_id ∙ kept_next 0x0110 from es e (option_copied before.message_id) b l has.message_id;
  responded_to = keeps.responded_to ∙ kept_next 0x0120 from es e (option_copied before.responded_to) b l has.responded_to;
  priority = keeps.priority ∙ kept_next 0x0700 from es e (option_copied before.priority) b l has.priority;
  data_set_type = keeps.data_set_type ∙ kept_next 0x0800 from es e (option_copied before.data_set_type) b l has.data_set_type;
  status = keeps.status ∙ kept_next 0x0900 from es e (option_copied before.status) b l has.status;
  affected_instance = keeps.affected_instance ∙ kept_next 0x1000 from es e (option_copied before.affected_instance) b l has.affected_instance;
  requested_instance = keeps.requested_instance ∙ kept_next 0x1001 from es e (option_copied before.requested_instance) b l has.requested_instance;
  event_type = keeps.event_type ∙ kept_next 0x1002 from es e (option_copied before.event_type) b l has.event_type;
  attributes = keeps.attributes ∙ kept_next 0x1005 from es e (option_copied before.attributes) b l has.attributes;
  action_type = keeps.action_type ∙ kept_next 0x1008 from es e (option_copied before.action_type) b l has.action_type;
}

-- the elements that the pass has gone by, and their values
pub record Passed (bytes : List ℕ) (from : ℕ) (rest : List ℕ) (values : CommandValues) : Type 0 where
  pub on : GoesOn bytes from rest
  pub elements : List CommandElement
  pub spelled : SpellsCommandElements 0 bytes elements rest
  pub below : Below from elements
  pub has : HasValues elements values

pub passed_next : (bytes : List ℕ) (from : ℕ) (rest : List ℕ) (before : CommandValues) (e : CommandElement) (next : List ℕ) (after : CommandValues)
    → Passed bytes from rest before → IsCommandElement rest e next → from ≤ e.number → Keeps e.number e.value before after → Passed bytes (e.number + 1) next after
passed_next bytes from rest before e next after p is low keeps = record {
  on = goes_next bytes from rest e next p.on is low;
  elements = p.elements ++ e ∷ [];
  spelled = spells_next 0 from bytes p.elements rest e next p.spelled p.below (omega arith) low is;
  below = below_next from p.elements e p.below low;
  has = has_next from p.elements e before after p.below low p.has keeps;
}

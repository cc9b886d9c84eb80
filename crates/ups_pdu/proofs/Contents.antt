-- The contents of the items of one type, from the first item on.
use Rattle.std.proofs.Common.{◌≡◌, ℕ, ◌≢◌, Bool, true, false, cond, List, [], ◌∷◌, Option, Some, None, MatchOption, IsTrue, ◌↔◌, length, refl, sym, ap, subst, ◌∙◌, arith}
use Rattle.std.specs.Prelude.{◌==◌, is_some}
use Rattle.std.specs.Option.{option_to_list}
use Rattle.ups_pdu.specs.Item.{Item, IsItem, contents, EachSpells, HasContents, IsNext}
use Rattle.ups_pdu.proofs.Sequence.{splits, ends}
use Rattle.ups_pdu.proofs.ItemWays.{item_way}

abbrev with_first : Bool → List ℕ → List (List ℕ) → List (List ℕ)
with_first b content others = cond b (content ∷ others) others

pub next_here : (kind j : ℕ) (bytes content after : List ℕ) → (j == kind) ≡ true → IsItem bytes (record { kind = j; content = content }) after → (found : List (List ℕ)) → HasContents kind bytes found → IsNext kind content after found
next_here kind j bytes content after e is found h =
    let s = splits IsItem item_way bytes (record { kind = j; content = content }) after is h.items h.each in
    record {
      others = contents kind s.tail;
      parts = sym h.are ∙ ap (contents kind) s.parts ∙ ap (λ (b : Bool). with_first b content (contents kind s.tail)) e;
      has = record { items = s.tail; each = s.more; are = refl };
    }

pub next_later : (kind j : ℕ) (bytes content after : List ℕ) → (j == kind) ≡ false → IsItem bytes (record { kind = j; content = content }) after → (found : List (List ℕ)) → HasContents kind bytes found → HasContents kind after found
next_later kind j bytes content after e is found h =
    let s = splits IsItem item_way bytes (record { kind = j; content = content }) after is h.items h.each in
    record {
      items = s.tail;
      each = s.more;
      are = ap (λ (b : Bool). with_first b content (contents kind s.tail)) (sym e) ∙ ap (contents kind) (sym s.parts) ∙ h.are;
    }

pub no_next : (kind : ℕ) (bytes : List ℕ) → ((item : Item) → (rest : List ℕ) → IsItem bytes item rest → ⊥) → (found : List (List ℕ)) → HasContents kind bytes found → found ≡ []
no_next kind bytes none found h = sym h.are ∙ ap (contents kind) (ends IsItem bytes none h.items h.each).0

pub not_nil : (kind : ℕ) (content rest : List ℕ) (found : List (List ℕ)) → IsNext kind content rest found → found ≡ [] → ⊥
not_nil kind content rest found n e = omega (arith, ap length n.parts, ap length e)

pub has_some : {X : Type 0} (o : Option X) (found : List (List ℕ)) (Next : X → Type 0) → MatchOption o (found ≡ []) Next → ((x : X) → Next x → found ≡ [] → ⊥) → IsTrue (is_some o) ↔ (found ≡ [] → ⊥)
has_some None found Next e f = (λ t. absurd cc, λ g. absurd (g e))
has_some (Some x) found Next n f = (λ t. f x n, λ g. refl)

-- two contents are not one at most
pub not_optional : (kind : ℕ) (content rest other after : List ℕ) (found : List (List ℕ)) (n : IsNext kind content rest found) → IsNext kind other after n.others → (o : Option (List ℕ)) → found ≡ option_to_list o → ⊥
not_optional kind content rest other after found n m None e = omega (arith, ap length n.parts, ap length e)
not_optional kind content rest other after found n m (Some c) e = omega (arith, ap length n.parts, ap length m.parts, ap length e)

-- what at most one thing spells has at most one content
pub optional_content_of : {X : Type 0} (Spells : List ℕ → X → Type 0) (found : List (List ℕ)) (o : Option X) → EachSpells Spells found (option_to_list o) → (c : Option (List ℕ)) × (found ≡ option_to_list c)
optional_content_of Spells [] None s = (None, refl)
optional_content_of Spells (c ∷ []) (Some x) s = (Some c, refl)
optional_content_of Spells (c ∷ d ∷ cs) (Some x) s = absurd s.1
optional_content_of Spells (c ∷ cs) None s = absurd s
optional_content_of Spells [] (Some x) s = absurd s

pub one_unspelled : {X : Type 0} (Spells : List ℕ → X → Type 0) (found : List (List ℕ)) (content : List ℕ) → found ≡ content ∷ [] → ((x : X) → Spells content x → ⊥) → (o : Option X) → EachSpells Spells found (option_to_list o) → ⊥
one_unspelled {X} Spells found content e none o s = never o (subst (λ (l : List (List ℕ)). EachSpells Spells l (option_to_list o)) e s) where
  never : (o : Option X) → EachSpells Spells (content ∷ []) (option_to_list o) → ⊥
  never None s = s
  never (Some x) s = none x s.0

pub spelled_at : {X : Type 0} (Spells : List ℕ → X → Type 0) (found others : List (List ℕ)) (xs : List X) → found ≡ others → EachSpells Spells others xs → EachSpells Spells found xs
spelled_at {X} Spells found others xs e s = subst (λ (l : List (List ℕ)). EachSpells Spells l xs) (sym e) s

pub only_from_optional : {X : Type 0} (Spells : List ℕ → X → Type 0) (found : List (List ℕ)) (o : Option X) → EachSpells Spells found (option_to_list o) → MatchOption o ((x : X) → EachSpells Spells found (x ∷ []) → ⊥) (λ x. EachSpells Spells found (x ∷ []))
only_from_optional Spells [] None s = λ x t. t
only_from_optional Spells (c ∷ cs) None s = absurd s
only_from_optional Spells found (Some x) s = s

-- some things have contents, and some contents have things
pub some_contents : {X : Type 0} (Spells : List ℕ → X → Type 0) (found : List (List ℕ)) (xs : List X) → EachSpells Spells found xs → xs ≢ [] → found ≡ [] → ⊥
some_contents Spells found [] s some e = some refl
some_contents Spells [] (x ∷ xs) s some e = s
some_contents Spells (c ∷ cs) (x ∷ xs) s some e = omega (arith, ap length e)

pub some_things : {X : Type 0} (Spells : List ℕ → X → Type 0) (found : List (List ℕ)) (xs : List X) → EachSpells Spells found xs → (found ≡ [] → ⊥) → xs ≢ []
some_things Spells [] xs s some = λ e. some refl
some_things Spells (c ∷ cs) [] s some = λ e. s
some_things Spells (c ∷ cs) (x ∷ xs) s some = λ e. omega (arith, ap length e)

pub one_each : {X : Type 0} (Spells : List ℕ → X → Type 0) → ((content : List ℕ) (x y : X) → Spells content x → Spells content y → x ≡ y) → (found : List (List ℕ)) (xs ys : List X) → EachSpells Spells found xs → EachSpells Spells found ys → xs ≡ ys
one_each Spells one [] [] [] s t = refl
one_each Spells one [] [] (y ∷ ys) s t = absurd t
one_each Spells one [] (x ∷ xs) ys s t = absurd s
one_each Spells one (c ∷ cs) [] ys s t = absurd s
one_each Spells one (c ∷ cs) (x ∷ xs) [] s t = absurd t
one_each Spells one (c ∷ cs) (x ∷ xs) (y ∷ ys) s t =
    let first : x ≡ y = one c x y s.0 t.0 in
    let others : xs ≡ ys = one_each Spells one cs xs ys s.1 t.1 in
    cc

-- the same contents, spelled by other things
pub each_other : {X Y : Type 0} (Spells : List ℕ → X → Type 0) (Others : List ℕ → Y → Type 0) → ((content : List ℕ) (x : X) → Spells content x → (y : Y) × Others content y) → (found : List (List ℕ)) (xs : List X) → EachSpells Spells found xs → (ys : List Y) × EachSpells Others found ys
each_other Spells Others other [] [] s = ([], tt)
each_other Spells Others other [] (x ∷ xs) s = absurd s
each_other Spells Others other (c ∷ cs) [] s = absurd s
each_other Spells Others other (c ∷ cs) (x ∷ xs) s =
    let first = other c x s.0 in
    let others = each_other Spells Others other cs xs s.1 in
    (first.0 ∷ others.0, (first.1, others.1))

pub never : (b : Bool) → b ≡ true → b ≡ false → ⊥
never true t f = cc
never false t f = cc

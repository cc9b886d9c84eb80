-- What the contents of one type spell, collected from the first on.
use Rattle.std.proofs.Common.{◌≡◌, ℕ, List, [], ◌∷◌, ◌++◌, sym, subst, ◌↔◌, append_assoc}
use Rattle.std.proofs.lemmas.List.{append-nil}
use Rattle.ups_pdu.specs.Item.{HasContents, EachSpells, IsNext}

-- what is left, and what was collected before it
pub record Collects {X : Type 0} (Spells : List ℕ → X → Type 0) (kind : ℕ) (rest : List ℕ) (found : List (List ℕ)) (done : List X) : Type 0 where
  pub left : List (List ℕ)
  pub has : HasContents kind rest left
  pub tail : List X
  pub spelled : EachSpells Spells left tail
  pub on : (xs : List X) → EachSpells Spells left xs → EachSpells Spells found (done ++ xs)

-- the contents that are spelled begin with one that is
pub record First {X : Type 0} (Spells : List ℕ → X → Type 0) (content : List ℕ) (others : List (List ℕ)) : Type 0 where
  pub thing : X
  pub is : Spells content thing
  pub tail : List X
  pub more : EachSpells Spells others tail

pub first_of : {X : Type 0} (Spells : List ℕ → X → Type 0) (content : List ℕ) (others found : List (List ℕ)) → found ≡ content ∷ others → (xs : List X) → EachSpells Spells found xs → First Spells content others
first_of {X} Spells content others found e xs s = begins xs (subst (λ (l : List (List ℕ)). EachSpells Spells l xs) e s) where
  begins : (ys : List X) → EachSpells Spells (content ∷ others) ys → First Spells content others
  begins [] s = absurd s
  begins (y ∷ ys) s = record { thing = y; is = s.0; tail = ys; more = s.1 }

pub collects_next : {X : Type 0} (Spells : List ℕ → X → Type 0) (kind : ℕ) (rest after content : List ℕ) (found : List (List ℕ)) (done : List X)
    → ((left : List (List ℕ)) → HasContents kind rest left → IsNext kind content after left) → (x : X) → Spells content x → Collects Spells kind rest found done → Collects Spells kind after found (done ++ x ∷ [])
collects_next {X} Spells kind rest after content found done next x is c =
    let n = next c.left c.has in
    let f = first_of Spells content n.others c.left n.parts c.tail c.spelled in
    record {
      left = n.others;
      has = n.has;
      tail = f.tail;
      spelled = f.more;
      on = λ xs e.
          subst (λ (l : List X). EachSpells Spells found l) (sym (append_assoc done (x ∷ []) xs))
          (c.on (x ∷ xs) (subst (λ (l : List (List ℕ)). EachSpells Spells l (x ∷ xs)) (sym n.parts) (is, e)));
    }

-- the next content is spelled
pub collects_some : {X : Type 0} (Spells : List ℕ → X → Type 0) (kind : ℕ) (rest after content : List ℕ) (found : List (List ℕ)) (done : List X)
    → ((left : List (List ℕ)) → HasContents kind rest left → IsNext kind content after left) → Collects Spells kind rest found done → (x : X) × Spells content x
collects_some Spells kind rest after content found done next c =
    let n = next c.left c.has in
    let f = first_of Spells content n.others c.left n.parts c.tail c.spelled in
    (f.thing, f.is)

pub collects_end : {X : Type 0} (Spells : List ℕ → X → Type 0) (kind : ℕ) (rest : List ℕ) (found : List (List ℕ)) (done : List X)
    → ((left : List (List ℕ)) → HasContents kind rest left → left ≡ []) → Collects Spells kind rest found done → EachSpells Spells found done
collects_end {X} Spells kind rest found done none c =
    let e = none c.left c.has in
    subst (λ (l : List X). EachSpells Spells found l) (append-nil done) (c.on [] (subst (λ (l : List (List ℕ)). EachSpells Spells l []) (sym e) tt))

-- all are spelled where the next one is, and all behind it
pub all_behind : {X : Type 0} (Spells : List ℕ → X → Type 0) (kind : ℕ) (content after : List ℕ) (found left : List (List ℕ)) (n : IsNext kind content after left) (x : X) → Spells content x
    → (((xs : List X) × EachSpells Spells found xs) ↔ ((xs : List X) × EachSpells Spells left xs)) → ((xs : List X) × EachSpells Spells found xs) ↔ ((xs : List X) × EachSpells Spells n.others xs)
all_behind {X} Spells kind content after found left n x is on = (
  λ s. let f = first_of Spells content n.others left n.parts (on.0 s).0 (on.0 s).1 in (f.tail, f.more),
  λ s. on.1 (x ∷ s.0, subst (λ (l : List (List ℕ)). EachSpells Spells l (x ∷ s.0)) (sym n.parts) (is, s.1)),
)

pub not_all : {X : Type 0} (Spells : List ℕ → X → Type 0) (kind : ℕ) (content after : List ℕ) (found left : List (List ℕ)) → IsNext kind content after left → ((x : X) → Spells content x → ⊥)
    → (((xs : List X) × EachSpells Spells found xs) ↔ ((xs : List X) × EachSpells Spells left xs)) → ((xs : List X) × EachSpells Spells found xs) → ⊥
not_all Spells kind content after found left n none on s =
    let f = first_of Spells content n.others left n.parts (on.0 s).0 (on.0 s).1 in none f.thing f.is

pub all_at_end : {X : Type 0} (Spells : List ℕ → X → Type 0) (found left : List (List ℕ)) → left ≡ [] → (((xs : List X) × EachSpells Spells found xs) ↔ ((xs : List X) × EachSpells Spells left xs)) → (xs : List X) × EachSpells Spells found xs
all_at_end {X} Spells found left e on = on.1 ([], subst (λ (l : List (List ℕ)). EachSpells Spells l []) (sym e) tt)

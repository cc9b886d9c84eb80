-- Posts that are put in the place of others.
use Rattle.std.proofs.Common.{arith, zero, suc, ◌≡◌, ◌≢◌, ℕ, ◌+◌, ◌<◌, ◌≤◌, ◌⊎◌, Bool, true, List, [], ◌∷◌, ◌++◌, length, get_or, map, take, Contains, refl, sym, ap, ◌∙◌, subst, inl, inr}
use Rattle.std.specs.Prelude.{Option, None, Some, ℤ}
use Rattle.std.specs.List.{list_any}
use Rattle.std.specs.Str.{bytes_eq}
use Rattle.std.specs.Cmp.Lexicographic.{same_text}
use Rattle.std.proofs.lemmas.List.{take_all, map_more}
use Rattle.std.proofs.lemmas.List.Elements.{Contains-push_cases}
use Rattle.std.proofs.lemmas.List.Folds.{Any-from_list_any}
use Rattle.ups_dataset.specs.declared.tag.Tag.{Tag}
use Rattle.ups_dataset.specs.Tag.{is_tag}
use Rattle.ups_match.proofs.Class.{both, same_tag}
use Rattle.ups_index.specs.declared.posts.Post.{Post}
use Rattle.ups_index.specs.declared.values.StoredText.{StoredText}
use Rattle.ups_index.specs.Kept.{text_view}
use Rattle.ups_index.specs.Numbers.{text_number, moment_number}
use Rattle.ups_index.specs.Posts.{post, KeepsTexts, HasTexts, HasStart}
use Rattle.ups_index.specs.Stored.{is_stored_text}
use Rattle.ups_index.proofs.Placed.{any_viewed}

-- a text that a test finds is one of the texts
pub found_among : {A : Type 0} (texts : List (StoredText A)) (stored : StoredText A) (b : Bool) → b ≡ list_any (λ s. is_stored_text stored.tag stored.text (text_view s)) texts → b ≡ true → Contains (map text_view texts) (text_view stored)
found_among texts stored b is passed =
    let (k, s, l, at, passes) = Any-from_list_any (is_stored_text stored.tag stored.text) (map text_view texts) (sym (any_viewed stored.tag stored.text texts) ∙ sym is ∙ passed) in
    let two = both (is_tag s.0 stored.tag) (bytes_eq stored.text s.1) passes in
    let same : s ≡ text_view stored = λ i. (same_tag s.0 stored.tag two.0 i, sym (same_text stored.text s.1 (sym two.1)) i) in
    subst (Contains (map text_view texts)) same (k, l, at)

-- a text that is at an index is one of the texts
pub text_at : {A : Type 0} (texts : List (StoredText A)) (i : ℕ) (t : StoredText A) → i < length texts → t ≡ get_or texts i t → Contains (map text_view texts) (text_view t)
text_at [] i t l is = absurd (omega (arith, l))
text_at (x ∷ xs) zero t l is = (zero, omega arith, ap text_view (sym is))
text_at (x ∷ xs) (suc i) t l is = let (k, m, e) = text_at xs i t (omega (arith, l)) is in (suc k, omega (arith, m), e)

pub found_at : {A : Type 0} (texts : List (StoredText A)) (i : ℕ) (other stored : StoredText A) (b : Bool) → i < length texts → other ≡ get_or texts i other
    → b ≡ is_stored_text stored.tag stored.text (text_view other) → b ≡ true → Contains (map text_view texts) (text_view stored)
found_at texts i other stored b l at is passed =
    let two = both (is_tag other.tag stored.tag) (bytes_eq stored.text other.text) (sym is ∙ passed) in
    let same : text_view other ≡ text_view stored = λ i. (same_tag other.tag stored.tag two.0 i, sym (same_text stored.text other.text (sym two.1)) i) in
    subst (Contains (map text_view texts)) same (text_at texts i other l at)

-- one text more
pub one_more : {A : Type 0} (P : Tag × List ℕ → Type 0) (texts : List (StoredText A)) (i : ℕ) (t : StoredText A) → i < length texts → t ≡ get_or texts i t
    → ((stored : Tag × List ℕ) → Contains (map text_view (take i texts)) stored → P stored) → P (text_view t) → (stored : Tag × List ℕ) → Contains (map text_view (take (i + 1) texts)) stored → P stored
one_more P texts i t l is before here stored h =
    elim (Contains-push_cases (map text_view (take i texts)) (text_view t) stored (subst (λ (s : List (Tag × List ℕ)). Contains s stored) (map_more text_view texts i t l ∙ ap (λ (s : StoredText _). map text_view (take i texts) ++ text_view s ∷ []) (sym is)) h)) [
      | inl a ↦ before stored a
      | inr e ↦ subst P e here
    ]

pub all_of : {A : Type 0} (P : Tag × List ℕ → Type 0) (texts : List (StoredText A)) (i : ℕ) → length texts ≤ i → ((stored : Tag × List ℕ) → Contains (map text_view (take i texts)) stored → P stored) → (stored : Tag × List ℕ) → Contains (map text_view texts) stored → P stored
all_of P texts i l h = subst (λ (t : List (StoredText _)). (stored : Tag × List ℕ) → Contains (map text_view t) stored → P stored) (take_all i texts l) h

pub texts_then : (texts : List (Tag × List ℕ)) (place : ℕ) (a b c : List Post) → KeepsTexts texts place a b → KeepsTexts texts place b c → KeepsTexts texts place a c
texts_then texts place a b c f g stored h x = g stored h (f stored h x)

-- what others keep by their numbers
pub spared : (texts : List (Tag × List ℕ)) (place number : ℕ) (a b : List Post) → ((other : ℕ) → other ≢ number → Contains a (post other place) → Contains b (post other place)) → ((stored : Tag × List ℕ) → Contains texts stored → text_number stored.0 stored.1 ≢ number) → KeepsTexts texts place a b
spared texts place number a b f none stored h x = f (text_number stored.0 stored.1) (none stored h) x

-- those of some texts are there, where they are others that were, or were put
pub exchanged : (old new : List (Tag × List ℕ)) (place : ℕ) (a b c : List Post) → HasTexts old place a → KeepsTexts new place a b → KeepsTexts new place b c
    → ((stored : Tag × List ℕ) → Contains new stored → Contains old stored ⊎ Contains c (post (text_number stored.0 stored.1) place)) → HasTexts new place c
exchanged old new place a b c had spares keeps has stored h = elim (has stored h) [
  | inl x ↦ keeps stored h (spares stored h (had stored x))
  | inr y ↦ y
]

-- those that are there, or were, stay so
pub still : (others : List (Tag × List ℕ)) (place : ℕ) (a b : List Post) (stored : Tag × List ℕ) → (Contains a (post (text_number stored.0 stored.1) place) → Contains b (post (text_number stored.0 stored.1) place))
    → Contains others stored ⊎ Contains a (post (text_number stored.0 stored.1) place) → Contains others stored ⊎ Contains b (post (text_number stored.0 stored.1) place)
still others place a b stored keeps h = elim h [
  | inl x ↦ inl x
  | inr y ↦ inr (keeps y)
]

-- the post of a start
pub start_has : (start : Option ℤ) (place : ℕ) (posts : List Post) → HasStart start place posts → (moment : ℤ) → start ≡ Some moment → Contains posts (post (moment_number moment) place)
start_has start place posts h moment is = subst (λ (o : Option ℤ). HasStart o place posts) is h

pub has_start : (start : Option ℤ) (place : ℕ) (posts : List Post) → ((moment : ℤ) → start ≡ Some moment → Contains posts (post (moment_number moment) place)) → HasStart start place posts
has_start None place posts f = tt
has_start (Some moment) place posts f = f moment refl

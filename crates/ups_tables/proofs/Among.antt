-- Lists of UIDs.
use Rattle.std.proofs.Common.{◌≡◌, ℕ, suc, Bool, true, false, not, ◌&&◌, ◌||◌, cond, List, [], ◌∷◌, ◌++◌, length, filter, refl, sym, ap, ◌∙◌}
use Rattle.std.specs.Str.{bytes_eq}
use Rattle.std.proofs.lemmas.List.Folds.{list_any-append}
use Rattle.ups_life.specs.Distinct.{Distinct}
use Rattle.ups_life.specs.Watching.{is_among}
use Rattle.ups_life.proofs.Texts.{same_text, text_is_itself}
use Rattle.ups_life.proofs.Accepted.{neither, differ}
use Rattle.ups_keep.proofs.Waiting.{other_text}

pub or_first : (a b : Bool) → a ≡ true → (a || b) ≡ true
or_first true b h = refl
or_first false b h = absurd cc

pub or_second : (a b : Bool) → b ≡ true → (a || b) ≡ true
or_second true b h = refl
or_second false b h = h

and_false : (m x : Bool) → x ≡ false → (m && x) ≡ x
and_false true x h = refl
and_false false x h = sym h

-- a step is among those that a test picks where it is among all, and the test says yes
pub among_filter : (p : List ℕ → Bool) (u : List ℕ) (us : List (List ℕ)) → is_among u (filter p us) ≡ (is_among u us && p u)
among_filter p u [] = refl
among_filter p u (v ∷ vs) = at (bytes_eq v u) refl (p v) refl (among_filter p u vs)
  where
    at : (b : Bool) → bytes_eq v u ≡ b → (c : Bool) → p v ≡ c → is_among u (filter p vs) ≡ (is_among u vs && p u) → is_among u (cond c (v ∷ filter p vs) (filter p vs)) ≡ ((b || is_among u vs) && p u)
    at true vu true pv ih = ap (λ x. x || is_among u (filter p vs)) vu ∙ sym (ap p (sym (same_text v u vu)) ∙ pv)
    at true vu false pv ih = ih ∙ and_false (is_among u vs) (p u) (ap p (sym (same_text v u vu)) ∙ pv)
    at false vu true pv ih = ap (λ x. x || is_among u (filter p vs)) vu ∙ ih
    at false vu false pv ih = ih

or_false : (b : Bool) → b || false ≡ b
or_false true = refl
or_false false = refl

or_swap : (a b : Bool) → (a || b) ≡ (b || a)
or_swap true true = refl
or_swap true false = refl
or_swap false true = refl
or_swap false false = refl

pub among_one : (u v : List ℕ) → is_among u (v ∷ []) ≡ bytes_eq v u
among_one u v = or_false (bytes_eq v u)

pub among_push : (u v : List ℕ) (us : List (List ℕ)) → is_among u (us ++ v ∷ []) ≡ (bytes_eq v u || is_among u us)
among_push u v us = list_any-append (λ x. bytes_eq x u) us (v ∷ []) ∙ ap (λ b. is_among u us || b) (among_one u v) ∙ or_swap (is_among u us) (bytes_eq v u)

-- none of a list passes the test
none_pass : (v : List ℕ) (us : List (List ℕ)) → is_among v us ≡ false → filter (λ u. bytes_eq v u) us ≡ []
none_pass v [] h = refl
none_pass v (u ∷ us) h =
    let both = neither (bytes_eq u v) (is_among v us) h in
    ap (λ b. cond b (u ∷ filter (λ x. bytes_eq v x) us) (filter (λ x. bytes_eq v x) us)) (other_text v u ∙ both.0) ∙ none_pass v us both.1

-- one step of steps that are distinct
pub only_one : (v : List ℕ) (us : List (List ℕ)) → Distinct us → is_among v us ≡ true → filter (λ u. bytes_eq v u) us ≡ v ∷ []
only_one v [] once there = absurd cc
only_one v (u ∷ us) (new, once) there = at (bytes_eq u v) refl there (only_one v us once)
  where
    at : (b : Bool) → bytes_eq u v ≡ b → (b || is_among v us) ≡ true → (is_among v us ≡ true → filter (λ x. bytes_eq v x) us ≡ v ∷ [])
        → cond (bytes_eq v u) (u ∷ filter (λ x. bytes_eq v x) us) (filter (λ x. bytes_eq v x) us) ≡ v ∷ []
    at true is h later =
        let same : u ≡ v = same_text u v is in
        ap (λ b. cond b (u ∷ filter (λ x. bytes_eq v x) us) (filter (λ x. bytes_eq v x) us)) (other_text v u ∙ is)
        ∙ ap (λ l. u ∷ l) (none_pass v us (ap (λ x. is_among x us) (sym same) ∙ new)) ∙ ap (λ x. x ∷ []) same
    at false is h later = ap (λ b. cond b (u ∷ filter (λ x. bytes_eq v x) us) (filter (λ x. bytes_eq v x) us)) (other_text v u ∙ is) ∙ later h

not_among_filter : (p : List ℕ → Bool) (u : List ℕ) (us : List (List ℕ)) → is_among u us ≡ false → is_among u (filter p us) ≡ false
not_among_filter p u us h = among_filter p u us ∙ ap (λ b. b && p u) h

pub distinct_filter : (p : List ℕ → Bool) (us : List (List ℕ)) → Distinct us → Distinct (filter p us)
distinct_filter p [] d = tt
distinct_filter p (u ∷ us) (d, more) = at (p u) (not_among_filter p u us d) (distinct_filter p us more)
  where
    at : (b : Bool) → is_among u (filter p us) ≡ false → Distinct (filter p us) → Distinct (cond b (u ∷ filter p us) (filter p us))
    at true none m = (none, m)
    at false none m = m

-- all but one step
abbrev without : List ℕ → List (List ℕ) → List (List ℕ)
without v us = filter (λ u. not (bytes_eq u v)) us

all_stay : (v : List ℕ) (us : List (List ℕ)) → is_among v us ≡ false → without v us ≡ us
all_stay v [] h = refl
all_stay v (u ∷ us) h =
    let both = neither (bytes_eq u v) (is_among v us) h in
    ap (λ b. cond (not b) (u ∷ without v us) (without v us)) both.0 ∙ ap (λ l. u ∷ l) (all_stay v us both.1)

one_less : (v : List ℕ) (us : List (List ℕ)) → Distinct us → is_among v us ≡ true → length us ≡ suc (length (without v us))
one_less v [] once there = absurd cc
one_less v (u ∷ us) (new, once) there = at (bytes_eq u v) refl there (one_less v us once)
  where
    at : (b : Bool) → bytes_eq u v ≡ b → (b || is_among v us) ≡ true → (is_among v us ≡ true → length us ≡ suc (length (without v us)))
        → suc (length us) ≡ suc (length (cond (not b) (u ∷ without v us) (without v us)))
    at true is h later = ap (λ l. suc (length l)) (sym (all_stay v us (ap (λ x. is_among x us) (sym (same_text u v is)) ∙ new)))
    at false is h later = ap suc (later h)

-- two lists of distinct steps that have the same steps have as many
pub as_many : (us vs : List (List ℕ)) → Distinct us → Distinct vs → ((u : List ℕ) → is_among u us ≡ is_among u vs) → length us ≡ length vs
as_many [] [] du dv same = refl
as_many [] (v ∷ vs) du dv same = absurd (differ (is_among v (v ∷ vs)) (sym (same v)) (or_first (bytes_eq v v) (is_among v vs) (text_is_itself v)))
as_many (u ∷ us) vs (new, du) dv same =
    let there : is_among u vs ≡ true = sym (same u) ∙ or_first (bytes_eq u u) (is_among u us) (text_is_itself u) in
    ap suc (as_many us (without u vs) du (distinct_filter (λ x. not (bytes_eq x u)) vs dv) (λ x. rest x (bytes_eq u x) refl))
    ∙ sym (one_less u vs dv there)
  where
    rest : (x : List ℕ) (b : Bool) → bytes_eq u x ≡ b → is_among x us ≡ is_among x (without u vs)
    rest x true is =
        let e : u ≡ x = same_text u x is in
        ap (λ y. is_among y us) (sym e) ∙ new
        ∙ sym (among_filter (λ y. not (bytes_eq y u)) x vs ∙ ap (λ b. is_among x vs && not b) (other_text x u ∙ is) ∙ nothing (is_among x vs))
      where
        nothing : (b : Bool) → (b && false) ≡ false
        nothing true = refl
        nothing false = refl
    rest x false is =
        ap (λ b. b || is_among x us) (sym is) ∙ same x
        ∙ sym (among_filter (λ y. not (bytes_eq y u)) x vs ∙ ap (λ b. is_among x vs && not b) (other_text x u ∙ is) ∙ all_of (is_among x vs))
      where
        all_of : (b : Bool) → (b && true) ≡ b
        all_of true = refl
        all_of false = refl

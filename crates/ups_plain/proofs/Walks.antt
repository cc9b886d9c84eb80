-- Walks over a history: what holds of the entries that a loop has gone through.
use Rattle.std.proofs.Common.{◌≡◌, ℕ, ◌<◌, ◌≤◌, ◌+◌, Bool, true, false, ◌&&◌, ◌||◌, List, [], ◌∷◌, ◌++◌, length, filter, take, drop, get_or, refl, sym, ap, ◌∙◌, arith}
use Rattle.std.specs.Prelude.{if◌then◌else◌, Option}
use Rattle.std.specs.Option.{option_or}
use Rattle.std.specs.List.{list_any, filter_map}
use Rattle.std.proofs.lemmas.List.{take_all, take_more, drop_more, drop_all}
use Rattle.std.proofs.lemmas.List.Elements.{filter-append, filter_map-append}
use Rattle.ups_life.specs.declared.entry.Entry.{Entry}
use Rattle.ups_cycle.specs.declared.state.StepState.{StepState}
use Rattle.ups_life.specs.Steps.{past, is_on, state, state_then, finished, final_at}
use Rattle.ups_life.proofs.Rows.{past_more}

-- PLACES

pub at_most : (a b : ℕ) → a < b → a ≤ b
at_most a b h = omega arith

pub next : (a b : ℕ) → a < b → a + 1 ≤ b
next a b h = omega arith

pub later : (a b : ℕ) → a ≤ b → a ≤ b + 1
later a b h = omega arith

pub below : (a b c : ℕ) → a < b → b ≤ c → a < c
below a b c h k = omega arith

-- ENTRIES

-- one more entry
pub walk_step : {A X : Type 0} (f : List (Entry A) → X) (history : List (Entry A)) (i : ℕ) (e : Entry A) (x : X) → i < length history → e ≡ get_or history i e → x ≡ f (e ∷ past (take i history)) → x ≡ f (past (take (i + 1) history))
walk_step f history i e x low is h = h ∙ ap f (sym (past_more history i e low is))

-- all of them
pub walk_end : {A X : Type 0} (f : List (Entry A) → X) (history : List (Entry A)) (i : ℕ) (x : X) → length history ≤ i → x ≡ f (past (take i history)) → x ≡ f (past history)
walk_end {A} f history i x all h = h ∙ ap (λ (l : List (Entry A)). f (past l)) (take_all i history all)

pub state_step : {A : Type 0} (es : List (Entry A)) (e : Entry A) (u : List ℕ) (before after : StepState) → before ≡ state es u → after ≡ (if is_on u e.request then state_then before e.request else before) → after ≡ state (e ∷ es) u
state_step es e u before after was step = step ∙ ap (λ (b : StepState). if is_on u e.request then state_then b e.request else b) was

pub final_step : {A : Type 0} (es : List (Entry A)) (e : Entry A) (u : List ℕ) (now : StepState) (before after : Option ℕ) → now ≡ state es u → before ≡ final_at es u
    → after ≡ (if is_on u e.request then option_or (finished now e.moment e.request) before else before) → after ≡ final_at (e ∷ es) u
final_step es e u now before after is was step =
    step
    ∙ ap (λ (b : StepState). if is_on u e.request then option_or (finished b e.moment e.request) before else before) is
    ∙ ap (λ (o : Option ℕ). if is_on u e.request then option_or (finished (state es u) e.moment e.request) o else o) was

-- LISTS

-- what is added for one more item
pub filter_step : {X : Type 0} (p : X → Bool) (xs : List X) (i : ℕ) (x : X) (before after : List X) → i < length xs → x ≡ get_or xs i x → before ≡ filter p (take i xs) → after ≡ before ++ filter p (x ∷ []) → after ≡ filter p (take (i + 1) xs)
filter_step p xs i x before after low is was step =
    step ∙ ap (λ l. l ++ filter p (x ∷ [])) was ∙ sym (filter-append p (take i xs) (x ∷ [])) ∙ ap (filter p) (sym (take_more xs i x low ∙ ap (λ y. take i xs ++ y ∷ []) (sym is)))

pub filter_map_step : {X Y : Type 0} (f : X → Option Y) (xs : List X) (i : ℕ) (x : X) (before after : List Y) → i < length xs → x ≡ get_or xs i x → before ≡ filter_map f (take i xs) → after ≡ before ++ filter_map f (x ∷ []) → after ≡ filter_map f (take (i + 1) xs)
filter_map_step f xs i x before after low is was step =
    step ∙ ap (λ l. l ++ filter_map f (x ∷ [])) was ∙ sym (filter_map-append f (take i xs) (x ∷ [])) ∙ ap (filter_map f) (sym (take_more xs i x low ∙ ap (λ y. take i xs ++ y ∷ []) (sym is)))

-- one of a list passes a test
any_here : {X : Type 0} (p : X → Bool) (xs : List X) (i : ℕ) (x : X) → i < length xs → x ≡ get_or xs i x → list_any p (drop i xs) ≡ (p x || list_any p (drop (i + 1) xs))
any_here p xs i x low is = ap (list_any p) (drop_more xs i x low ∙ ap (λ y. y ∷ drop (i + 1) xs) (sym is))

pub any_found : {X : Type 0} (p : X → Bool) (xs : List X) (i : ℕ) (x : X) → i < length xs → x ≡ get_or xs i x → list_any p xs ≡ list_any p (drop i xs) → p x ≡ true → true ≡ list_any p xs
any_found p xs i x low is was h = sym (was ∙ any_here p xs i x low is ∙ ap (λ b. b || list_any p (drop (i + 1) xs)) h)

pub any_later : {X : Type 0} (p : X → Bool) (xs : List X) (i : ℕ) (x : X) → i < length xs → x ≡ get_or xs i x → list_any p xs ≡ list_any p (drop i xs) → p x ≡ false → list_any p xs ≡ list_any p (drop (i + 1) xs)
any_later p xs i x low is was h = was ∙ any_here p xs i x low is ∙ ap (λ b. b || list_any p (drop (i + 1) xs)) h

pub any_none : {X : Type 0} (p : X → Bool) (xs : List X) (i : ℕ) → length xs ≤ i → list_any p xs ≡ list_any p (drop i xs) → false ≡ list_any p xs
any_none p xs i all was = sym (was ∙ ap (list_any p) (drop_all i xs all))

-- A CHOICE

pub if_so : {X : Type 0} (b : Bool) (x y z : X) → b ≡ true → z ≡ x → z ≡ (if b then x else y)
if_so true x y z h e = e
if_so false x y z h e = absurd cc

pub if_not : {X : Type 0} (b : Bool) (x y : X) → b ≡ false → y ≡ (if b then x else y)
if_not true x y h = absurd cc
if_not false x y h = refl

pub if_both : {X : Type 0} (a b : Bool) (x y z : X) → a ≡ true → z ≡ (if b then x else y) → z ≡ (if a && b then x else y)
if_both true b x y z h e = e
if_both false b x y z h e = absurd cc

pub if_neither : {X : Type 0} (a b : Bool) (x y : X) → a ≡ false → y ≡ (if a && b then x else y)
if_neither true b x y h = absurd cc
if_neither false b x y h = refl

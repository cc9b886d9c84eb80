-- The steps that stay are held after each entry, from their creation on.
use Rattle.std.proofs.Common.{◌≡◌, ℕ, Bool, true, false, ◌||◌, not, cond, List, [], ◌∷◌, ◌++◌, filter, refl, sym, ap, ◌∙◌}
use Rattle.std.specs.Str.{bytes_eq}
use Rattle.std.proofs.lemmas.List.{append-nil}
use Rattle.std.proofs.lemmas.List.Elements.{filter-append}
use Rattle.ups_life.specs.declared.entry.Entry.{Entry}
use Rattle.ups_life.specs.declared.request.Request.{Request}
use Rattle.ups_life.specs.declared.request.Request.TheVariants.{Create, Change, AskCancel, Set, Subscribe, Unsubscribe, Suspend, Ack, Sweep, Reserve}
use Rattle.ups_life.specs.Settings.{Settings}
use Rattle.ups_life.specs.Watching.{is_due, held, held_after, is_among}
use Rattle.ups_life.proofs.Texts.{text_is_itself}
use Rattle.ups_compact.specs.Compacting.{is_left}
use Rattle.ups_compact.proofs.Off.{other}

or_true : (b : Bool) → b || true ≡ true
or_true true = refl
or_true false = refl

-- where each of the steps passes a test, the test leaves the same ones of them
swept : (steps : List (List ℕ)) (p : List ℕ → Bool) (xs : List (List ℕ)) → ((u : List ℕ) → is_among u steps ≡ true → is_among u xs ≡ true → p u ≡ true)
    → filter (λ u. is_among u steps) xs ≡ filter (λ u. is_among u steps) (filter p xs)
swept steps p [] h = refl
swept steps p (x ∷ xs) h =
    at (is_among x steps) refl (p x) refl (swept steps p xs (λ u a b. h u a (ap (λ (c : Bool). bytes_eq x u || c) b ∙ or_true (bytes_eq x u))))
  where
    at : (b : Bool) → is_among x steps ≡ b → (c : Bool) → p x ≡ c → filter (λ u. is_among u steps) xs ≡ filter (λ u. is_among u steps) (filter p xs)
        → cond b (x ∷ filter (λ u. is_among u steps) xs) (filter (λ u. is_among u steps) xs) ≡ filter (λ u. is_among u steps) (cond c (x ∷ filter p xs) (filter p xs))
    at true a true c more = ap (λ (ys : List (List ℕ)). x ∷ ys) more ∙ sym (ap (λ (b : Bool). cond b (x ∷ filter (λ u. is_among u steps) (filter p xs)) (filter (λ u. is_among u steps) (filter p xs))) a)
    at true a false c more = let holds = h x a (ap (λ (b : Bool). b || is_among x xs) (text_is_itself x)) in absurd cc
    at false a true c more = more ∙ sym (ap (λ (b : Bool). cond b (x ∷ filter (λ u. is_among u steps) (filter p xs)) (filter (λ u. is_among u steps) (filter p xs))) a)
    at false a false c more = more

-- the steps held after a request that stays, or is dropped
pub held_case : {A : Type 0} (s : Settings) (steps : List (List ℕ)) (m : ℕ) (ls es : List (Entry A)) (r : Request A) → held s ls ≡ filter (λ u. is_among u steps) (held s es)
    → (r ≡ Sweep → (u : List ℕ) → is_among u steps ≡ true → is_among u (held s es) ≡ true → not (is_due s es m u) ≡ true) → (b : Bool) → is_left steps r ≡ b
    → cond b (held_after s ls m (held s ls) r) (held s ls) ≡ filter (λ u. is_among u steps) (held_after s es m (held s es) r)
held_case s steps m ls es (Create v set) h sweep true is =
    ap (λ (xs : List (List ℕ)). xs ++ v ∷ []) h
    ∙ (ap (λ (b : Bool). filter (λ u. is_among u steps) (held s es) ++ cond b (v ∷ []) []) (sym is) ∙ sym (filter-append (λ u. is_among u steps) (held s es) (v ∷ [])))
held_case s steps m ls es (Create v set) h sweep false is =
    h ∙ (sym (append-nil (filter (λ u. is_among u steps) (held s es)))
    ∙ (ap (λ (b : Bool). filter (λ u. is_among u steps) (held s es) ++ cond b (v ∷ []) []) (sym is) ∙ sym (filter-append (λ u. is_among u steps) (held s es) (v ∷ []))))
held_case s steps m ls es Sweep h sweep true is = absurd cc
held_case s steps m ls es Sweep h sweep false is = h ∙ swept steps (λ u. not (is_due s es m u)) (held s es) (sweep refl)
held_case s steps m ls es (Change step state t) h sweep true is = h
held_case s steps m ls es (Change step state t) h sweep false is = h
held_case s steps m ls es (AskCancel step reasons) h sweep true is = h
held_case s steps m ls es (AskCancel step reasons) h sweep false is = h
held_case s steps m ls es (Set step t set) h sweep true is = h
held_case s steps m ls es (Set step t set) h sweep false is = h
held_case s steps m ls es (Subscribe target receiver lock) h sweep true is = h
held_case s steps m ls es (Subscribe target receiver lock) h sweep false is = h
held_case s steps m ls es (Unsubscribe place receiver) h sweep true is = h
held_case s steps m ls es (Unsubscribe place receiver) h sweep false is = h
held_case s steps m ls es (Suspend receiver) h sweep true is = h
held_case s steps m ls es (Suspend receiver) h sweep false is = h
held_case s steps m ls es (Ack upto) h sweep true is = h
held_case s steps m ls es (Ack upto) h sweep false is = h
held_case s steps m ls es (Reserve v) h sweep true is = h
held_case s steps m ls es (Reserve v) h sweep false is = h

pub among_left : (steps : List (List ℕ)) (u : List ℕ) → is_among u steps ≡ true → (xs : List (List ℕ)) → is_among u (filter (λ v. is_among v steps) xs) ≡ is_among u xs
among_left steps u in' [] = refl
among_left steps u in' (x ∷ xs) = at (is_among x steps) refl (among_left steps u in' xs)
  where
    at : (b : Bool) → is_among x steps ≡ b → is_among u (filter (λ v. is_among v steps) xs) ≡ is_among u xs → is_among u (cond b (x ∷ filter (λ v. is_among v steps) xs) (filter (λ v. is_among v steps) xs)) ≡ bytes_eq x u || is_among u xs
    at true a h = ap (λ (b : Bool). bytes_eq x u || b) h
    at false a h = h ∙ sym (ap (λ (b : Bool). b || is_among u xs) (other steps u x in' a))

pub all_among : (xs ys : List (List ℕ)) → ((u : List ℕ) → is_among u xs ≡ true → is_among u ys ≡ true) → filter (λ u. is_among u ys) xs ≡ xs
all_among [] ys h = refl
all_among (x ∷ xs) ys h =
    ap (λ (b : Bool). cond b (x ∷ filter (λ u. is_among u ys) xs) (filter (λ u. is_among u ys) xs)) (h x (ap (λ (b : Bool). b || is_among x xs) (text_is_itself x)))
    ∙ ap (λ (zs : List (List ℕ)). x ∷ zs) (all_among xs ys (λ u a. h u (ap (λ (b : Bool). bytes_eq x u || b) a ∙ or_true (bytes_eq x u))))

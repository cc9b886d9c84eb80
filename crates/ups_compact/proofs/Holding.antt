-- What is held of a step that stays.
use Rattle.std.proofs.Common.{◌≡◌, ℕ, Bool, true, false, cond, List, [], ◌∷◌, Option, refl, sym, ap, ◌∙◌}
use Rattle.std.specs.Option.{option_or, option_map}
use Rattle.ups_dataset.specs.Data.{El, laid_over}
use Rattle.ups_cycle.specs.declared.state.StepState.{StepState}
use Rattle.ups_life.specs.declared.entry.Entry.{Entry}
use Rattle.ups_life.specs.Settings.{Settings}
use Rattle.ups_life.specs.Steps.{Claim, is_on, state_then, state, claimed, claim, right, finished, final_at, given, gives, row, row_of}
use Rattle.ups_life.specs.Watching.{is_among}
use Rattle.ups_compact.specs.Compacting.{left}
use Rattle.ups_compact.proofs.Off.{does_some, plain, off}

pub state_plain : {A : Type 0} (steps : List (List ℕ)) (u : List ℕ) → is_among u steps ≡ true → (es : List (Entry A)) → state (plain steps es) u ≡ state es u
state_plain steps u in' [] = refl
state_plain {A} steps u in' (e ∷ es) = at (does_some steps e.request) refl (state_plain steps u in' es)
  where
    at : (b : Bool) → does_some steps e.request ≡ b → state (plain steps es) u ≡ state es u → state (cond b (e ∷ plain steps es) (plain steps es)) u ≡ state (e ∷ es) u
    at true is h = ap (λ (x : StepState). cond (is_on u e.request) (state_then x e.request) x) h
    at false is h = h ∙ sym (ap (λ (b : Bool). cond b (state_then (state es u) e.request) (state es u)) (off steps u e.request in' is))

pub claim_plain : {A : Type 0} (steps : List (List ℕ)) (u : List ℕ) → is_among u steps ≡ true → (es : List (Entry A)) → claim (plain steps es) u ≡ claim es u
claim_plain steps u in' [] = refl
claim_plain {A} steps u in' (e ∷ es) = at (does_some steps e.request) refl (claim_plain steps u in' es)
  where
    at : (b : Bool) → does_some steps e.request ≡ b → claim (plain steps es) u ≡ claim es u → claim (cond b (e ∷ plain steps es) (plain steps es)) u ≡ claim (e ∷ es) u
    at true is h = ap (λ (x : Option Claim). cond (is_on u e.request) (option_or (claimed e) x) x) h
    at false is h = h ∙ sym (ap (λ (b : Bool). cond b (option_or (claimed e) (claim es u)) (claim es u)) (off steps u e.request in' is))

pub final_plain : {A : Type 0} (steps : List (List ℕ)) (u : List ℕ) → is_among u steps ≡ true → (es : List (Entry A)) → final_at (plain steps es) u ≡ final_at es u
final_plain steps u in' [] = refl
final_plain {A} steps u in' (e ∷ es) = at (does_some steps e.request) refl (final_plain steps u in' es)
  where
    at : (b : Bool) → does_some steps e.request ≡ b → final_at (plain steps es) u ≡ final_at es u → final_at (cond b (e ∷ plain steps es) (plain steps es)) u ≡ final_at (e ∷ es) u
    at true is h =
        ap (λ (x : StepState). cond (is_on u e.request) (option_or (finished x e.moment e.request) (final_at (plain steps es) u)) (final_at (plain steps es) u)) (state_plain steps u in' es)
        ∙ ap (λ (x : Option ℕ). cond (is_on u e.request) (option_or (finished (state es u) e.moment e.request) x) x) h
    at false is h = h ∙ sym (ap (λ (b : Bool). cond b (option_or (finished (state es u) e.moment e.request) (final_at es u)) (final_at es u)) (off steps u e.request in' is))

-- the attributes after one entry more
pub row_next : {A : Type 0} (s : Settings) (u : List ℕ) (e : Entry A) (xs es : List (Entry A)) → state xs u ≡ state es u → row s xs u ≡ row s es u → row s (e ∷ xs) u ≡ row s (e ∷ es) u
row_next s u e xs es p q =
    ap (λ (x : StepState). laid_over (gives s.offset x u e) (row s xs u)) p ∙ ap (λ (x : List El). laid_over (gives s.offset (state es u) u e) x) q

pub row_plain : {A : Type 0} (s : Settings) (steps : List (List ℕ)) (u : List ℕ) → is_among u steps ≡ true → (es : List (Entry A)) → row s (plain steps es) u ≡ row s es u
row_plain s steps u in' [] = refl
row_plain {A} s steps u in' (e ∷ es) = at (does_some steps e.request) refl (row_plain s steps u in' es)
  where
    at : (b : Bool) → does_some steps e.request ≡ b → row s (plain steps es) u ≡ row s es u → row s (cond b (e ∷ plain steps es) (plain steps es)) u ≡ row s (e ∷ es) u
    at true is h = row_next s u e (plain steps es) es (state_plain steps u in' es) h
    at false is h = h ∙ sym (ap (λ (b : Bool). laid_over (cond b (given s.offset e.moment (state es u) e.request) []) (row s es u)) (off steps u e.request in' is))

pub row_of_plain : {A : Type 0} (s : Settings) (steps : List (List ℕ)) (u : List ℕ) → is_among u steps ≡ true → (es : List (Entry A)) → row_of s (plain steps es) u ≡ row_of s es u
row_of_plain s steps u in' es =
    let r = row_plain s steps u in' es in
    let t = state_plain steps u in' es in
    let c = ap (λ (x : Option Claim). option_map (λ (k : Claim). k.transaction) x) (claim_plain steps u in' es) in
    let f = final_plain steps u in' es in
    ap (λ (x : List El). record { attributes = x; state = state (plain steps es) u; transaction = right (plain steps es) u; final_at = final_at (plain steps es) u }) r
    ∙ (ap (λ (x : StepState). record { attributes = row s es u; state = x; transaction = right (plain steps es) u; final_at = final_at (plain steps es) u }) t
    ∙ (ap (λ (x : Option (List ℕ)). record { attributes = row s es u; state = state es u; transaction = x; final_at = final_at (plain steps es) u }) c
    ∙ ap (λ (x : Option ℕ). record { attributes = row s es u; state = state es u; transaction = right es u; final_at = x }) f))

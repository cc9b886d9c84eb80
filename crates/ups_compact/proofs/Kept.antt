-- What is kept for some steps, with the sweeps that removed one of them, says of each of them what the history said.
use Rattle.std.proofs.Common.{◌≡◌, ℕ, suc, Bool, true, false, ◌||◌, not, cond, List, [], ◌∷◌, ◌++◌, length, filter, Option, None, Some, refl, sym, ap, ◌∙◌, arith}
use Rattle.std.specs.Prelude.{nat_lt}
use Rattle.std.specs.Str.{bytes_eq}
use Rattle.std.proofs.lemmas.Bool.Decides.{nat_tests}
use Rattle.ups_dataset.specs.Data.{El}
use Rattle.ups_life.specs.declared.entry.Entry.{Entry}
use Rattle.ups_life.specs.declared.row.Row.{Row}
use Rattle.ups_life.specs.declared.request.Request.{Request}
use Rattle.ups_life.specs.declared.request.Request.TheVariants.{Create, Sweep, Reserve}
use Rattle.ups_life.specs.declared.peer.Peer.{Peer}
use Rattle.ups_life.specs.Settings.{Settings}
use Rattle.ups_life.specs.Steps.{uses_uid, used, state, claim, row, row_of}
use Rattle.ups_life.specs.Watching.{cover, watch, is_due, held, held_after, is_among, is_held, known, removed}
use Rattle.ups_compact.specs.Compacting.{is_about, is_left, sweeps_some, is_left_for, reservation, left_for}
use Rattle.ups_compact.proofs.Off.{does_some, plain, does_less}
use Rattle.ups_compact.proofs.Holding.{state_plain, claim_plain, row_plain, row_of_plain}
use Rattle.ups_compact.proofs.Watching.{watch_plain, due_plain}
use Rattle.ups_compact.proofs.Covering.{cover_plain}
use Rattle.ups_compact.proofs.Staying.{held_case, among_left}

-- the reservation of a UID, in the place of an entry
abbrev pub reserved_by : {A : Type 0} → Entry A → List ℕ → Entry A
reserved_by e v = record { caller = e.caller; ae = e.ae; moment = e.moment; request = Reserve v }

-- what a reservation does not change stays as it is with what remains of an entry
module _ {A X : Type 0} (e : Entry A) (f : List (Entry A) → X) (same : (v : List ℕ) (xs : List (Entry A)) → f (reserved_by e v ∷ xs) ≡ f xs) where
  pub with_reservation : (r : Request A) (xs : List (Entry A)) → f (reservation e r ++ xs) ≡ f xs
  with_reservation (Create v set) xs = same v xs
  with_reservation r xs = refl

-- without its sweeps and reservations it is what is left without reservations
pub plain_kept : {A : Type 0} (s : Settings) (steps : List (List ℕ)) (es : List (Entry A)) → plain steps (left_for s steps es) ≡ plain steps es
plain_kept s steps [] = refl
plain_kept {A} s steps (e ∷ es) = at (is_left steps e.request) refl (sweeps_some s steps es e.moment e.request) (plain_kept s steps es)
  where
    at : (b : Bool) → is_left steps e.request ≡ b → (c : Bool) → plain steps (left_for s steps es) ≡ plain steps es
        → plain steps (cond (b || c) (e ∷ left_for s steps es) (reservation e e.request ++ left_for s steps es)) ≡ plain steps (e ∷ es)
    at true is c h = ap (λ (xs : List (Entry A)). cond (does_some steps e.request) (e ∷ xs) xs) h
    at false is true h = ap (λ (xs : List (Entry A)). cond (does_some steps e.request) (e ∷ xs) xs) h
    at false is false h =
        with_reservation e (plain steps) (λ v xs. refl) e.request (left_for s steps es)
        ∙ h
        ∙ sym (ap (λ (b : Bool). cond b (e ∷ plain steps es) (plain steps es)) (does_less steps e.request is))

-- so what is kept says what the history says
module _ {A X : Type 0} (s : Settings) (steps : List (List ℕ)) (f : List (Entry A) → X) (same : (xs : List (Entry A)) → f (plain steps xs) ≡ f xs) where
  pub said_kept : (es : List (Entry A)) → f (left_for s steps es) ≡ f es
  said_kept es = sym (same (left_for s steps es)) ∙ ap f (plain_kept s steps es) ∙ same es

module _ {A : Type 0} (s : Settings) (steps : List (List ℕ)) (u : List ℕ) (in' : is_among u steps ≡ true) (es : List (Entry A)) where
  pub state_kept : state (left_for s steps es) u ≡ state es u
  state_kept = said_kept s steps (λ (xs : List (Entry A)). state xs u) (state_plain steps u in') es

  pub claim_kept : claim (left_for s steps es) u ≡ claim es u
  claim_kept = said_kept s steps (λ (xs : List (Entry A)). claim xs u) (claim_plain steps u in') es

  pub row_kept : row s (left_for s steps es) u ≡ row s es u
  row_kept = said_kept s steps (λ (xs : List (Entry A)). row s xs u) (row_plain s steps u in') es

  pub row_of_kept : row_of s (left_for s steps es) u ≡ row_of s es u
  row_of_kept = said_kept s steps (λ (xs : List (Entry A)). row_of s xs u) (row_of_plain s steps u in') es

  pub watch_kept : (w : List ℕ) → watch s (left_for s steps es) w u ≡ watch s es w u
  watch_kept w = said_kept s steps (λ (xs : List (Entry A)). watch s xs w u) (watch_plain s steps w u in') es

  pub due_kept : (m : ℕ) → is_due s (left_for s steps es) m u ≡ is_due s es m u
  due_kept m = said_kept s steps (λ (xs : List (Entry A)). is_due s xs m u) (due_plain s steps u m in') es

pub cover_kept : {A : Type 0} (s : Settings) (steps : List (List ℕ)) (peers : List Peer) (w : List ℕ) (attributes : List El) (es : List (Entry A)) → cover peers (left_for s steps es) w attributes ≡ cover peers es w attributes
cover_kept {A} s steps peers w attributes es = said_kept s steps (λ (xs : List (Entry A)). cover peers xs w attributes) (cover_plain steps peers w attributes) es

-- WHICH OF THE STEPS ARE HELD

-- tests that agree on these steps leave the same ones of them
tests_swap : (o p q : List ℕ → Bool) → ((u : List ℕ) → o u ≡ true → p u ≡ q u) → (xs : List (List ℕ)) → filter p (filter o xs) ≡ filter o (filter q xs)
tests_swap o p q same [] = refl
tests_swap o p q same (x ∷ xs) = at (o x) refl (q x) refl (tests_swap o p q same xs)
  where
    at : (b : Bool) → o x ≡ b → (c : Bool) → q x ≡ c → filter p (filter o xs) ≡ filter o (filter q xs) → filter p (cond b (x ∷ filter o xs) (filter o xs)) ≡ filter o (cond c (x ∷ filter q xs) (filter q xs))
    at true is true so h =
        ap (λ (b : Bool). cond b (x ∷ filter p (filter o xs)) (filter p (filter o xs))) (same x is ∙ so)
        ∙ ap (λ (ys : List (List ℕ)). x ∷ ys) h
        ∙ sym (ap (λ (b : Bool). cond b (x ∷ filter o (filter q xs)) (filter o (filter q xs))) is)
    at true is false so h = ap (λ (b : Bool). cond b (x ∷ filter p (filter o xs)) (filter p (filter o xs))) (same x is ∙ so) ∙ h
    at false is true so h = h ∙ sym (ap (λ (b : Bool). cond b (x ∷ filter o (filter q xs)) (filter o (filter q xs))) is)
    at false is false so h = h

-- a test that takes none of these steps leaves them
not_swept : (o q : List ℕ → Bool) (xs : List (List ℕ)) → nat_lt 0 (length (filter o (filter q xs))) ≡ false → filter o xs ≡ filter o (filter (λ u. not (q u)) xs)
not_swept o q [] h = refl
not_swept o q (x ∷ xs) h = at (o x) refl (q x) refl h (λ g. not_swept o q xs g)
  where
    at : (b : Bool) → o x ≡ b → (c : Bool) → q x ≡ c → nat_lt 0 (length (filter o (cond c (x ∷ filter q xs) (filter q xs)))) ≡ false
        → (nat_lt 0 (length (filter o (filter q xs))) ≡ false → filter o xs ≡ filter o (filter (λ u. not (q u)) xs))
        → cond b (x ∷ filter o xs) (filter o xs) ≡ filter o (cond (not c) (x ∷ filter (λ u. not (q u)) xs) (filter (λ u. not (q u)) xs))
    at true is true so g rest = absurd (taken (length (filter o (filter q xs))) (sym (ap (λ (b : Bool). nat_lt 0 (length (cond b (x ∷ filter o (filter q xs)) (filter o (filter q xs))))) is) ∙ g))
      where
        taken : (n : ℕ) → nat_lt 0 (suc n) ≡ false → ⊥
        taken n e = grind (arith, nat_tests)
    at true is false so g rest =
        ap (λ (ys : List (List ℕ)). x ∷ ys) (rest g)
        ∙ sym (ap (λ (b : Bool). cond b (x ∷ filter o (filter (λ u. not (q u)) xs)) (filter o (filter (λ u. not (q u)) xs))) is)
    at false is true so g rest = rest (sym (ap (λ (b : Bool). nat_lt 0 (length (cond b (x ∷ filter o (filter q xs)) (filter o (filter q xs))))) is) ∙ g)
    at false is false so g rest = rest g ∙ sym (ap (λ (b : Bool). cond b (x ∷ filter o (filter (λ u. not (q u)) xs)) (filter o (filter (λ u. not (q u)) xs))) is)

abbrev some_of : List (List ℕ) → List (List ℕ) → List (List ℕ)
some_of steps xs = filter (λ u. is_among u steps) xs

held_then : {A : Type 0} (s : Settings) (steps : List (List ℕ)) (m : ℕ) (es : List (Entry A)) (r : Request A) (b : Bool) → is_left steps r ≡ b → (c : Bool) → sweeps_some s steps es m r ≡ c
    → held s (left_for s steps es) ≡ some_of steps (held s es)
    → cond (b || c) (held_after s (left_for s steps es) m (held s (left_for s steps es)) r) (held s (left_for s steps es)) ≡ some_of steps (held_after s es m (held s es) r)
held_then s steps m es Sweep true is c so h = absurd cc
held_then s steps m es Sweep false is true so h =
    ap (filter (λ u. not (is_due s (left_for s steps es) m u))) h
    ∙ tests_swap (λ u. is_among u steps) (λ u. not (is_due s (left_for s steps es) m u)) (λ u. not (is_due s es m u)) (λ u in'. ap not (due_kept s steps u in' es m)) (held s es)
held_then s steps m es Sweep false is false so h = h ∙ not_swept (λ u. is_among u steps) (is_due s es m) (held s es) so
held_then s steps m es r true is c so h = held_case s steps m (left_for s steps es) es r h (λ e. absurd cc) true is
held_then s steps m es r false is true so h = absurd cc
held_then s steps m es r false is false so h = held_case s steps m (left_for s steps es) es r h (λ e. absurd cc) false is

held_if : {A : Type 0} (s : Settings) (e : Entry A) (ls : List (Entry A)) (b : Bool) → held s (cond b (e ∷ ls) (reservation e e.request ++ ls)) ≡ cond b (held_after s ls e.moment (held s ls) e.request) (held s ls)
held_if s e ls true = refl
held_if s e ls false = with_reservation e (held s) (λ v xs. refl) e.request ls

-- those that are held, in order
pub held_kept : {A : Type 0} (s : Settings) (steps : List (List ℕ)) (es : List (Entry A)) → held s (left_for s steps es) ≡ filter (λ u. is_among u steps) (held s es)
held_kept s steps [] = refl
held_kept s steps (e ∷ es) =
    held_if s e (left_for s steps es) (is_left_for s steps e es)
    ∙ held_then s steps e.moment es e.request (is_left steps e.request) refl (sweeps_some s steps es e.moment e.request) refl (held_kept s steps es)

pub is_held_kept : {A : Type 0} (s : Settings) (steps : List (List ℕ)) (es : List (Entry A)) (u : List ℕ) → is_among u steps ≡ true → is_held s (left_for s steps es) u ≡ is_held s es u
is_held_kept s steps es u in' = ap (λ (xs : List (List ℕ)). is_among u xs) (held_kept s steps es) ∙ among_left steps u in' (held s es)

pub known_kept : {A : Type 0} (s : Settings) (steps : List (List ℕ)) (es : List (Entry A)) (step : Option (List ℕ)) → is_about steps step ≡ true → known s (left_for s steps es) step ≡ known s es step
known_kept s steps es None in' = refl
known_kept {A} s steps es (Some u) in' =
    ap (λ (b : Bool). cond b (Some (row_of s (left_for s steps es) u)) None) (is_held_kept s steps es u in')
    ∙ ap (λ (x : Row A). cond (is_held s es u) (Some x) None) (row_of_kept s steps u in' es)

-- a sweep that is kept removes those of these steps that it removed
pub removed_kept : {A : Type 0} (s : Settings) (steps : List (List ℕ)) (es : List (Entry A)) (m : ℕ) → removed s (left_for s steps es) m ≡ filter (λ u. is_among u steps) (removed s es m)
removed_kept s steps es m =
    ap (filter (is_due s (left_for s steps es) m)) (held_kept s steps es)
    ∙ tests_swap (λ u. is_among u steps) (is_due s (left_for s steps es) m) (is_due s es m) (λ u in'. due_kept s steps u in' es m) (held s es)

-- WHICH UIDS ARE USED: those that were
pub used_kept : {A : Type 0} (s : Settings) (steps : List (List ℕ)) (u : List ℕ) (es : List (Entry A)) → used (left_for s steps es) u ≡ used es u
used_kept s steps u [] = refl
used_kept {A} s steps u (e ∷ es) = at (is_left steps e.request) refl (sweeps_some s steps es e.moment e.request) (used_kept s steps u es)
  where
    -- of what is not left a creation alone uses a UID, which is reserved then
    remains : (r : Request A) → is_left steps r ≡ false → used (left_for s steps es) u ≡ used es u → used (reservation e r ++ left_for s steps es) u ≡ uses_uid u r || used es u
    remains (Create v set) is rest = ap (λ (b : Bool). bytes_eq v u || b) rest
    remains (Reserve v) is rest = absurd cc
    remains r is rest = rest

    at : (b : Bool) → is_left steps e.request ≡ b → (c : Bool) → used (left_for s steps es) u ≡ used es u → used (cond (b || c) (e ∷ left_for s steps es) (reservation e e.request ++ left_for s steps es)) u ≡ used (e ∷ es) u
    at true is c rest = ap (λ (b : Bool). uses_uid u e.request || b) rest
    at false is true rest = ap (λ (b : Bool). uses_uid u e.request || b) rest
    at false is false rest = remains e.request is rest

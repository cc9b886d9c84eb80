-- The steps held after a history, and after one more entry.
use Rattle.std.proofs.Common.{◌≡◌, ℕ, Bool, true, false, not, ◌||◌, ◌&&◌, cond, List, [], ◌∷◌, ◌++◌, map, filter, Option, None, Some, refl, sym, ap, ◌∙◌}
use Rattle.std.specs.Option.{option_or, option_map, unwrap_or}
use Rattle.std.specs.Str.{bytes_eq}
use Rattle.std.specs.List.{list_any}
use Rattle.ups_life.specs.declared.request.Request.{Request}
use Rattle.ups_life.specs.declared.request.Request.TheVariants.{Create, Change, AskCancel, Set, Subscribe, Unsubscribe, Suspend, Ack, Sweep, Reserve}
use Rattle.ups_life.specs.declared.entry.Entry.{Entry}
use Rattle.ups_life.specs.declared.row.Row.{Row}
use Rattle.ups_life.specs.declared.row.Holder.{Holder}
use Rattle.ups_cycle.specs.declared.status.Status.TheVariants.{Success}
use Rattle.ups_life.specs.Settings.{Settings}
use Rattle.ups_life.specs.Distinct.{Distinct}
use Rattle.ups_life.specs.Verdict.{verdict}
use Rattle.ups_life.specs.Steps.{Claim, is_on, is_step, step_of, uses_uid, used, row_of, row_after, nothing, holder, claim, taken}
use Rattle.ups_life.specs.Watching.{is_among, is_due, held, held_after, is_held, known, removed}
use Rattle.ups_life.specs.History.{repeats, legal}
use Rattle.ups_life.proofs.Texts.{same_text, text_is_itself}
use Rattle.ups_life.proofs.Accepted.{succeeded, legal_tail, created_fresh, on_held, neither, differ}
use Rattle.ups_life.proofs.HeldOnce.{held_once, creates_none}
use Rattle.ups_tables.specs.declared.rows.HeldStep.{HeldStep}
use Rattle.ups_tables.specs.Live.{is_of_no_step}
use Rattle.ups_tables.proofs.Among.{or_first, or_second, among_filter}
use Rattle.ups_keep.proofs.Waiting.{other_text}
use Rattle.ups_life.proofs.OneHolder.{not_on}
use Rattle.ups_tables.proofs.Finals.{not_held}
use Rattle.ups_tables.specs.HeldSteps.{claims_it, held_step, held_steps, step_at, row_in, row_of_step, holder_in, holder_of, put_step}

-- a step is found exactly where it is held
found_among : {A : Type 0} (s : Settings) (es : List (Entry A)) (u : List ℕ) (vs : List (List ℕ))
    → step_at u (map (held_step s es) vs) ≡ cond (list_any (λ v. bytes_eq v u) vs) (Some (held_step s es u)) None
found_among s es u [] = refl
found_among {A} s es u (v ∷ vs) = here (bytes_eq v u) (list_any (λ w. bytes_eq w u) vs) _ (λ e. ap (λ w. Some (held_step s es w)) (same_text v u e)) (found_among s es u vs)
  where
    here : (b more : Bool) (rest : Option (HeldStep A)) → (b ≡ true → Some (held_step s es v) ≡ Some (held_step s es u)) → rest ≡ cond more (Some (held_step s es u)) None
        → cond b (Some (held_step s es v)) rest ≡ cond (b || more) (Some (held_step s es u)) None
    here true more rest same later = same refl
    here false more rest same later = later

pub step_at-held_steps : {A : Type 0} (s : Settings) (es : List (Entry A)) (u : List ℕ) → step_at u (held_steps s es) ≡ cond (is_held s es u) (Some (held_step s es u)) None
step_at-held_steps s es u = found_among s es u (held s es)

-- what is known of it is its row
pub row_in-held_steps : {A : Type 0} (s : Settings) (es : List (Entry A)) (u : List ℕ) → row_in u (held_steps s es) ≡ known s es (Some u)
row_in-held_steps {A} s es u = ap (option_map (λ (h : HeldStep A). h.row)) (step_at-held_steps s es u) ∙ here (is_held s es u)
  where
    here : (b : Bool) → option_map (λ (h : HeldStep A). h.row) (cond b (Some (held_step s es u)) None) ≡ cond b (Some (row_of s es u)) None
    here true = refl
    here false = refl

pub row_of_step-held_steps : {A : Type 0} (s : Settings) (es : List (Entry A)) (step : Option (List ℕ)) → row_of_step step (held_steps s es) ≡ known s es step
row_of_step-held_steps s es None = refl
row_of_step-held_steps s es (Some u) = row_in-held_steps s es u

-- and who has claimed it
pub holder_in-held_steps : {A : Type 0} (s : Settings) (es : List (Entry A)) (u : List ℕ) → holder_in (step_at u (held_steps s es)) ≡ holder_of s es u
holder_in-held_steps {A} s es u = ap (holder_in {A = A}) (step_at-held_steps s es u) ∙ here (is_held s es u)
  where
    here : (b : Bool) → holder_in {A = A} (cond b (Some (held_step s es u)) None) ≡ cond b (holder es u) None
    here true = refl
    here false = refl

-- an entry on another step leaves what is held of u
on_another : {A : Type 0} (s : Settings) (e : Entry A) (es : List (Entry A)) (u : List ℕ) → is_on u e.request ≡ false → held_step s (e ∷ es) u ≡ held_step s es u
on_another s e es u off = rw off refl

-- of a step that was never created there is nothing, and nobody has claimed it
never : {A : Type 0} (s : Settings) (es : List (Entry A)) (u : List ℕ) → legal s es ≡ true → used es u ≡ false → held_step s es u ≡ record { step = u; row = nothing; holder = None }
never s [] u l f = refl
never {A} s (e ∷ es) u l f =
    let fresh = neither (uses_uid u e.request) (used es u) f in
    on_another s e es u (not_on s es u e.request (succeeded s e es l) fresh.1 (creates_none u e.request fresh.0)) ∙ never s es u (legal_tail s e es l) fresh.1

-- what is known of the step of a request that is allowed, and who has claimed it
record Known {A : Type 0} (s : Settings) (es : List (Entry A)) (u : List ℕ) : Type 0 where
  pub row : unwrap_or (known s es (Some u)) nothing ≡ row_of {A = A} s es u
  pub holder : holder_of s es u ≡ holder es u

creates_on : {A : Type 0} (es : List (Entry A)) (s : Settings) (u : List ℕ) (r : Request A) → verdict (known s es (step_of r)) (repeats es r) r ≡ Success → is_on u r ≡ true → is_held s es u ≡ false → used es u ≡ false
creates_on es s u (Create step set) d on free = ap (used es) (sym (same_text step u on)) ∙ created_fresh s es step set d
creates_on es s u (Change step to t) d on free = absurd (differ (is_held s es u) free (on_held s es u (Change step to t) d on refl))
creates_on es s u (AskCancel step reasons) d on free = absurd (differ (is_held s es u) free (on_held s es u (AskCancel step reasons) d on refl))
creates_on es s u (Set step t set) d on free = absurd (differ (is_held s es u) free (on_held s es u (Set step t set) d on refl))
creates_on es s u r d on free = absurd cc

seen : {A : Type 0} (s : Settings) (es : List (Entry A)) (u : List ℕ) (r : Request A) → legal s es ≡ true → verdict (known s es (step_of r)) (repeats es r) r ≡ Success → is_on u r ≡ true → Known s es u
seen {A} s es u r l d on = by (is_held s es u) refl
  where
    by : (b : Bool) → is_held s es u ≡ b → Known s es u
    by true e = record { row = rw e refl; holder = rw e refl }
    by false e =
        let nobody = never s es u l (creates_on es s u r d on e) in
        record {
          row = rw e (sym (ap (λ (h : HeldStep A). h.row) nobody));
          holder = rw e (sym (ap (λ (h : HeldStep A). h.holder) nobody));
        }

-- the claim of an entry before another
first_claim : (t : Option (List ℕ)) (h : Holder) (c : Option Claim)
    → option_map (λ (x : Claim). x.transaction) (option_or (option_map (λ uid. record { holder = h; transaction = uid }) t) c) ≡ option_or t (option_map (λ (x : Claim). x.transaction) c)
first_claim None h c = refl
first_claim (Some uid) h c = refl

first_holder : (t : Option (List ℕ)) (h : Holder) (c : Option Claim)
    → option_map (λ (x : Claim). x.holder) (option_or (option_map (λ uid. record { holder = h; transaction = uid }) t) c) ≡ option_or (option_map (λ uid. h) t) (option_map (λ (x : Claim). x.holder) c)
first_holder None h c = refl
first_holder (Some uid) h c = refl

-- what is held of a step after an entry on it
on_it : {A : Type 0} (s : Settings) (e : Entry A) (es : List (Entry A)) (u : List ℕ) → is_on u e.request ≡ true
    → held_step s (e ∷ es) u ≡ record { step = u; row = row_after s.offset e.moment (row_of s es u) e.request; holder = option_or (claims_it e) (holder es u) }
on_it s e es u on =
    let by : Holder = record { caller = e.caller; ae = e.ae } in
    rw (on, first_claim (taken e.request) by (claim es u), first_holder (taken e.request) by (claim es u)) refl

-- an entry on a step leaves what is held of each other
leaves : {A : Type 0} (s : Settings) (e : Entry A) (es : List (Entry A)) (u v : List ℕ) → step_of e.request ≡ Some u → bytes_eq v u ≡ false → held_step s (e ∷ es) v ≡ held_step s es v
leaves s e es u v is n = on_another s e es v (ap (is_step v) is ∙ other_text u v ∙ n)

-- so the steps of which none is u stay
unchanged : {A : Type 0} (s : Settings) (e : Entry A) (es : List (Entry A)) (u : List ℕ) (vs : List (List ℕ)) → step_of e.request ≡ Some u → list_any (λ v. bytes_eq v u) vs ≡ false
    → map (held_step s (e ∷ es)) vs ≡ map (held_step s es) vs
unchanged s e es u [] is none = refl
unchanged {A} s e es u (v ∷ vs) is none =
    let both = neither (bytes_eq v u) (list_any (λ w. bytes_eq w u) vs) none in
    let rest = unchanged s e es u vs is both.1 in
    ap (λ (h : HeldStep A). h ∷ map (held_step s (e ∷ es)) vs) (leaves s e es u v is both.0) ∙ ap (λ (l : List (HeldStep A)). held_step s es v ∷ l) rest

-- a step that is not among them goes last
added : {A : Type 0} (s : Settings) (es : List (Entry A)) (x : HeldStep A) (vs : List (List ℕ)) → list_any (λ v. bytes_eq v x.step) vs ≡ false → put_step x (map (held_step s es) vs) ≡ map (held_step s es) vs ++ x ∷ []
added s es x [] none = refl
added {A} s es x (v ∷ vs) none =
    let both = neither (bytes_eq v x.step) (list_any (λ w. bytes_eq w x.step) vs) none in
    ap (λ b. cond b (x ∷ map (held_step s es) vs) (held_step s es v ∷ put_step x (map (held_step s es) vs))) both.0 ∙ ap (λ (l : List (HeldStep A)). held_step s es v ∷ l) (added s es x vs both.1)

-- one that is keeps its place
replaced : {A : Type 0} (s : Settings) (e : Entry A) (es : List (Entry A)) (u : List ℕ) (vs : List (List ℕ)) → step_of e.request ≡ Some u → Distinct vs → list_any (λ v. bytes_eq v u) vs ≡ true
    → map (held_step s (e ∷ es)) vs ≡ put_step (held_step s (e ∷ es) u) (map (held_step s es) vs)
replaced s e es u [] is once there = absurd cc
replaced {A} s e es u (v ∷ vs) is (once, more) there =
    here (bytes_eq v u) refl there (replaced s e es u vs is more)
  where
    new : List ℕ → HeldStep A
    new = held_step s (e ∷ es)

    old : List ℕ → HeldStep A
    old = held_step s es

    here : (b : Bool) → bytes_eq v u ≡ b → b || list_any (λ w. bytes_eq w u) vs ≡ true → (list_any (λ w. bytes_eq w u) vs ≡ true → map new vs ≡ put_step (new u) (map old vs))
        → new v ∷ map new vs ≡ cond b (new u ∷ map old vs) (old v ∷ put_step (new u) (map old vs))
    here true same any later =
        let is_u = same_text v u same in
        ap (λ w. new w ∷ map new vs) is_u ∙ ap (λ (l : List (HeldStep A)). new u ∷ l) (unchanged s e es u vs is (ap (λ w. list_any (λ x. bytes_eq x w) vs) (sym is_u) ∙ once))
    here false other any later = ap (λ (h : HeldStep A). h ∷ map new vs) (leaves s e es u v is other) ∙ ap (λ (l : List (HeldStep A)). old v ∷ l) (later any)

map_push : {X Y : Type 0} (f : X → Y) (xs : List X) (x : X) → map f (xs ++ x ∷ []) ≡ map f xs ++ f x ∷ []
map_push f [] x = refl
map_push f (y ∷ ys) x = ap (λ l. f y ∷ l) (map_push f ys x)

-- the step of a request that is allowed is put among those that were held
put_after : {A : Type 0} (s : Settings) (e : Entry A) (es : List (Entry A)) (u : List ℕ) (r : Request A) → e.request ≡ r → step_of r ≡ Some u → legal s es ≡ true
    → verdict (known s es (step_of r)) (repeats es r) r ≡ Success → map (held_step s (e ∷ es)) (held_after s es e.moment (held s es) r) ≡ put_step (held_step s (e ∷ es) u) (held_steps s es)
put_after {A} s e es u (Create step set) is on l d =
    let same : step ≡ u = cc in
    let fresh = created_fresh s es step set d in
    let none = not_held s es u (ap (used es) (sym same) ∙ fresh) in
    let there : step_of e.request ≡ Some u = ap step_of is ∙ on in
    ap (λ v. map (held_step s (e ∷ es)) (held s es ++ v ∷ [])) same
    ∙ map_push (held_step s (e ∷ es)) (held s es) u
    ∙ ap (λ (l : List (HeldStep A)). l ++ held_step s (e ∷ es) u ∷ []) (unchanged s e es u (held s es) there none)
    ∙ sym (added s es (held_step s (e ∷ es) u) (held s es) none)
put_after s e es u (Change step to t) is on l d =
    replaced s e es u (held s es) (ap step_of is ∙ on) (held_once s es l) (on_held s es u (Change step to t) d (ap (is_step u) on ∙ text_is_itself u) refl)
put_after s e es u (AskCancel step reasons) is on l d =
    replaced s e es u (held s es) (ap step_of is ∙ on) (held_once s es l) (on_held s es u (AskCancel step reasons) d (ap (is_step u) on ∙ text_is_itself u) refl)
put_after s e es u (Set step t set) is on l d =
    replaced s e es u (held s es) (ap step_of is ∙ on) (held_once s es l) (on_held s es u (Set step t set) d (ap (is_step u) on ∙ text_is_itself u) refl)
put_after s e es u r is on l d = absurd cc

-- what was held of the step of a request that is allowed
pub before_is : {A : Type 0} (s : Settings) (e : Entry A) (es : List (Entry A)) (u : List ℕ) → legal s es ≡ true → step_of e.request ≡ Some u
    → verdict (row_in u (held_steps s es)) (repeats es e.request) e.request ≡ Success → unwrap_or (row_in u (held_steps s es)) nothing ≡ row_of s es u
before_is {A} s e es u l on d =
    let known_row = row_in-held_steps s es u in
    let allowed : verdict (known s es (step_of e.request)) (repeats es e.request) e.request ≡ Success =
    ap (λ o. verdict (known s es o) (repeats es e.request) e.request) on ∙ ap (λ k. verdict k (repeats es e.request) e.request) (sym known_row) ∙ d in
    let was = seen s es u e.request l allowed (ap (is_step u) on ∙ text_is_itself u) in
    ap (λ (k : Option (Row A)). unwrap_or k nothing) known_row ∙ was.row

-- and its row then
pub after_is : {A : Type 0} (s : Settings) (e : Entry A) (es : List (Entry A)) (x : HeldStep A) → legal s es ≡ true → step_of e.request ≡ Some x.step
    → verdict (row_in x.step (held_steps s es)) (repeats es e.request) e.request ≡ Success
    → x.row ≡ row_after s.offset e.moment (unwrap_or (row_in x.step (held_steps s es)) nothing) e.request → x.row ≡ row_of s (e ∷ es) x.step
after_is {A} s e es x l on d row =
    row ∙ ap (λ k. row_after s.offset e.moment k e.request) (before_is s e es x.step l on d)
    ∙ sym (ap (λ (h : HeldStep A). h.row) (on_it s e es x.step (ap (is_step x.step) on ∙ text_is_itself x.step)))

-- THE STEPS HELD after a request that is allowed: its step, in its place or behind the others, with what the request makes
-- of what was held of it
pub held_steps-after : {A : Type 0} (s : Settings) (e : Entry A) (es : List (Entry A)) (x : HeldStep A) → legal s es ≡ true
    → step_of e.request ≡ Some x.step
    → verdict (row_in x.step (held_steps s es)) (repeats es e.request) e.request ≡ Success
    → x.row ≡ row_after s.offset e.moment (unwrap_or (row_in x.step (held_steps s es)) nothing) e.request
    → x.holder ≡ option_or (claims_it e) (holder_in (step_at x.step (held_steps s es)))
    → held_steps s (e ∷ es) ≡ put_step x (held_steps s es)
held_steps-after {A} s e es x l on d row by =
    let known_row = row_in-held_steps s es x.step in
    let allowed : verdict (known s es (step_of e.request)) (repeats es e.request) e.request ≡ Success =
    ap (λ o. verdict (known s es o) (repeats es e.request) e.request) on ∙ ap (λ k. verdict k (repeats es e.request) e.request) (sym known_row) ∙ d in
    let is_on_it = ap (is_step x.step) on ∙ text_is_itself x.step in
    let was = seen s es x.step e.request l allowed is_on_it in
    let row_is : x.row ≡ row_after s.offset e.moment (row_of s es x.step) e.request =
    row ∙ ap (λ k. row_after s.offset e.moment (unwrap_or k nothing) e.request) known_row ∙ ap (λ k. row_after s.offset e.moment k e.request) was.row in
    let holder_is : x.holder ≡ option_or (claims_it e) (holder es x.step) = by ∙ ap (option_or (claims_it e)) (holder_in-held_steps s es x.step ∙ was.holder) in
    let made : List ℕ → Row A → Option Holder → HeldStep A = λ v k h. record { step = v; row = k; holder = h } in
    let same : held_step s (e ∷ es) x.step ≡ x =
    on_it s e es x.step is_on_it ∙ ap (λ k. made x.step k (option_or (claims_it e) (holder es x.step))) (sym row_is) ∙ ap (made x.step x.row) (sym holder_is) in
    put_after s e es x.step e.request refl on l allowed ∙ ap (λ h. put_step h (held_steps s es)) same

-- an entry on no step leaves what is held of each
unmoved : {A : Type 0} (s : Settings) (e : Entry A) (es : List (Entry A)) (vs : List (List ℕ)) → ((v : List ℕ) → is_on v e.request ≡ false) → map (held_step s (e ∷ es)) vs ≡ map (held_step s es) vs
unmoved s e es [] off = refl
unmoved {A} s e es (v ∷ vs) off =
    ap (λ (h : HeldStep A). h ∷ map (held_step s (e ∷ es)) vs) (on_another s e es v (off v)) ∙ ap (λ (l : List (HeldStep A)). held_step s es v ∷ l) (unmoved s e es vs off)

-- so does a request of no step
pub steps_same : {A : Type 0} (s : Settings) (e : Entry A) (es : List (Entry A)) → is_of_no_step e.request ≡ true → held_steps s (e ∷ es) ≡ held_steps s es
steps_same {A} s e es none = at e.request none
  where
    off : (r : Request A) → is_of_no_step r ≡ true → (v : List ℕ) → is_on v r ≡ false
    off (Subscribe target receiver lock) h v = refl
    off (Unsubscribe place receiver) h v = refl
    off (Suspend receiver) h v = refl
    off (Ack upto) h v = refl
    off (Reserve step) h v = refl
    off r h v = absurd cc

    at : (r : Request A) → is_of_no_step r ≡ true → map (held_step s (e ∷ es)) (held_after s es e.moment (held s es) r) ≡ held_steps s es
    at (Subscribe target receiver lock) h = unmoved s e es (held s es) (off e.request none)
    at (Unsubscribe place receiver) h = unmoved s e es (held s es) (off e.request none)
    at (Suspend receiver) h = unmoved s e es (held s es) (off e.request none)
    at (Ack upto) h = unmoved s e es (held s es) (off e.request none)
    at (Reserve step) h = unmoved s e es (held s es) (off e.request none)
    at r h = absurd cc

-- a sweep leaves what is held of the steps that it doesn't remove
left : {A : Type 0} (s : Settings) (es : List (Entry A)) (p : List ℕ → Bool) (us : List (List ℕ)) → filter (λ (h : HeldStep A). p h.step) (map (held_step s es) us) ≡ map (held_step s es) (filter p us)
left s es p [] = refl
left {A} s es p (v ∷ vs) = at (p v) (left s es p vs)
  where
    rest : List (HeldStep A)
    rest = filter (λ (h : HeldStep A). p h.step) (map (held_step s es) vs)

    at : (b : Bool) → rest ≡ map (held_step s es) (filter p vs) → cond b (held_step s es v ∷ rest) rest ≡ map (held_step s es) (cond b (v ∷ filter p vs) (filter p vs))
    at true ih = ap (λ (l : List (HeldStep A)). held_step s es v ∷ l) ih
    at false ih = ih

same_within : {A : Type 0} (s : Settings) (es : List (Entry A)) (moment : ℕ) (due us : List (List ℕ)) → ((u : List ℕ) → is_among u us ≡ true → is_among u due ≡ is_due s es moment u) → filter (λ u. not (is_among u due)) us ≡ filter (λ u. not (is_due s es moment u)) us
same_within s es moment due [] h = refl
same_within s es moment due (u ∷ us) h =
    ap (λ b. cond (not b) (u ∷ filter (λ v. not (is_among v due)) us) (filter (λ v. not (is_among v due)) us)) (h u (or_first (bytes_eq u u) (is_among u us) (text_is_itself u)))
    ∙ ap (λ l. cond (not (is_due s es moment u)) (u ∷ l) l) (same_within s es moment due us (λ v m. h v (or_second (bytes_eq u v) (is_among v us) m)))

and_true : (a b : Bool) → a ≡ true → (a && b) ≡ b
and_true true b h = refl
and_true false b h = absurd cc

pub steps_sweep : {A : Type 0} (s : Settings) (e : Entry A) (es : List (Entry A)) (due : List (List ℕ)) (hs : List (HeldStep A)) → e.request ≡ Sweep → ((u : List ℕ) → is_among u due ≡ is_among u (removed s es e.moment)) → hs ≡ held_steps s es
    → filter (λ (h : HeldStep A). not (is_among h.step due)) hs ≡ held_steps s (e ∷ es)
steps_sweep {A} s e es due hs is gone kept =
    ap (filter (λ (h : HeldStep A). not (is_among h.step due))) kept
    ∙ left s es (λ u. not (is_among u due)) (held s es)
    ∙ ap (map (held_step s es)) (same_within s es e.moment due (held s es) (λ u m. gone u ∙ among_filter (is_due s es e.moment) u (held s es) ∙ and_true (is_held s es u) (is_due s es e.moment u) m))
    ∙ sym (ap (λ (r : Request A). map (held_step s (e ∷ es)) (held_after s es e.moment (held s es) r)) is ∙ unmoved s e es (filter (λ u. not (is_due s es e.moment u)) (held s es)) (λ v. ap (is_on v) is))

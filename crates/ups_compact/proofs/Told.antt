-- What a compact history tells a watcher.
use Rattle.std.proofs.Common.{◌≡◌, ℕ, ◌+◌, Bool, true, false, ◌||◌, ◌&&◌, not, cond, List, [], ◌∷◌, ◌++◌, length, map, filter, Option, None, Some, refl, sym, ap, ◌∙◌}
use Rattle.std.specs.Prelude.{is_some}
use Rattle.std.specs.List.{AllByRecursion}
use Rattle.std.specs.Str.{bytes_eq}
use Rattle.std.proofs.lemmas.List.{map-append}
use Rattle.ups_dataset.specs.declared.dictionary.TheConstants.{INPUT_READINESS_STATE, PROCEDURE_STEP_PROGRESS_INFORMATION_SEQUENCE, SCHEDULED_STATION_NAME_CODE_SEQUENCE, SCHEDULED_HUMAN_PERFORMERS_SEQUENCE}
use Rattle.ups_dataset.specs.Data.{El}
use Rattle.ups_cycle.specs.declared.state.StepState.{StepState}
use Rattle.ups_cycle.specs.declared.state.StepState.TheVariants.{Scheduled, InProgress, Completed, Canceled}
use Rattle.ups_life.specs.declared.entry.Entry.{Entry}
use Rattle.ups_life.specs.declared.event.Report.{Report}
use Rattle.ups_life.specs.declared.event.EventKind.TheVariants.{StateReport, ProgressReport, Assigned}
use Rattle.ups_life.specs.declared.readiness.InputReadiness.{InputReadiness}
use Rattle.ups_life.specs.declared.request.Request.{Request}
use Rattle.ups_life.specs.declared.request.Request.TheVariants.{Create, Change, AskCancel, Set, Subscribe, Unsubscribe, Suspend, Ack, Sweep, Reserve}
use Rattle.ups_life.specs.declared.watching.Target.TheVariants.{Single, Global, Filtered}
use Rattle.ups_life.specs.Settings.{Settings}
use Rattle.ups_life.specs.Steps.{is_on, state_then, state, row}
use Rattle.ups_life.specs.Readiness.{readiness_in, is_same_readiness}
use Rattle.ups_life.specs.Watching.{cover, watch, held, is_among}
use Rattle.ups_life.specs.Events.{readiness, report, as_it_is, only_if, has, cancel_reports, set_reports, told_of, if_watched, reports_of, numbered, events}
use Rattle.ups_life.proofs.Texts.{same_text}
use Rattle.ups_compact.specs.Compacting.{is_about, is_left, reported, told_to, told_of_steps}
use Rattle.ups_compact.proofs.Holding.{row_next}

-- numbers are no part of what is told
unnumbered : (n place : ℕ) (xs : List Report) → map reported (numbered n place xs) ≡ xs
unnumbered n place [] = refl
unnumbered n place (x ∷ xs) = ap (λ (ys : List Report). x ∷ ys) (unnumbered (n + 1) place xs)

pub told_next : {A : Type 0} (s : Settings) (e : Entry A) (es : List (Entry A)) (w : List ℕ) → told_to s (e ∷ es) w ≡ told_to s es w ++ reports_of s es e w e.request
told_next s e es w =
    map-append reported (events s es w) (numbered (length (events s es w) + 1) (length es) (reports_of s es e w e.request))
    ∙ ap (λ (ys : List Report). told_to s es w ++ ys) (unnumbered (length (events s es w) + 1) (length es) (reports_of s es e w e.request))

-- REPORTS OF ONE STEP

abbrev pub AreOf : List ℕ → List Report → Type 0
AreOf u xs = AllByRecursion (λ (x : Report). x.step ≡ u) xs

pub all_kept : (steps : List (List ℕ)) (u : List ℕ) (xs : List Report) → is_among u steps ≡ true → AreOf u xs → told_of_steps steps xs ≡ xs
all_kept steps u [] a h = refl
all_kept steps u (x ∷ xs) a (h, more) =
    ap (λ (b : Bool). cond b (x ∷ told_of_steps steps xs) (told_of_steps steps xs)) (ap (λ (v : List ℕ). is_among v steps) h ∙ a) ∙ ap (λ (ys : List Report). x ∷ ys) (all_kept steps u xs a more)

all_gone : (steps : List (List ℕ)) (u : List ℕ) (xs : List Report) → is_among u steps ≡ false → AreOf u xs → told_of_steps steps xs ≡ []
all_gone steps u [] a h = refl
all_gone steps u (x ∷ xs) a (h, more) =
    ap (λ (b : Bool). cond b (x ∷ told_of_steps steps xs) (told_of_steps steps xs)) (ap (λ (v : List ℕ). is_among v steps) h ∙ a) ∙ all_gone steps u xs a more

both_of : (u : List ℕ) (xs ys : List Report) → AreOf u xs → AreOf u ys → AreOf u (xs ++ ys)
both_of u [] ys h k = k
both_of u (x ∷ xs) ys (h, more) k = (h, both_of u xs ys more k)

pub one_of : (u : List ℕ) (b : Bool) (x : Report) → x.step ≡ u → AreOf u (only_if b x)
one_of u true x h = (h, tt)
one_of u false x h = tt

cancel_of : (u : List ℕ) (st : StepState) (r : Option InputReadiness) → AreOf u (cancel_reports u st r)
cancel_of u Scheduled r = (refl, (refl, tt))
cancel_of u InProgress r = (refl, tt)
cancel_of u Completed r = tt
cancel_of u Canceled r = tt

set_are_of : (u : List ℕ) (st : StepState) (before after : Option InputReadiness) (set : List El) → AreOf u (set_reports u st before after set)
set_are_of u st before after set =
    let one = has set INPUT_READINESS_STATE && not (is_same_readiness before after) in
    let two = has set PROCEDURE_STEP_PROGRESS_INFORMATION_SEQUENCE in
    let three = has set SCHEDULED_STATION_NAME_CODE_SEQUENCE || has set SCHEDULED_HUMAN_PERFORMERS_SEQUENCE in
    both_of u (only_if one (report StateReport u st after)) (only_if two (report ProgressReport u st after) ++ only_if three (report Assigned u st after)) (one_of u one (report StateReport u st after) refl)
    (both_of u (only_if two (report ProgressReport u st after)) (only_if three (report Assigned u st after)) (one_of u two (report ProgressReport u st after) refl) (one_of u three (report Assigned u st after) refl))

pub told_of_one : {A : Type 0} (s : Settings) (es : List (Entry A)) (e : Entry A) (u : List ℕ) (r : Request A) → AreOf u (told_of s es e u r)
told_of_one s es e u (Change step st t) = (refl, tt)
told_of_one s es e u (AskCancel step reasons) = cancel_of u (state es u) (readiness s (e ∷ es) u)
told_of_one s es e u (Set step t set) = set_are_of u (state es u) (readiness s es u) (readiness s (e ∷ es) u) set
told_of_one s es e u (Create step set) = tt
told_of_one s es e u (Subscribe target receiver lock) = tt
told_of_one s es e u (Unsubscribe place receiver) = tt
told_of_one s es e u (Suspend receiver) = tt
told_of_one s es e u (Ack upto) = tt
told_of_one s es e u Sweep = tt
told_of_one s es e u (Reserve step) = tt

pub watched_of : (u : List ℕ) (b c : Bool) (xs : List Report) (x : Report) → AreOf u xs → x.step ≡ u → AreOf u (cond b xs (only_if c x))
watched_of u true c xs x h k = h
watched_of u false c xs x h k = one_of u c x k

-- of a step that stays, or of none, all reports stay, and of another none
pub watched_kept : {A : Type 0} (s : Settings) (steps : List (List ℕ)) (es : List (Entry A)) (e : Entry A) (w : List ℕ) (step : Option (List ℕ)) (r : Request A) → is_about steps step ≡ true
    → told_of_steps steps (if_watched s es e w step (λ u. told_of s es e u r)) ≡ if_watched s es e w step (λ u. told_of s es e u r)
watched_kept s steps es e w None r a = refl
watched_kept s steps es e w (Some u) r a =
    all_kept steps u (if_watched s es e w (Some u) (λ v. told_of s es e v r)) a (watched_of u (is_some (watch s es w u)) (is_some (watch s (e ∷ es) w u)) (told_of s es e u r) (as_it_is s (e ∷ es) u) (told_of_one s es e u r) refl)

watched_gone : {A : Type 0} (s : Settings) (steps : List (List ℕ)) (es : List (Entry A)) (e : Entry A) (w : List ℕ) (step : Option (List ℕ)) (r : Request A) → is_about steps step ≡ false
    → told_of_steps steps (if_watched s es e w step (λ u. told_of s es e u r)) ≡ []
watched_gone s steps es e w None r a = refl
watched_gone s steps es e w (Some u) r a =
    all_gone steps u (if_watched s es e w (Some u) (λ v. told_of s es e v r)) a (watched_of u (is_some (watch s es w u)) (is_some (watch s (e ∷ es) w u)) (told_of s es e u r) (as_it_is s (e ∷ es) u) (told_of_one s es e u r) refl)

-- THE SAME REPORTS of a step that stays, before and after an entry

state_next : {A : Type 0} (u : List ℕ) (e : Entry A) (xs es : List (Entry A)) → state xs u ≡ state es u → state (e ∷ xs) u ≡ state (e ∷ es) u
state_next u e xs es p = ap (λ (x : StepState). cond (is_on u e.request) (state_then x e.request) x) p

pub same_report : {A : Type 0} (s : Settings) (u : List ℕ) (xs es : List (Entry A)) → state xs u ≡ state es u → row s xs u ≡ row s es u → as_it_is s xs u ≡ as_it_is s es u
same_report s u xs es p q = ap (λ (x : StepState). report StateReport u x (readiness s xs u)) p ∙ ap (λ (x : List El). report StateReport u (state es u) (readiness_in x)) q

pub same_told : {A : Type 0} (s : Settings) (u : List ℕ) (e : Entry A) (xs es : List (Entry A)) (r : Request A) → state xs u ≡ state es u → row s xs u ≡ row s es u → told_of s xs e u r ≡ told_of s es e u r
same_told s u e xs es (Change step st t) p q = ap (λ (x : Report). x ∷ []) (same_report s u (e ∷ xs) (e ∷ es) (state_next u e xs es p) (row_next s u e xs es p q))
same_told s u e xs es (AskCancel step reasons) p q =
    ap (λ (x : StepState). cancel_reports u x (readiness s (e ∷ xs) u)) p ∙ ap (λ (x : List El). cancel_reports u (state es u) (readiness_in x)) (row_next s u e xs es p q)
same_told s u e xs es (Set step t set) p q =
    ap (λ (x : StepState). set_reports u x (readiness s xs u) (readiness s (e ∷ xs) u) set) p
    ∙ (ap (λ (x : List El). set_reports u (state es u) (readiness_in x) (readiness s (e ∷ xs) u) set) q
    ∙ ap (λ (x : List El). set_reports u (state es u) (readiness s es u) (readiness_in x) set) (row_next s u e xs es p q))
same_told s u e xs es (Create step set) p q = refl
same_told s u e xs es (Subscribe target receiver lock) p q = refl
same_told s u e xs es (Unsubscribe place receiver) p q = refl
same_told s u e xs es (Suspend receiver) p q = refl
same_told s u e xs es (Ack upto) p q = refl
same_told s u e xs es Sweep p q = refl
same_told s u e xs es (Reserve step) p q = refl

-- REPORTS OF A SUBSCRIPTION: of each step held that it takes in

taken_case : (steps : List (List ℕ)) (f g : List ℕ → Report) (p q : List ℕ → Bool) → ((u : List ℕ) → (g u).step ≡ u) → ((u : List ℕ) → is_among u steps ≡ true → f u ≡ g u) → ((u : List ℕ) → is_among u steps ≡ true → p u ≡ q u)
    → (x : List ℕ) (xs : List (List ℕ)) (a : Bool) → is_among x steps ≡ a → (b : Bool) → q x ≡ b
    → map f (filter p (filter (λ u. is_among u steps) xs)) ≡ told_of_steps steps (map g (filter q xs))
    → map f (filter p (cond a (x ∷ filter (λ u. is_among u steps) xs) (filter (λ u. is_among u steps) xs))) ≡ told_of_steps steps (map g (cond b (x ∷ filter q xs) (filter q xs)))
taken_case steps f g p q st fg pq x xs true a true b h =
    ap (λ (c : Bool). map f (cond c (x ∷ filter p (filter (λ u. is_among u steps) xs)) (filter p (filter (λ u. is_among u steps) xs)))) (pq x a ∙ b)
    ∙ (ap (λ (y : Report). y ∷ map f (filter p (filter (λ u. is_among u steps) xs))) (fg x a)
    ∙ (ap (λ (ys : List Report). g x ∷ ys) h
    ∙ sym (ap (λ (c : Bool). cond c (g x ∷ told_of_steps steps (map g (filter q xs))) (told_of_steps steps (map g (filter q xs)))) (ap (λ (u : List ℕ). is_among u steps) (st x) ∙ a))))
taken_case steps f g p q st fg pq x xs true a false b h =
    ap (λ (c : Bool). map f (cond c (x ∷ filter p (filter (λ u. is_among u steps) xs)) (filter p (filter (λ u. is_among u steps) xs)))) (pq x a ∙ b) ∙ h
taken_case steps f g p q st fg pq x xs false a true b h =
    h ∙ sym (ap (λ (c : Bool). cond c (g x ∷ told_of_steps steps (map g (filter q xs))) (told_of_steps steps (map g (filter q xs)))) (ap (λ (u : List ℕ). is_among u steps) (st x) ∙ a))
taken_case steps f g p q st fg pq x xs false a false b h = h

pub taken_left : (steps : List (List ℕ)) (f g : List ℕ → Report) (p q : List ℕ → Bool) → ((u : List ℕ) → (g u).step ≡ u) → ((u : List ℕ) → is_among u steps ≡ true → f u ≡ g u) → ((u : List ℕ) → is_among u steps ≡ true → p u ≡ q u)
    → (xs : List (List ℕ)) → map f (filter p (filter (λ u. is_among u steps) xs)) ≡ told_of_steps steps (map g (filter q xs))
taken_left steps f g p q st fg pq [] = refl
taken_left steps f g p q st fg pq (x ∷ xs) = taken_case steps f g p q st fg pq x xs (is_among x steps) refl (q x) refl (taken_left steps f g p q st fg pq xs)

single_case : (steps : List (List ℕ)) (g : List ℕ → Report) → ((u : List ℕ) → (g u).step ≡ u) → (v : List ℕ) → is_among v steps ≡ false → (x : List ℕ) (xs : List (List ℕ)) (b : Bool) → bytes_eq v x ≡ b
    → told_of_steps steps (map g (filter (λ u. bytes_eq v u) xs)) ≡ [] → told_of_steps steps (map g (cond b (x ∷ filter (λ u. bytes_eq v u) xs) (filter (λ u. bytes_eq v u) xs))) ≡ []
single_case steps g st v out x xs true b h =
    ap (λ (c : Bool). cond c (g x ∷ told_of_steps steps (map g (filter (λ u. bytes_eq v u) xs))) (told_of_steps steps (map g (filter (λ u. bytes_eq v u) xs))))
    (ap (λ (u : List ℕ). is_among u steps) (st x ∙ sym (same_text v x b)) ∙ out) ∙ h
single_case steps g st v out x xs false b h = h

single_gone : (steps : List (List ℕ)) (g : List ℕ → Report) → ((u : List ℕ) → (g u).step ≡ u) → (v : List ℕ) → is_among v steps ≡ false → (xs : List (List ℕ)) → told_of_steps steps (map g (filter (λ u. bytes_eq v u) xs)) ≡ []
single_gone steps g st v out [] = refl
single_gone steps g st v out (x ∷ xs) = single_case steps g st v out x xs (bytes_eq v x) refl (single_gone steps g st v out xs)

pub where_so : (steps : List (List ℕ)) (b : Bool) (xs ys : List Report) → xs ≡ told_of_steps steps ys → cond b xs [] ≡ told_of_steps steps (cond b ys [])
where_so steps true xs ys h = h
where_so steps false xs ys h = refl

where_none : (steps : List (List ℕ)) (b : Bool) (ys : List Report) → told_of_steps steps ys ≡ [] → told_of_steps steps (cond b ys []) ≡ []
where_none steps true ys h = h
where_none steps false ys h = refl

-- THE REPORTS OF AN ENTRY

pub gone_reports : {A : Type 0} (s : Settings) (steps : List (List ℕ)) (e : Entry A) (es : List (Entry A)) (w : List ℕ) (r : Request A) → is_left steps r ≡ false → told_of_steps steps (reports_of s es e w r) ≡ []
gone_reports s steps e es w (Create v set) a =
    all_gone steps v (only_if (is_some (cover s.peers es w (row s (e ∷ es) v))) (as_it_is s (e ∷ es) v)) a (one_of v (is_some (cover s.peers es w (row s (e ∷ es) v))) (as_it_is s (e ∷ es) v) refl)
gone_reports s steps e es w (Change step st t) a = watched_gone s steps es e w step (Change step st t) a
gone_reports s steps e es w (AskCancel step reasons) a = watched_gone s steps es e w step (AskCancel step reasons) a
gone_reports s steps e es w (Set step t set) a = watched_gone s steps es e w step (Set step t set) a
gone_reports s steps e es w (Subscribe (Single None) receiver lock) a = absurd cc
gone_reports s steps e es w (Subscribe (Single (Some v)) receiver lock) a =
    where_none steps (bytes_eq receiver w) (map (as_it_is s es) (filter (λ u. bytes_eq v u) (held s es))) (single_gone steps (as_it_is s es) (λ u. refl) v a (held s es))
gone_reports s steps e es w (Subscribe Global receiver lock) a = absurd cc
gone_reports s steps e es w (Subscribe (Filtered keys) receiver lock) a = absurd cc
gone_reports s steps e es w (Unsubscribe place receiver) a = refl
gone_reports s steps e es w (Suspend receiver) a = refl
gone_reports s steps e es w (Ack upto) a = refl
gone_reports s steps e es w Sweep a = refl
gone_reports s steps e es w (Reserve step) a = refl

-- What a watcher has learned from its events is what is so.
use Rattle.std.proofs.Common.{◌≡◌, ℕ, ◌+◌, Bool, true, false, cond, not, ◌&&◌, ◌||◌, List, [], ◌∷◌, ◌++◌, length, map, filter, Option, Some, None, refl, sym, ap, subst, ◌∙◌}
use Rattle.std.specs.Prelude.{is_some}
use Rattle.std.specs.Option.{option_or}
use Rattle.std.specs.List.{list_any, filter_map, AllByRecursion}
use Rattle.std.specs.Str.{bytes_eq}
use Rattle.ups_dataset.specs.declared.dictionary.TheConstants.{INPUT_READINESS_STATE, PROCEDURE_STEP_PROGRESS_INFORMATION_SEQUENCE, SCHEDULED_STATION_NAME_CODE_SEQUENCE, SCHEDULED_HUMAN_PERFORMERS_SEQUENCE, TRANSACTION_UID}
use Rattle.ups_dataset.specs.Data.{El, element_at, put, laid_over}
use Rattle.ups_dataset.specs.Tag.{is_tag}
use Rattle.ups_dataset.proofs.Laying.{element_at-put}
use Rattle.ups_life.specs.declared.entry.Entry.{Entry}
use Rattle.ups_life.specs.declared.event.Event.{Event}
use Rattle.ups_life.specs.declared.event.EventKind.TheVariants.{StateReport, ProgressReport, Assigned}
use Rattle.ups_life.specs.declared.event.Report.{Report}
use Rattle.ups_life.specs.declared.readiness.InputReadiness.{InputReadiness}
use Rattle.ups_life.specs.declared.readiness.InputReadiness.TheVariants.{Incomplete, Unavailable, Ready}
use Rattle.ups_life.specs.declared.request.Request.{Request}
use Rattle.ups_life.specs.declared.request.Request.TheVariants.{Create, Change, AskCancel, Set, Subscribe, Unsubscribe, Suspend, Ack, Sweep, Reserve}
use Rattle.ups_life.specs.declared.request.Transaction.{Transaction}
use Rattle.ups_cycle.specs.declared.state.StepState.{StepState}
use Rattle.ups_cycle.specs.declared.state.StepState.TheVariants.{Scheduled, InProgress, Completed, Canceled}
use Rattle.ups_life.specs.declared.watching.Subscription.{Subscription}
use Rattle.ups_life.specs.declared.watching.Target.{Target}
use Rattle.ups_life.specs.declared.watching.Watched.{Watched}
use Rattle.ups_life.specs.Settings.{Settings}
use Rattle.ups_life.specs.Readiness.{readiness_in, named_readiness, is_same_readiness}
use Rattle.ups_life.specs.Steps.{canceled, state, row, state_element, progress_element, cancel_gives, without_transaction}
use Rattle.ups_life.specs.Watching.{takes_in, is_at, cover, is_among, watch_after, watch, held, is_held, watched_step, watched}
use Rattle.ups_life.specs.Events.{readiness, report, as_it_is, only_if, cancel_reports, has, set_reports, told_of, reports_of, numbered, events, Learned, shows, view, present}
use Rattle.ups_life.proofs.Texts.{same_text, text_is_itself}
use Rattle.ups_life.proofs.RowsTell.{held_before}

-- an entry by its parts
abbrev entry : {A : Type 0} → ℕ → List ℕ → ℕ → Request A → Entry A
entry caller ae moment request = record { caller = caller; ae = ae; moment = moment; request = request }

-- A VIEW

pub or_assoc : {X : Type 0} (p q r : Option X) → option_or (option_or p q) r ≡ option_or p (option_or q r)
or_assoc (Some x) q r = refl
or_assoc None q r = refl

pub or_none : {X : Type 0} (p : Option X) → option_or p None ≡ p
or_none (Some x) = refl
or_none None = refl

or_before : {X : Type 0} (p q : Option X) (x : X) → p ≡ None → q ≡ Some x → option_or p q ≡ Some x
or_before p q x h k = rw h k

-- what is learned from later events stands before what was learned earlier
pub view-append : (xs ys : List Event) (u : List ℕ) → view (xs ++ ys) u ≡ option_or (view ys u) (view xs u)
view-append [] ys u = sym (or_none (view ys u))
view-append (x ∷ xs) ys u = ap (λ p. option_or p (shows u x)) (view-append xs ys u) ∙ or_assoc (view ys u) (view xs u) (shows u x)

-- all the reports are of this step
About : List ℕ → List Report → Type 0
About v [] = Unit {0}
About v (x ∷ xs) = (x.step ≡ v) × About v xs

about-append : (v : List ℕ) (xs ys : List Report) → About v xs → About v ys → About v (xs ++ ys)
unfolding About
about-append v [] ys h k = k
about-append v (x ∷ xs) ys h k = (h.0, about-append v xs ys h.1 k)

about_if : (v : List ℕ) (b : Bool) (x : Report) → x.step ≡ v → About v (only_if b x)
unfolding About
about_if v true x h = (h, tt)
about_if v false x h = tt

about_either : (v : List ℕ) (b : Bool) (xs ys : List Report) → About v xs → About v ys → About v (cond b xs ys)
unfolding About
about_either v true xs ys h k = h
about_either v false xs ys h k = k

about_one : (v : List ℕ) (x : Report) → x.step ≡ v → About v (x ∷ [])
unfolding About
about_one v x h = (h, tt)

-- reports of another step show nothing of u
silent : (u v : List ℕ) → bytes_eq v u ≡ false → (xs : List Report) (n place : ℕ) → About v xs → view (numbered n place xs) u ≡ None
unfolding About
silent u v other [] n place h = refl
silent u v other (x ∷ xs) n place h = let ne : bytes_eq x.step u ≡ false = ap (λ m. bytes_eq m u) h.0 ∙ other in rw (silent u v other xs (n + 1) place h.1, ne)

about_set : (v : List ℕ) (t : StepState) (before after : Option InputReadiness) (set : List El) → About v (set_reports v t before after set)
about_set v t before after set =
    about-append v _ _ (about_if v (has set INPUT_READINESS_STATE && not (is_same_readiness before after)) (report StateReport v t after) refl)
    (about-append v _ _ (about_if v (has set PROCEDURE_STEP_PROGRESS_INFORMATION_SEQUENCE) (report ProgressReport v t after) refl)
    (about_if v (has set SCHEDULED_STATION_NAME_CODE_SEQUENCE || has set SCHEDULED_HUMAN_PERFORMERS_SEQUENCE) (report Assigned v t after) refl))

about_cancel : (v : List ℕ) (t : StepState) (r : Option InputReadiness) → About v (cancel_reports v t r)
unfolding About
about_cancel v Scheduled r = (refl, (refl, tt))
about_cancel v InProgress r = (refl, tt)
about_cancel v Completed r = tt
about_cancel v Canceled r = tt

-- one State Report of u shows what it says
state_told : (u : List ℕ) (n place : ℕ) (t : StepState) (r : Option InputReadiness) (before : Option Learned) → option_or (view (numbered n place (report StateReport u t r ∷ [])) u) before ≡ Some (record { state = t; readiness = r })
state_told u n place t r before = rw (text_is_itself u)

-- READINESS

-- the same is told of two that tell the same
same_readiness : (a b : Option InputReadiness) → is_same_readiness a b ≡ true → a ≡ b
same_readiness None None h = refl
same_readiness None (Some Incomplete) h = absurd cc
same_readiness None (Some Unavailable) h = absurd cc
same_readiness None (Some Ready) h = absurd cc
same_readiness (Some Incomplete) None h = absurd cc
same_readiness (Some Incomplete) (Some Incomplete) h = refl
same_readiness (Some Incomplete) (Some Unavailable) h = absurd cc
same_readiness (Some Incomplete) (Some Ready) h = absurd cc
same_readiness (Some Unavailable) None h = absurd cc
same_readiness (Some Unavailable) (Some Incomplete) h = absurd cc
same_readiness (Some Unavailable) (Some Unavailable) h = refl
same_readiness (Some Unavailable) (Some Ready) h = absurd cc
same_readiness (Some Ready) None h = absurd cc
same_readiness (Some Ready) (Some Incomplete) h = absurd cc
same_readiness (Some Ready) (Some Unavailable) h = absurd cc
same_readiness (Some Ready) (Some Ready) h = refl

-- an element of another tag leaves the readiness
readiness-put : (x : El) (ys : List El) → is_tag x.tag INPUT_READINESS_STATE ≡ false → readiness_in (put x ys) ≡ readiness_in ys
readiness-put x ys h = ap named_readiness (element_at-put INPUT_READINESS_STATE x ys ∙ ap (λ b. cond b (Some x) (element_at INPUT_READINESS_STATE ys)) h)

not_given : (b : Bool) (x : El) (rest : Option El) → cond b (Some x) rest ≡ None → (b ≡ false) × (rest ≡ None)
not_given false x rest h = (refl, h)
not_given true x rest h = absurd cc

-- elements that give no readiness leave it
readiness-over : (xs ys : List El) → element_at INPUT_READINESS_STATE xs ≡ None → readiness_in (laid_over (without_transaction xs) ys) ≡ readiness_in ys
readiness-over [] ys h = refl
readiness-over (x ∷ xs) ys h =
    let p = not_given (is_tag x.tag INPUT_READINESS_STATE) x (element_at INPUT_READINESS_STATE xs) h in
    at (is_tag x.tag TRANSACTION_UID) p.0 (readiness-over xs ys p.1) (readiness-over xs (put x ys) p.1)
  where
    at : (b : Bool) → is_tag x.tag INPUT_READINESS_STATE ≡ false → readiness_in (laid_over (without_transaction xs) ys) ≡ readiness_in ys
        → readiness_in (laid_over (without_transaction xs) (put x ys)) ≡ readiness_in (put x ys)
        → readiness_in (laid_over (cond (not b) (x ∷ without_transaction xs) (without_transaction xs)) ys) ≡ readiness_in ys
    at true other here further = here
    at false other here further = further ∙ readiness-put x ys other

not_false : (b : Bool) → not b ≡ false → b ≡ true
not_false true h = refl
not_false false h = absurd cc

-- where an N-SET makes no State Report the readiness stays
unreported : (set old : List El) → (has set INPUT_READINESS_STATE && not (is_same_readiness (readiness_in old) (readiness_in (laid_over (without_transaction set) old)))) ≡ false
    → readiness_in old ≡ readiness_in (laid_over (without_transaction set) old)
unreported set old h = at (element_at INPUT_READINESS_STATE set) refl h
  where
    at : (p : Option El) → element_at INPUT_READINESS_STATE set ≡ p → (is_some p && not (is_same_readiness (readiness_in old) (readiness_in (laid_over (without_transaction set) old)))) ≡ false
        → readiness_in old ≡ readiness_in (laid_over (without_transaction set) old)
    at None is g = sym (readiness-over set old is)
    at (Some x) is g = same_readiness (readiness_in old) (readiness_in (laid_over (without_transaction set) old)) (not_false _ g)

-- ONE ENTRY

Before : {A : Type 0} → Settings → List (Entry A) → List ℕ → List ℕ → Type 0
Before s es w u = is_held s es u ≡ true → is_some (watch s es w u) ≡ true → view (events s es w) u ≡ Some (present s es u)

abbrev Then : {A : Type 0} → Settings → List (Entry A) → List ℕ → List ℕ → Entry A → Type 0
Then s es w u e = (n : ℕ) → option_or (view (numbered n (length es) (reports_of s es e w e.request)) u) (view (events s es w) u) ≡ Some (present s (e ∷ es) u)

-- a Create
created_self : {A : Type 0} (s : Settings) (es : List (Entry A)) (w u : List ℕ) (k : ℕ) (ae : List ℕ) (now : ℕ) (set : List El)
    → is_some (watch_after s es (entry k ae now (Create u set)) w u (watch s es w u) (Create u set)) ≡ true → Then s es w u (entry k ae now (Create u set))
created_self {A} s es w u k ae now set some n = at (cover s.peers es w (row s (e ∷ es) u)) (this (bytes_eq u u) (cover s.peers es w (row s (e ∷ es) u)) (watch s es w u) (text_is_itself u) some)
  where
    e : Entry A
    e = entry k ae now (Create u set)

    this : (b : Bool) (c before : Option Subscription) → b ≡ true → is_some (cond b c before) ≡ true → is_some c ≡ true
    this true c before is h = h
    this false c before is h = absurd cc

    at : (c : Option Subscription) → is_some c ≡ true
        → option_or (view (numbered n (length es) (only_if (is_some c) (as_it_is s (e ∷ es) u))) u) (view (events s es w) u) ≡ Some (present s (e ∷ es) u)
    at None some = absurd cc
    at (Some how) some = state_told u n (length es) (state (e ∷ es) u) (readiness s (e ∷ es) u) (view (events s es w) u)

created_other : {A : Type 0} (s : Settings) (es : List (Entry A)) (w u : List ℕ) (k : ℕ) (ae : List ℕ) (now : ℕ) (v : List ℕ) (set : List El) → bytes_eq v u ≡ false → Before s es w u
    → is_held s (entry k ae now (Create v set) ∷ es) u ≡ true → is_some (watch_after s es (entry k ae now (Create v set)) w u (watch s es w u) (Create v set)) ≡ true → Then s es w u (entry k ae now (Create v set))
unfolding Before
created_other {A} s es w u k ae now v set other before is_in some n =
    or_before _ _ _ (silent u v other (reports_of s es (entry k ae now (Create v set)) w (Create v set)) n (length es) (about_if v (is_some (cover s.peers es w (row s (entry k ae now (Create v set) ∷ es) v))) _ refl))
    (rw other (before (held_before s es now (held s es) u (Create v set) other is_in) (rw other at some)))

-- a Change
changed_self : {A : Type 0} (s : Settings) (es : List (Entry A)) (w u : List ℕ) (k : ℕ) (ae : List ℕ) (now : ℕ) (t : StepState) (tx : Transaction) → is_some (watch s es w u) ≡ true → Then s es w u (entry k ae now (Change (Some u) t tx))
changed_self {A} s es w u k ae now t tx some n = at (is_some (watch s es w u)) some
  where
    e : Entry A
    e = entry k ae now (Change (Some u) t tx)

    at : (b : Bool) → b ≡ true → option_or (view (numbered n (length es) (cond b (as_it_is s (e ∷ es) u ∷ []) (only_if b (as_it_is s (e ∷ es) u)))) u) (view (events s es w) u) ≡ Some (present s (e ∷ es) u)
    at true g = state_told u n (length es) (state (e ∷ es) u) (readiness s (e ∷ es) u) (view (events s es w) u)
    at false g = absurd cc

changed_other : {A : Type 0} (s : Settings) (es : List (Entry A)) (w u : List ℕ) (k : ℕ) (ae : List ℕ) (now : ℕ) (v : List ℕ) (t : StepState) (tx : Transaction) → bytes_eq v u ≡ false → Before s es w u
    → is_held s es u ≡ true → is_some (watch s es w u) ≡ true → Then s es w u (entry k ae now (Change (Some v) t tx))
unfolding Before
changed_other s es w u k ae now v t tx other before is_in some n =
    or_before _ _ _ (silent u v other (reports_of s es (entry k ae now (Change (Some v) t tx)) w (Change (Some v) t tx)) n (length es) (about_either v (is_some (watch s es w v)) _ _ (about_one v _ refl) (about_if v (is_some (watch s es w v)) _ refl)))
    (rw other (before is_in some))

-- a cancel request leaves the readiness
canceled_readiness : (t : StepState) (s : Settings) (now : ℕ) (reasons old : List El) → readiness_in (laid_over (cancel_gives t s.offset now reasons) old) ≡ readiness_in old
canceled_readiness Scheduled s now reasons old = readiness-put (progress_element s.offset now reasons) (put (state_element Canceled) old) refl ∙ readiness-put (state_element Canceled) old refl
canceled_readiness InProgress s now reasons old = refl
canceled_readiness Completed s now reasons old = refl
canceled_readiness Canceled s now reasons old = refl

-- what a cancel request tells of its step
cancel_told : (u : List ℕ) (n place : ℕ) (t : StepState) (r after : Option InputReadiness) (before : Option Learned) → before ≡ Some (record { state = t; readiness = r }) → after ≡ r
    → option_or (view (numbered n place (cancel_reports u t after)) u) before ≡ Some (record { state = canceled t; readiness = after })
cancel_told u n place Scheduled r after before so same = rw (text_is_itself u)
cancel_told u n place InProgress r after before so same = rw (text_is_itself u, so, same)
cancel_told u n place Completed r after before so same = rw (so, same)
cancel_told u n place Canceled r after before so same = rw (so, same)

asked_self : {A : Type 0} (s : Settings) (es : List (Entry A)) (w u : List ℕ) (k : ℕ) (ae : List ℕ) (now : ℕ) (set : List El) → Before s es w u → is_held s es u ≡ true → is_some (watch s es w u) ≡ true → Then s es w u (entry k ae now (AskCancel (Some u) set))
unfolding Before
asked_self s es w u k ae now set before is_in some n =
    rw (some, text_is_itself u) (cancel_told u n (length es) (state es u) (readiness s es u) (readiness_in (laid_over (cancel_gives (state es u) s.offset now set) (row s es u))) (view (events s es w) u)
    (before is_in some) (canceled_readiness (state es u) s now set (row s es u)))

asked_other : {A : Type 0} (s : Settings) (es : List (Entry A)) (w u : List ℕ) (k : ℕ) (ae : List ℕ) (now : ℕ) (v : List ℕ) (set : List El) → bytes_eq v u ≡ false → Before s es w u
    → is_held s es u ≡ true → is_some (watch s es w u) ≡ true → Then s es w u (entry k ae now (AskCancel (Some v) set))
unfolding Before
asked_other s es w u k ae now v set other before is_in some n =
    or_before _ _ _ (silent u v other (reports_of s es (entry k ae now (AskCancel (Some v) set)) w (AskCancel (Some v) set)) n (length es) (about_either v (is_some (watch s es w v)) _ _ (about_cancel v (state es v) _) (about_if v (is_some (watch s es w v)) _ refl)))
    (rw other (before is_in some))

-- what an N-SET tells of its step: where it makes no State Report, nothing has changed
set_told : (u : List ℕ) (n place : ℕ) (t : StepState) (r after : Option InputReadiness) (before : Option Learned) (b c d : Bool) → before ≡ Some (record { state = t; readiness = r }) → (b ≡ false → r ≡ after)
    → option_or (view (numbered n place (only_if b (report StateReport u t after) ++ (only_if c (report ProgressReport u t after) ++ only_if d (report Assigned u t after)))) u) before ≡ Some (record { state = t; readiness = after })
set_told u n place t r after before true true true so same = rw (text_is_itself u)
set_told u n place t r after before true true false so same = rw (text_is_itself u)
set_told u n place t r after before true false true so same = rw (text_is_itself u)
set_told u n place t r after before true false false so same = rw (text_is_itself u)
set_told u n place t r after before false true true so same = rw (text_is_itself u, so, same refl)
set_told u n place t r after before false true false so same = rw (text_is_itself u, so, same refl)
set_told u n place t r after before false false true so same = rw (text_is_itself u, so, same refl)
set_told u n place t r after before false false false so same = rw (so, same refl)

set_self : {A : Type 0} (s : Settings) (es : List (Entry A)) (w u : List ℕ) (k : ℕ) (ae : List ℕ) (now : ℕ) (tx : Transaction) (set : List El) → Before s es w u → is_held s es u ≡ true → is_some (watch s es w u) ≡ true → Then s es w u (entry k ae now (Set (Some u) tx set))
unfolding Before
set_self s es w u k ae now tx set before is_in some n =
    rw (some, text_is_itself u) (set_told u n (length es) (state es u) (readiness s es u) (readiness_in (laid_over (without_transaction set) (row s es u))) (view (events s es w) u)
    (has set INPUT_READINESS_STATE && not (is_same_readiness (readiness s es u) (readiness_in (laid_over (without_transaction set) (row s es u)))))
    (has set PROCEDURE_STEP_PROGRESS_INFORMATION_SEQUENCE) (has set SCHEDULED_STATION_NAME_CODE_SEQUENCE || has set SCHEDULED_HUMAN_PERFORMERS_SEQUENCE)
    (before is_in some) (unreported set (row s es u)))

-- who begins to watch the step by it is told that it is as it is
set_newly : {A : Type 0} (s : Settings) (es : List (Entry A)) (w u : List ℕ) (k : ℕ) (ae : List ℕ) (now : ℕ) (tx : Transaction) (set : List El) → is_some (watch s es w u) ≡ false
    → is_some (watch_after s es (entry k ae now (Set (Some u) tx set)) w u (watch s es w u) (Set (Some u) tx set)) ≡ true → Then s es w u (entry k ae now (Set (Some u) tx set))
set_newly {A} s es w u k ae now tx set none some n = at (is_some (watch s es w u)) none (is_some (watch s (e ∷ es) w u)) some
  where
    e : Entry A
    e = entry k ae now (Set (Some u) tx set)

    at : (b : Bool) → b ≡ false → (c : Bool) → c ≡ true
        → option_or (view (numbered n (length es) (cond b (told_of s es e u (Set (Some u) tx set)) (only_if c (as_it_is s (e ∷ es) u)))) u) (view (events s es w) u) ≡ Some (present s (e ∷ es) u)
    at true h c g = absurd cc
    at false h true g = state_told u n (length es) (state (e ∷ es) u) (readiness s (e ∷ es) u) (view (events s es w) u)
    at false h false g = absurd cc

set_either : {A : Type 0} (s : Settings) (es : List (Entry A)) (w u : List ℕ) (k : ℕ) (ae : List ℕ) (now : ℕ) (tx : Transaction) (set : List El) → Before s es w u → is_held s es u ≡ true
    → is_some (watch_after s es (entry k ae now (Set (Some u) tx set)) w u (watch s es w u) (Set (Some u) tx set)) ≡ true → Then s es w u (entry k ae now (Set (Some u) tx set))
set_either {A} s es w u k ae now tx set before is_in some = at (is_some (watch s es w u)) refl
  where
    at : (b : Bool) → is_some (watch s es w u) ≡ b → Then s es w u (entry k ae now (Set (Some u) tx set))
    at true is = set_self s es w u k ae now tx set before is_in is
    at false none = set_newly s es w u k ae now tx set none some

set_other : {A : Type 0} (s : Settings) (es : List (Entry A)) (w u : List ℕ) (k : ℕ) (ae : List ℕ) (now : ℕ) (v : List ℕ) (tx : Transaction) (set : List El) → bytes_eq v u ≡ false → Before s es w u
    → is_held s es u ≡ true → is_some (watch_after s es (entry k ae now (Set (Some v) tx set)) w u (watch s es w u) (Set (Some v) tx set)) ≡ true → Then s es w u (entry k ae now (Set (Some v) tx set))
unfolding Before
set_other {A} s es w u k ae now v tx set other before is_in some n =
    or_before _ _ _ (silent u v other (reports_of s es e w (Set (Some v) tx set)) n (length es)
    (about_either v (is_some (watch s es w v)) _ _ (about_set v (state es v) (readiness s es v) _ set) (about_if v (is_some (watch s (e ∷ es) w v)) (as_it_is s (e ∷ es) v) refl)))
    (rw other (before is_in (rw other at some)))
  where
    e : Entry A
    e = entry k ae now (Set (Some v) tx set)

-- a Subscribe: each held step that it takes in is reported
there : {X : Type 0} (a b : Bool) (x : X) → b ≡ true → option_or (cond (a && b) (Some x) None) (Some x) ≡ cond (true && b) (Some x) None
there true b x h = rw h
there false b x h = rw h

not_there : {X : Type 0} (a b : Bool) (x : X) → b ≡ false → cond (a && b) (Some x) None ≡ cond (true && b) (Some x) None
not_there true b x h = refl
not_there false b x h = rw h

view-map : {A : Type 0} (s : Settings) (es : List (Entry A)) (p : List ℕ → Bool) (u : List ℕ) (us : List (List ℕ)) (n place : ℕ)
    → view (numbered n place (map (as_it_is s es) (filter p us))) u ≡ cond (list_any (λ v. bytes_eq v u) us && p u) (Some (present s es u)) None
view-map s es p u [] n place = refl
view-map {A} s es p u (v ∷ vs) n place = at (list_any (λ x. bytes_eq x u) vs) (λ m. view-map s es p u vs m place) (bytes_eq v u) refl (p v) refl
  where
    at : (a : Bool) → ((m : ℕ) → view (numbered m place (map (as_it_is s es) (filter p vs))) u ≡ cond (a && p u) (Some (present s es u)) None)
        → (b : Bool) → bytes_eq v u ≡ b → (c : Bool) → p v ≡ c
        → view (numbered n place (map (as_it_is s es) (cond (p v) (v ∷ filter p vs) (filter p vs)))) u ≡ cond ((bytes_eq v u || a) && p u) (Some (present s es u)) None
    at a ih true vu true pv = let same : v ≡ u = same_text v u vu in let pu : p u ≡ true = ap p (sym same) ∙ pv in
        rw (pv, vu, ih (n + 1)) (ap (λ x. option_or (cond (a && p u) (Some (present s es u)) None) (Some (present s es x))) same ∙ there a (p u) (present s es u) pu)
    at a ih true vu false pv = let pu : p u ≡ false = ap p (sym (same_text v u vu)) ∙ pv in rw (pv, vu) (ih n ∙ not_there a (p u) (present s es u) pu)
    at a ih false vu true pv = rw (pv, vu, ih (n + 1)) (or_none (cond (a && p u) (Some (present s es u)) None))
    at a ih false vu false pv = rw (pv, vu) (ih n)

subscribe_step : {A : Type 0} (s : Settings) (es : List (Entry A)) (w u : List ℕ) (k : ℕ) (ae : List ℕ) (now : ℕ) (target : Target A) (v : List ℕ) (lock : Bool) → Before s es w u
    → is_held s es u ≡ true → is_some (watch_after s es (entry k ae now (Subscribe target v lock)) w u (watch s es w u) (Subscribe target v lock)) ≡ true → Then s es w u (entry k ae now (Subscribe target v lock))
unfolding Before
subscribe_step {A} s es w u k ae now target v lock before is_in some n = at (bytes_eq v w) refl (takes_in target u (row s es u)) refl
  where
    at : (b : Bool) → bytes_eq v w ≡ b → (c : Bool) → takes_in target u (row s es u) ≡ c
        → option_or (view (numbered n (length es) (cond (bytes_eq v w) (map (as_it_is s es) (filter (λ x. takes_in target x (row s es x)) (held s es))) [])) u) (view (events s es w) u) ≡ Some (present s es u)
    at true vw true reach = rw (vw, view-map s es (λ x. takes_in target x (row s es x)) u (held s es) n (length es), is_in, reach)
    at true vw false reach = rw (vw, view-map s es (λ x. takes_in target x (row s es x)) u (held s es) n (length es), is_in, reach) (before is_in (rw (vw, reach) at some))
    at false vw c reach = rw vw (before is_in (rw vw at some))

step : {A : Type 0} (s : Settings) (es : List (Entry A)) (w u : List ℕ) (k : ℕ) (ae : List ℕ) (now : ℕ) (r : Request A) → Before s es w u
    → is_held s (entry k ae now r ∷ es) u ≡ true → is_some (watch_after s es (entry k ae now r) w u (watch s es w u) r) ≡ true → Then s es w u (entry k ae now r)
unfolding Before
step {A} s es w u k ae now (Create v set) before is_in some = at (bytes_eq v u) refl
  where
    at : (b : Bool) → bytes_eq v u ≡ b → Then s es w u (entry k ae now (Create v set))
    at false other = created_other s es w u k ae now v set other before is_in some
    at true same = let e = same_text v u same in
        subst (λ x. Then s es w u (entry k ae now (Create x set))) (sym e)
        (created_self s es w u k ae now set (subst (λ x. is_some (watch_after s es (entry k ae now (Create x set)) w u (watch s es w u) (Create x set)) ≡ true) e some))
step s es w u k ae now (Change None t tx) before is_in some = λ n. before is_in some
step {A} s es w u k ae now (Change (Some v) t tx) before is_in some = at (bytes_eq v u) refl
  where
    at : (b : Bool) → bytes_eq v u ≡ b → Then s es w u (entry k ae now (Change (Some v) t tx))
    at false other = changed_other s es w u k ae now v t tx other before is_in some
    at true same = subst (λ x. Then s es w u (entry k ae now (Change (Some x) t tx))) (sym (same_text v u same)) (changed_self s es w u k ae now t tx some)
step s es w u k ae now (AskCancel None set) before is_in some = λ n. before is_in some
step {A} s es w u k ae now (AskCancel (Some v) set) before is_in some = at (bytes_eq v u) refl
  where
    at : (b : Bool) → bytes_eq v u ≡ b → Then s es w u (entry k ae now (AskCancel (Some v) set))
    at false other = asked_other s es w u k ae now v set other before is_in some
    at true same = subst (λ x. Then s es w u (entry k ae now (AskCancel (Some x) set))) (sym (same_text v u same)) (asked_self s es w u k ae now set before is_in some)
step s es w u k ae now (Set None tx set) before is_in some = λ n. before is_in some
step {A} s es w u k ae now (Set (Some v) tx set) before is_in some = at (bytes_eq v u) refl
  where
    at : (b : Bool) → bytes_eq v u ≡ b → Then s es w u (entry k ae now (Set (Some v) tx set))
    at false other = set_other s es w u k ae now v tx set other before is_in some
    at true same = let e = same_text v u same in
        subst (λ x. Then s es w u (entry k ae now (Set (Some x) tx set))) (sym e)
        (set_either s es w u k ae now tx set before is_in (subst (λ x. is_some (watch_after s es (entry k ae now (Set (Some x) tx set)) w u (watch s es w u) (Set (Some x) tx set)) ≡ true) e some))
step s es w u k ae now (Subscribe target v lock) before is_in some = subscribe_step s es w u k ae now target v lock before is_in some
step s es w u k ae now (Unsubscribe place v) before is_in some = λ n. before is_in (ended (bytes_eq v w && is_at place u) (watch s es w u) some)
  where
    ended : (b : Bool) (p : Option Subscription) → is_some (cond b None p) ≡ true → is_some p ≡ true
    ended true p h = absurd cc
    ended false p h = h
step s es w u k ae now (Suspend v) before is_in some = λ n. before is_in some
step s es w u k ae now (Ack upto) before is_in some = λ n. before is_in some
step s es w u k ae now (Reserve v) before is_in some = λ n. before is_in some
step {A} s es w u k ae now Sweep before is_in some = λ n. before (held_before {A = A} s es now (held s es) u Sweep refl is_in) some

-- ALL ENTRIES

-- of each step held that a watcher watches its view shows what is so
pub view_is_so : {A : Type 0} (s : Settings) (es : List (Entry A)) (w u : List ℕ) → is_held s es u ≡ true → is_some (watch s es w u) ≡ true → view (events s es w) u ≡ Some (present s es u)
unfolding Before
view_is_so s [] w u is_in some = absurd cc
view_is_so s (e ∷ es) w u is_in some =
    view-append (events s es w) (numbered (length (events s es w) + 1) (length es) (reports_of s es e w e.request)) u
    ∙ step s es w u e.caller e.ae e.moment e.request (view_is_so s es w u) is_in some (length (events s es w) + 1)

or_first : (a b : Bool) → a ≡ true → (a || b) ≡ true
or_first true b h = refl
or_first false b h = absurd cc

or_second : (a b : Bool) → b ≡ true → (a || b) ≡ true
or_second true b h = refl
or_second false b h = h

each_watched : (P : List ℕ → Type 0) (f : List ℕ → Option Subscription) (us : List (List ℕ)) → ((u : List ℕ) → is_among u us ≡ true → is_some (f u) ≡ true → P u)
    → AllByRecursion (λ (x : Watched). P x.step) (filter_map (λ u. watched_step u (f u)) us)
each_watched P f [] h = tt
each_watched P f (u ∷ us) h = at (f u) refl (each_watched P f us (λ v m. h v (or_second (bytes_eq u v) (is_among v us) m)))
  where
    at : (o : Option Subscription) → f u ≡ o → AllByRecursion (λ (x : Watched). P x.step) (filter_map (λ v. watched_step v (f v)) us)
        → AllByRecursion (λ (x : Watched). P x.step) (filter_map (λ v. watched_step v (f v)) (u ∷ us))
    at None is rest = rw (is) rest
    at (Some how) is rest = rw (is) (h u (or_first (bytes_eq u u) (is_among u us) (text_is_itself u)) (ap is_some is), rest)

-- the same, of all the steps that it watches
pub watched_views : {A : Type 0} (s : Settings) (es : List (Entry A)) (w : List ℕ) → AllByRecursion (λ (x : Watched). view (events s es w) x.step ≡ Some (present s es x.step)) (watched s es w)
watched_views s es w = each_watched (λ u. view (events s es w) u ≡ Some (present s es u)) (λ u. watch s es w u) (held s es) (λ u is_in some. view_is_so s es w u is_in some)

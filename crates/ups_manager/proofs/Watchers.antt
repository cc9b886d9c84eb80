-- What is decided of a request for a watcher, and of a sweep.
use Rattle.std.proofs.Common.{◌≡◌, ℕ, Bool, true, false, cond, not, ◌&&◌, List, ◌∷◌, Option, Some, refl, sym, ap, subst, ◌∙◌, arith}
use Rattle.std.specs.Prelude.{nat_lt}
use Rattle.std.proofs.lemmas.Bool.Decides.{nat_tests}
use Rattle.std.specs.List.{AllByRecursion}
use Rattle.ups_pdu.specs.declared.ae.Ae.{Ae}
use Rattle.ups_cycle.specs.declared.status.Status.{Status}
use Rattle.ups_cycle.specs.declared.status.Status.TheVariants.{ResourceLimitation}
use Rattle.ups_cycle.specs.Statuses.{is_done}
use Rattle.ups_life.specs.declared.entry.Entry.{Entry}
use Rattle.ups_life.specs.declared.peer.Peer.{Peer}
use Rattle.ups_life.specs.declared.request.Request.{Request}
use Rattle.ups_life.specs.declared.request.Request.TheVariants.{Subscribe, Unsubscribe, Suspend, Sweep}
use Rattle.ups_life.specs.declared.request.Reply.TheVariants.{Status as Answered, Swept}
use Rattle.ups_life.specs.declared.watching.Target.{Target}
use Rattle.ups_life.specs.declared.watching.Place.{Place}
use Rattle.ups_life.specs.declared.row.Row.{Row}
use Rattle.ups_life.specs.Settings.{Settings}
use Rattle.ups_life.specs.Steps.{named_step}
use Rattle.ups_life.specs.Verdict.{verdict}
use Rattle.ups_life.specs.Watching.{is_among, known, removed}
use Rattle.ups_life.specs.History.{fits, receiver_of, of_peer, of_lock, row_then, status, decided}
use Rattle.ups_tables.specs.declared.rows.HeldStep.{HeldStep}
use Rattle.ups_tables.specs.HeldSteps.{held_steps, row_of_step}
use Rattle.ups_tables.specs.Live.{is_of_no_step}
use Rattle.ups_tables.proofs.Holding.{row_of_step-held_steps, steps_same, steps_sweep}
use Rattle.ups_service.specs.Law.{entry}
use Rattle.ups_manager.specs.declared.deciding.Kind.TheVariants.{OfWatcher, OfTime}
use Rattle.ups_manager.specs.Deciding.{kind_of}
use Rattle.ups_manager.specs.Held.{IsSmallStep}
use Rattle.ups_manager.proofs.Small.{small_filter}

-- A REQUEST FOR A WATCHER

no_size : (b q : Bool) (x y : Status) → cond (b && false && q) x y ≡ y
no_size true q x y = refl
no_size false q x y = refl

-- its status is of the peer that it is for, of the step that it names, and of the lock that it asks for
said : {A : Type 0} (s : Settings) (es : List (Entry A)) (caller : ℕ) (ae : List ℕ) (moment : ℕ) (r : Request A) → kind_of r ≡ OfWatcher
    → status s es (entry caller ae moment r) ≡ of_peer s.peers (receiver_of r) (of_lock s.peers r (verdict (known s es (named_step r)) false r))
said {A} s es caller ae moment (Subscribe target receiver lock) h =
    let r : Request A = Subscribe target receiver lock in
    ap (λ x. of_peer s.peers (Some receiver) (of_lock s.peers r x)) (no_size (is_done (verdict (known s es (named_step r)) false r)) (not (fits (row_then s es (entry caller ae moment r)).attributes)) ResourceLimitation (verdict (known s es (named_step r)) false r))
said {A} s es caller ae moment (Unsubscribe place receiver) h =
    let r : Request A = Unsubscribe place receiver in
    ap (λ x. of_peer s.peers (Some receiver) (of_lock s.peers r x)) (no_size (is_done (verdict (known s es (named_step r)) false r)) (not (fits (row_then s es (entry caller ae moment r)).attributes)) ResourceLimitation (verdict (known s es (named_step r)) false r))
said s es caller ae moment (Suspend receiver) h = refl
said s es caller ae moment r h = absurd cc

-- and it is answered by its status
by_status : {A : Type 0} (s : Settings) (es : List (Entry A)) (caller : ℕ) (ae : List ℕ) (moment : ℕ) (r : Request A) → kind_of r ≡ OfWatcher → decided s es (entry caller ae moment r) r ≡ Answered (status s es (entry caller ae moment r))
by_status s es caller ae moment (Subscribe target receiver lock) h = refl
by_status s es caller ae moment (Unsubscribe place receiver) h = refl
by_status s es caller ae moment (Suspend receiver) h = refl
by_status s es caller ae moment r h = absurd cc

-- the status, by what the tables hold of the step
pub status_is : {A : Type 0} (s : Settings) (es : List (Entry A)) (hs : List (HeldStep A)) (caller : ℕ) (ae : List ℕ) (moment : ℕ) (r : Request A) (peers : List Peer) (step : Option (List ℕ)) (row : Option (Row A)) (x : Status)
    → kind_of r ≡ OfWatcher → hs ≡ held_steps s es → peers ≡ s.peers → step ≡ named_step r → row ≡ row_of_step step hs → x ≡ of_peer peers (receiver_of r) (of_lock peers r (verdict row false r)) → x ≡ status s es (entry caller ae moment r)
status_is {A} s es hs caller ae moment r peers step row x kind kept named is found so =
    let row_is : row ≡ known s es (named_step r) = found ∙ ap (λ o. row_of_step o hs) is ∙ ap (row_of_step (named_step r)) kept ∙ row_of_step-held_steps s es (named_step r) in
    so ∙ ap (λ (ps : List Peer). of_peer ps (receiver_of r) (of_lock ps r (verdict row false r))) named ∙ ap (λ (o : Option (Row A)). of_peer s.peers (receiver_of r) (of_lock s.peers r (verdict o false r))) row_is
    ∙ sym (said s es caller ae moment r kind)

pub watcher_decided : {A : Type 0} (s : Settings) (es : List (Entry A)) (hs : List (HeldStep A)) (caller : ℕ) (ae : List ℕ) (moment : ℕ) (r : Request A) (peers : List Peer) (step : Option (List ℕ)) (row : Option (Row A)) (x : Status)
    → kind_of r ≡ OfWatcher → hs ≡ held_steps s es → peers ≡ s.peers → step ≡ named_step r → row ≡ row_of_step step hs → x ≡ of_peer peers (receiver_of r) (of_lock peers r (verdict row false r))
    → decided s es (entry caller ae moment r) r ≡ Answered x
watcher_decided s es hs caller ae moment r peers step row x kind kept named is found so =
    by_status s es caller ae moment r kind ∙ sym (ap (λ y. Answered y) (status_is s es hs caller ae moment r peers step row x kind kept named is found so))

-- A SWEEP

pub of_time : {A : Type 0} (r : Request A) → kind_of r ≡ OfTime → r ≡ Sweep
of_time Sweep h = refl
of_time r h = absurd cc

-- it is how many the plan removes
pub sweep_decided : {A : Type 0} (s : Settings) (es : List (Entry A)) (call : Entry A) (n count : ℕ) → kind_of call.request ≡ OfTime → decided s es call Sweep ≡ Swept n → count ≡ n → decided s es call call.request ≡ Swept count
sweep_decided s es call n count kind is all = ap (decided s es call) (of_time call.request kind) ∙ is ∙ sym (ap (λ k. Swept k) all)

-- the steps that are left are small
pub small_left : {A : Type 0} (s : Settings) (es : List (Entry A)) (call : Entry A) (hs : List (HeldStep A)) → kind_of call.request ≡ OfTime → hs ≡ held_steps s es → AllByRecursion IsSmallStep hs → AllByRecursion IsSmallStep (held_steps s (call ∷ es))
small_left {A} s es call hs kind kept small =
    let due = removed s es call.moment in
    subst (λ (l : List (HeldStep A)). AllByRecursion IsSmallStep l) (steps_sweep s call es due hs (of_time call.request kind) (λ u. refl) kept) (small_filter (λ (h : HeldStep A). not (is_among h.step due)) hs small)

pub is_some_number : (n : ℕ) → (n ≡ 0 → ⊥) → nat_lt 0 n ≡ true
is_some_number n h = grind (arith, nat_tests, h)

-- A REQUEST OF NO STEP leaves the steps

pub of_watcher_of_no_step : {A : Type 0} (r : Request A) → kind_of r ≡ OfWatcher → is_of_no_step r ≡ true
of_watcher_of_no_step (Subscribe target receiver lock) h = refl
of_watcher_of_no_step (Unsubscribe place receiver) h = refl
of_watcher_of_no_step (Suspend receiver) h = refl
of_watcher_of_no_step r h = absurd cc

pub small_same : {A : Type 0} (s : Settings) (es : List (Entry A)) (e : Entry A) (hs : List (HeldStep A)) → is_of_no_step e.request ≡ true → hs ≡ held_steps s es → AllByRecursion IsSmallStep hs → AllByRecursion IsSmallStep (held_steps s (e ∷ es))
small_same {A} s es e hs none kept small = subst (λ (l : List (HeldStep A)). AllByRecursion IsSmallStep l) (kept ∙ sym (steps_same s e es none)) small

-- there are three kinds for a watcher
pub no_other : {A : Type 0} (r : Request A) → kind_of r ≡ OfWatcher → ((target : Target A) → (receiver : Ae) → (lock : Bool) → r ≡ Subscribe target receiver lock → ⊥) → ((place : Place) → (receiver : Ae) → r ≡ Unsubscribe place receiver → ⊥) → ((receiver : Ae) → r ≡ Suspend receiver → ⊥) → ⊥
no_other (Subscribe target receiver lock) h a b c = a target receiver lock refl
no_other (Unsubscribe place receiver) h a b c = b place receiver refl
no_other (Suspend receiver) h a b c = c receiver refl
no_other r h a b c = absurd cc

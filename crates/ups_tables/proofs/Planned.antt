-- The plans of requests that are accepted are right.
use Rattle.std.proofs.Common.{◌≡◌, ℕ, suc, Bool, true, false, ◌&&◌, ◌||◌, cond, List, [], ◌∷◌, length, get_or, Option, None, Some, refl, sym, ap, subst, ◌∙◌, arith, true≢false}
use Rattle.std.specs.Prelude.{is_some, MatchOption}
use Rattle.std.specs.Option.{option_or, option_map, unwrap_or}
use Rattle.std.specs.Str.{bytes_eq}
use Rattle.ups_cycle.specs.declared.status.Status.{Status}
use Rattle.ups_cycle.specs.declared.status.Status.TheVariants.{Success, UnknownInstance, UnknownReceivingAe}
use Rattle.ups_cycle.specs.Statuses.{is_done}
use Rattle.ups_dataset.specs.declared.set.DataSet.{DataSet}
use Rattle.ups_dataset.specs.Data.{El}
use Rattle.ups_life.specs.declared.entry.Entry.{Entry}
use Rattle.ups_life.specs.declared.peer.Peer.{Peer}
use Rattle.ups_life.specs.declared.event.Report.{Report}
use Rattle.ups_life.specs.declared.request.Request.{Request}
use Rattle.ups_life.specs.declared.request.Request.TheVariants.{Create, Set, Subscribe, Unsubscribe}
use Rattle.ups_life.specs.declared.request.Transaction.{Transaction}
use Rattle.ups_life.specs.declared.row.Row.{Row}
use Rattle.ups_life.specs.declared.step.StepUid.{StepUid}
use Rattle.ups_life.specs.declared.watching.Place.TheVariants.{At}
use Rattle.ups_life.specs.declared.watching.Subscription.{Subscription}
use Rattle.ups_life.specs.declared.watching.Target.{Target}
use Rattle.ups_life.specs.declared.watching.Target.TheVariants.{Single, Global, Filtered}
use Rattle.ups_life.specs.Distinct.{Distinct}
use Rattle.ups_life.specs.Settings.{Settings}
use Rattle.ups_life.specs.Steps.{past, row, step_of, named_step, row_of, row_after, nothing}
use Rattle.ups_life.specs.Verdict.{verdict, if_held}
use Rattle.ups_life.specs.Watching.{held, is_among, is_held, is_peer, known, takes_in}
use Rattle.ups_life.specs.History.{repeats, receiver_of, of_peer, of_lock, sized, row_then, status}
use Rattle.ups_life.proofs.HeldOnce.{held_once}
use Rattle.ups_keep.specs.declared.due.Final.{Final}
use Rattle.ups_watch.specs.declared.cover.Cover.{Cover}
use Rattle.ups_watch.specs.Covers.{subscription_gained}
use Rattle.ups_tables.specs.declared.rows.HeldStep.{HeldStep}
use Rattle.ups_tables.specs.HeldSteps.{claims_it, held_step, held_steps, step_at, row_in, put_step}
use Rattle.ups_tables.specs.Live.{chosen, cover_to, news_by, newly_by, report_now}
use Rattle.ups_tables.proofs.Among.{among_filter, distinct_filter}
use Rattle.ups_tables.proofs.Holding.{step_at-held_steps, row_in-held_steps}
use Rattle.ups_tables.proofs.Living.{newly-met}
use Rattle.ups_tables.proofs.StepFacts.{Allowed, steps_are, row_is, was_row, news_are, set_held, not_of_watch}
use Rattle.ups_steps.specs.declared.held.HeldRow.{HeldRow}
use Rattle.ups_tables.specs.declared.tables.Tables.{Tables}
use Rattle.ups_tables.specs.Held.{held_at}
use Rattle.ups_tables.specs.Fit.{how, holds, AreFreed}
use Rattle.ups_tables.specs.Keyed.{step_with_held, as_steps, row_held, holder_held}
use Rattle.ups_tables.specs.Places.{place_of_title}
use Rattle.ups_tables.specs.Stands.{Stands}
use Rattle.ups_tables.specs.Planned.{PlansStep, PlansCreate, PlansChange, PlansSet}
use Rattle.ups_tables.proofs.Keyed.{steps_kept, found_at, row_found, holder_found}
use Rattle.ups_tables.proofs.Saying.{holds_is}
use Rattle.ups_life.proofs.Accepted.{for_peer}

-- REQUESTS ON A STEP

-- the request is allowed, and this is what is to be held of its step then
pub record Fresh {A : Type 0} (s : Settings) (es : List (Entry A)) (e : Entry A) (t : Tables A) (step : List ℕ) (x : HeldRow A) : Type 0 where
  pub named : step_of e.request ≡ Some step
  pub allowed : verdict (row_held (held_at step t.steps.entries)) (repeats es e.request) e.request ≡ Success
  pub row : x.row ≡ row_after s.offset e.moment (unwrap_or (row_held (held_at step t.steps.entries)) nothing) e.request
  pub holder : x.holder ≡ option_or (claims_it e) (holder_held (held_at step t.steps.entries))

-- what is told of a step that is created does not depend on what was before
pub created_news : {A : Type 0} (step : List ℕ) (before after : Row A) (r : Request A) (named : List ℕ) (set : List El) → r ≡ Create named set → report_now step after ∷ [] ≡ news_by step before after r
created_news step before after r named set is = ap (λ (x : Request _). news_by step before after x) (sym is)

-- the same of the row that is read out of what is held
pub told_after : {A : Type 0} (step : List ℕ) (before : Option (Row A)) (r after : Row A) (request : Request A) (told : List Report) → told ≡ news_by step (unwrap_or before nothing) r request → r ≡ after → told ≡ news_by step (unwrap_or before nothing) after request
told_after {A} step before r after request told is same = is ∙ ap (λ (k : Row A). news_by step (unwrap_or before nothing) k request) same

pub gained_after : {A : Type 0} (cover : Option (Cover A)) (how : Option Subscription) (before : List El) (r after : Row A) → r ≡ after → subscription_gained cover how before r.attributes ≡ subscription_gained cover how before after.attributes
gained_after {A} cover how before r after same = ap (λ (k : Row A). subscription_gained cover how before k.attributes) same

module _ {A : Type 0} (s : Settings) (history : List (Entry A)) (e : Entry A) (t : Tables A) (step : List ℕ) (x : HeldRow A) (old : Stands s history t) (fresh : Fresh s (past history) e t step x) where
  kept : as_steps t.steps.entries ≡ held_steps s (past history)
  kept = steps_kept s history t old

  found : row_held (held_at step t.steps.entries) ≡ row_in step (as_steps t.steps.entries)
  found = row_found step t.steps.entries

  a : Allowed s (past history) e (as_steps t.steps.entries) (step_with_held step x)
  a = record {
    step = fresh.named;
    allowed = ap (λ (o : Option (Row A)). verdict o (repeats (past history) e.request) e.request) (sym found) ∙ fresh.allowed;
    row = fresh.row ∙ ap (λ (o : Option (Row A)). row_after s.offset e.moment (unwrap_or o nothing) e.request) found;
    holder = fresh.holder ∙ ap (option_or (claims_it e)) (holder_found step t.steps.entries);
  }

  on : (before : Option (Row A)) (told : List Report) → before ≡ row_held (held_at step t.steps.entries) → told ≡ news_by step (unwrap_or before nothing) x.row e.request → PlansStep s (past history) e step x told
  on before told was is = record {
    steps = ap (put_step (step_with_held step x)) (sym kept) ∙ steps_are s e (past history) (as_steps t.steps.entries) (step_with_held step x) kept old.legal a;
    row = row_is s e (past history) (as_steps t.steps.entries) (step_with_held step x) kept old.legal a;
    news = news_are s e (past history) (as_steps t.steps.entries) (step_with_held step x) kept old.legal a before told (was ∙ found) is;
  }

  pub plans_create : (before : Option (Row A)) (told : List Report) (named : List ℕ) (set : List El) → before ≡ row_held (held_at step t.steps.entries) → told ≡ news_by step (unwrap_or before nothing) x.row e.request
      → e.request ≡ Create named set → PlansCreate s (past history) e step x told
  plans_create before told named set was is request =
      let same_name : Some named ≡ Some step = sym (ap (λ (r : Request A). step_of r) request) ∙ fresh.named in
      let same : named ≡ step = cc in
      record {
        attributes = set;
        request = request ∙ ap (λ (u : List ℕ). Create u set) same;
        on = on before told was is;
      }

  pub plans_change : (before : Option (Row A)) (told : List Report) → before ≡ row_held (held_at step t.steps.entries) → told ≡ news_by step (unwrap_or before nothing) x.row e.request
      → ((named : StepUid) → (set : DataSet A) → e.request ≡ Create named set → ⊥) → ((named : Option StepUid) → (t : Transaction) → (set : DataSet A) → e.request ≡ Set named t set → ⊥) → PlansChange s (past history) e step x told
  plans_change before told was is n m = record {
    request = fresh.named;
    old = not_of_watch e.request step fresh.named n m;
    on = on before told was is;
  }

  named_so : (named : Option (List ℕ)) (tr : Transaction) (set : List El) → e.request ≡ Set named tr set → e.request ≡ Set (Some step) tr set
  named_so named tr set request = request ∙ ap (λ (o : Option (List ℕ)). Set o tr set) (sym (ap (λ (r : Request A). step_of r) request) ∙ fresh.named)

  pub plans_set : (before : Option (Row A)) (told : List Report) (named : Option (List ℕ)) (tr : Transaction) (set : List El) (newly : List (Option Subscription)) (first : List Report)
      → before ≡ row_held (held_at step t.steps.entries) → told ≡ news_by step (unwrap_or before nothing) x.row e.request → e.request ≡ Set named tr set → length newly ≡ length t.watchers.covers
      → ((p : ℕ) → get_or newly p None ≡ subscription_gained (get_or t.watchers.covers p None) (how t p step) (unwrap_or before nothing).attributes x.row.attributes) → first ≡ report_now step x.row ∷ []
      → PlansSet s (past history) e t step x told newly first
  plans_set before told named tr set newly first was is request wide new one = record {
    transaction = tr;
    attributes = set;
    request = named_so named tr set request;
    on = on before told was is;
    width = omega (arith, wide);
    newly_are = λ p.
        new p ∙ newly-met (get_or t.watchers.covers p None) (how t p step) (unwrap_or before nothing).attributes x.row.attributes
        ∙ ap (λ (b : Row A). cond (is_some (how t p step)) None (newly_by (get_or t.watchers.covers p None) b.attributes x.row.attributes)) (was_row s e (past history) (as_steps t.steps.entries) (step_with_held step x) kept old.legal a before (was ∙ found));
    first_is = one ∙ ap (λ (r : Row A). report_now step r ∷ []) (row_is s e (past history) (as_steps t.steps.entries) (step_with_held step x) kept old.legal a);
  }

  -- the step of an N-SET that is allowed is held
  pub set_found : (before : Option (Row A)) (named : Option (List ℕ)) (tr : Transaction) (set : List El) → before ≡ row_held (held_at step t.steps.entries) → e.request ≡ Set named tr set → is_some before ≡ true
  set_found before named tr set was request =
      ap is_some (was ∙ found ∙ ap (row_in step) kept ∙ row_in-held_steps s (past history) step)
      ∙ ap (λ b. is_some (cond b (Some (row_of s (past history) step)) None)) (set_held s e (past history) (as_steps t.steps.entries) (step_with_held step x) kept old.legal a tr set (named_so named tr set request))

-- REQUESTS OF A WATCHER

some_next : (o : Option ℕ) → is_some (option_map suc o) ≡ is_some o
some_next None = refl
some_next (Some n) = refl

peer_place : (ps : List Peer) (w : List ℕ) → is_peer ps w ≡ is_some (place_of_title ps w)
peer_place [] w = refl
peer_place (p ∷ ps) w = at (bytes_eq p.ae w) (peer_place ps w)
  where
    at : (b : Bool) → is_peer ps w ≡ is_some (place_of_title ps w) → (b || is_peer ps w) ≡ is_some (cond b (Some 0) (option_map suc (place_of_title ps w)))
    at true ih = refl
    at false ih = ih ∙ sym (some_next (place_of_title ps w))

-- the status of an entry, if its request were this one
abbrev status_so : {A : Type 0} → Settings → List (Entry A) → Entry A → Request A → Status
status_so s es e r = of_peer s.peers (receiver_of r) (of_lock s.peers r (sized r (row_then s es e).attributes (verdict (known s es (named_step r)) (repeats es r) r)))

unknown_not_done : (p : Bool) → is_done (cond p UnknownInstance UnknownReceivingAe) ≡ true → ⊥
unknown_not_done true h = absurd cc
unknown_not_done false h = absurd cc

module _ {A : Type 0} (s : Settings) (es : List (Entry A)) (e : Entry A) (done : is_done (status s es e) ≡ true) where
  -- the receiver is a peer, and has a place
  pub has_place : (receiver : List ℕ) (peers : List Peer) (o : Option ℕ) → receiver_of e.request ≡ Some receiver → peers ≡ s.peers → o ≡ place_of_title peers receiver → o ≡ None → ⊥
  has_place receiver peers o to named at none =
      let set = (row_then s es e).attributes in
      let x : Status = of_lock s.peers e.request (sized e.request set (verdict (known s es (named_step e.request)) (repeats es e.request) e.request)) in
      let d : is_peer s.peers receiver ≡ true = for_peer s.peers receiver x (ap (λ m. is_done (of_peer s.peers m x)) (sym to) ∙ done) in
      true≢false (sym d ∙ peer_place s.peers receiver ∙ ap (λ (ps : List Peer). is_some (place_of_title ps receiver)) (sym named) ∙ ap is_some (sym at ∙ none))

  -- the step of a subscription to one step is held
  pub single_held : (u receiver : List ℕ) (lock : Bool) → e.request ≡ Subscribe (Single (Some u)) receiver lock → is_held s es u ≡ true
  single_held u receiver lock is = by (is_held s es u) (ap (λ (q : Request A). is_done (status_so s es e q)) (sym is) ∙ done)
    where
      by : (b : Bool) → is_done (of_peer s.peers (Some receiver) (of_lock {A = A} s.peers (Subscribe (Single (Some u)) receiver lock) (sized {A = A} (Subscribe (Single (Some u)) receiver lock) (row_then s es e).attributes (if_held (cond b (Some (row_of s es u)) None) (λ k. Success))))) ≡ true → b ≡ true
      by true h = refl
      by false h = absurd (unknown_not_done (is_peer s.peers receiver) h)

  -- a subscription that is not to a step that is named is global
  pub makes_cover : (target : Target A) (receiver : List ℕ) (lock : Bool) (how : Subscription) → e.request ≡ Subscribe target receiver lock → ((step : List ℕ) → target ≡ Single (Some step) → ⊥) → cover_to target how ≡ None → ⊥
  makes_cover (Single (Some step)) receiver lock how is other none = other step refl
  makes_cover (Single None) receiver lock how is other none = unknown_not_done (is_peer s.peers receiver) (ap (λ (q : Request A). is_done (status_so s es e q)) (sym is) ∙ done)
  makes_cover Global receiver lock how is other none = absurd cc
  makes_cover (Filtered keys) receiver lock how is other none = absurd cc

  -- subscriptions end at a step that is named, or everywhere
  pub ends_somewhere : (receiver : List ℕ) → e.request ≡ Unsubscribe (At None) receiver → ⊥
  ends_somewhere receiver is = unknown_not_done (is_peer s.peers receiver) (ap (λ (q : Request A). is_done (status_so s es e q)) (sym is) ∙ done)

module _ {A : Type 0} (s : Settings) (history : List (Entry A)) (t : Tables A) (st : Stands s history t) where
  -- what is held is found
  pub not_missing : (u : List ℕ) → is_held s (past history) u ≡ true → None ≡ held_at u t.steps.entries → ⊥
  not_missing u here miss = true≢false (sym here ∙ sym (holds_is s history t st u) ∙ sym (ap is_some miss))

  -- what is found is held, and this is its row
  pub found_held : (u : List ℕ) (h : HeldRow A) → Some h ≡ held_at u t.steps.entries → is_held s (past history) u ≡ true
  found_held u h is = sym (holds_is s history t st u) ∙ sym (ap is_some is)

  pub found_row : (u : List ℕ) (h : HeldRow A) → Some h ≡ held_at u t.steps.entries → h.row ≡ row_of s (past history) u
  found_row u h is =
      by (is_held s (past history) u) (ap (option_map (step_with_held u)) is ∙ found_at u t.steps.entries ∙ ap (step_at u) (steps_kept s history t st) ∙ step_at-held_steps s (past history) u)
    where
      by : (b : Bool) → Some (step_with_held u h) ≡ cond b (Some (held_step s (past history) u)) None → h.row ≡ row_of s (past history) u
      by true e = let same : step_with_held u h ≡ held_step s (past history) u = cc in ap (λ (k : HeldStep A). k.row) same
      by false e = absurd cc

  -- what is chosen is held, and stands there once
  pub chosen_here : (target : Target A) (us lent : List (List ℕ)) → us ≡ chosen s (past history) target → lent ≡ us → (u : List ℕ) → is_among u lent ≡ true → holds t u ≡ true
  chosen_here target us lent is same u h =
      holds_is s history t st u ∙ first (is_held s (past history) u) (takes_in target u (row s (past history) u)) (sym (among_filter (λ v. takes_in target v (row s (past history) v)) u (held s (past history))) ∙ ap (is_among u) (sym (same ∙ is)) ∙ h)
    where
      first : (a b : Bool) → (a && b) ≡ true → a ≡ true
      first true b h = refl
      first false b h = absurd cc

  pub chosen_once : (target : Target A) (us lent : List (List ℕ)) → us ≡ chosen s (past history) target → lent ≡ us → Distinct lent
  chosen_once target us lent is same = subst Distinct (sym (same ∙ is)) (distinct_filter (λ v. takes_in target v (row s (past history) v)) (held s (past history)) (held_once s (past history) st.legal))

pub freed_of : {A : Type 0} (t : Tables A) (peer : ℕ) (how : Subscription) (us lent : List (List ℕ)) (freed : List Final) → lent ≡ us → AreFreed t peer (Some how) (λ u. is_among u lent) freed → AreFreed t peer (Some how) (λ u. is_among u us) freed
freed_of t peer how us lent freed same is = subst (λ (l : List (List ℕ)). AreFreed t peer (Some how) (λ u. is_among u l) freed) same is

-- a subscription to one step names the step, or none
pub named_or_not : {A : Type 0} (target : Target A) (o : Option (List ℕ)) → target ≡ Single o → MatchOption o ((step : List ℕ) → target ≡ Single (Some step) → ⊥) (λ step. target ≡ Single (Some step))
named_or_not target None is = λ step e. none_there (sym is ∙ e)
  where
    none_there : {A : Type 0} {step : List ℕ} → (let x : Target A = Single None in x) ≡ Single (Some step) → ⊥
    none_there h = absurd cc
named_or_not target (Some step) is = is

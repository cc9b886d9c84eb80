-- Whom an N-SET subscribes: who has a filter that the step matches only by it.
use Rattle.std.proofs.Common.{◌≡◌, ℕ, Bool, true, false, cond, ◌||◌, List, [], ◌∷◌, Option, Some, None, refl, sym, ap, ◌∙◌}
use Rattle.std.specs.Prelude.{is_some}
use Rattle.std.specs.List.{list_any, filter_map, AllByRecursion}
use Rattle.std.specs.Option.{option_or}
use Rattle.std.specs.Str.{bytes_eq}
use Rattle.ups_dataset.specs.Data.{El}
use Rattle.ups_life.specs.declared.entry.Entry.{Entry}
use Rattle.ups_life.specs.declared.peer.Peer.{Peer}
use Rattle.ups_life.specs.declared.event.Report.{Report}
use Rattle.ups_life.specs.declared.request.Request.{Request}
use Rattle.ups_life.specs.declared.request.Request.TheVariants.{Set}
use Rattle.ups_life.specs.declared.request.Transaction.{Transaction}
use Rattle.ups_life.specs.declared.watching.Subscription.{Subscription}
use Rattle.ups_life.specs.declared.watching.Subscriber.{Subscriber}
use Rattle.ups_life.specs.Settings.{Settings}
use Rattle.ups_life.specs.Steps.{is_step, row}
use Rattle.ups_life.specs.Watching.{is_peer, cover, newly_covered, watch_after, watch, new_watcher, newly}
use Rattle.ups_life.specs.Events.{as_it_is, only_if, told_of, reports_of}
use Rattle.ups_life.proofs.Texts.{same_text, text_is_itself}

begun : (on : Bool) (before old new : Option Subscription) (how : Subscription) → on ≡ true → before ≡ None → old ≡ None → new ≡ Some how → cond on (option_or before (cond (is_some old) None new)) before ≡ Some how
begun true before old new how on none away here = rw (none, away) here
begun false before old new how on none away here = absurd cc

-- who watches it has no other subscription
left_so : {X : Type 0} (on : Bool) (before new : Option X) (how : X) → before ≡ Some how → cond on (option_or before new) before ≡ Some how
left_so true before new how is = rw (is)
left_so false before new how is = is

-- nor has any whose filter, or other global subscription, took it in before
left_out : (on : Bool) (before old new : Option Subscription) → is_some old ≡ true → cond on (option_or before (cond (is_some old) None new)) before ≡ before
left_out true None old new is = rw (is)
left_out true (Some how) old new is = refl
left_out false before old new is = refl

-- nor does an N-SET on another step subscribe anybody
only_by : (on : Bool) (before old new : Option Subscription) (how : Subscription) → before ≡ None → cond on (option_or before (cond (is_some old) None new)) before ≡ Some how → (on ≡ true) × (old ≡ None) × (new ≡ Some how)
only_by true None None new how none is = (refl, refl, is)
only_by true None (Some x) new how none is = absurd cc
only_by false None old new how none is = absurd cc
only_by on (Some x) old new how none is = absurd cc

that_step : (u : List ℕ) (step : Option (List ℕ)) → is_step u step ≡ true → step ≡ Some u
that_step u None on = absurd cc
that_step u (Some v) on = ap (λ (x : List ℕ). Some x) (same_text v u on)

told_once : (before after : Bool) (told : List Report) (x : Report) → before ≡ false → after ≡ true → cond before told (only_if after x) ≡ x ∷ []
told_once true after told x h k = absurd cc
told_once false true told x h k = refl
told_once false false told x h k = absurd cc

-- how w is subscribed after an N-SET
set_watch : {A : Type 0} (s : Settings) (e : Entry A) (es : List (Entry A)) (w u : List ℕ) (step : Option (List ℕ)) (t : Transaction) (set : List El) → e.request ≡ Set step t set
    → watch s (e ∷ es) w u ≡ cond (is_step u step) (option_or (watch s es w u) (newly_covered s es e w u)) (watch s es w u)
set_watch {A} s e es w u step t set is = ap (λ (r : Request A). watch_after s es e w u (watch s es w u) r) is

pub newly_subscribed : {A : Type 0} (s : Settings) (e : Entry A) (es : List (Entry A)) (w u : List ℕ) (t : Transaction) (set : List El) (how : Subscription) → e.request ≡ Set (Some u) t set
    → watch s es w u ≡ None → cover s.peers es w (row s es u) ≡ None → cover s.peers es w (row s (e ∷ es) u) ≡ Some how → watch s (e ∷ es) w u ≡ Some how
newly_subscribed s e es w u t set how is none away here =
    set_watch s e es w u (Some u) t set is ∙ begun (bytes_eq u u) (watch s es w u) (cover s.peers es w (row s es u)) (cover s.peers es w (row s (e ∷ es) u)) how (text_is_itself u) none away here

-- who begins to watch is told of the step as it is, and no more
pub newly_told : {A : Type 0} (s : Settings) (e : Entry A) (es : List (Entry A)) (w u : List ℕ) (t : Transaction) (set : List El) → e.request ≡ Set (Some u) t set
    → watch s es w u ≡ None → is_some (watch s (e ∷ es) w u) ≡ true → reports_of s es e w e.request ≡ as_it_is s (e ∷ es) u ∷ []
newly_told {A} s e es w u t set is none some =
    ap (λ (r : Request A). reports_of s es e w r) is
    ∙ told_once (is_some (watch s es w u)) (is_some (watch s (e ∷ es) w u)) (told_of s es e u (Set (Some u) t set)) (as_it_is s (e ∷ es) u) (ap is_some none) some

pub still_subscribed : {A : Type 0} (s : Settings) (e : Entry A) (es : List (Entry A)) (w u : List ℕ) (step : Option (List ℕ)) (t : Transaction) (set : List El) (how : Subscription) → e.request ≡ Set step t set
    → watch s es w u ≡ Some how → watch s (e ∷ es) w u ≡ Some how
still_subscribed s e es w u step t set how is so = set_watch s e es w u step t set is ∙ left_so (is_step u step) (watch s es w u) (newly_covered s es e w u) how so

pub not_subscribed : {A : Type 0} (s : Settings) (e : Entry A) (es : List (Entry A)) (w u : List ℕ) (t : Transaction) (set : List El) → e.request ≡ Set (Some u) t set
    → is_some (cover s.peers es w (row s es u)) ≡ true → watch s (e ∷ es) w u ≡ watch s es w u
not_subscribed s e es w u t set is covered =
    set_watch s e es w u (Some u) t set is ∙ left_out (bytes_eq u u) (watch s es w u) (cover s.peers es w (row s es u)) (cover s.peers es w (row s (e ∷ es) u)) covered

-- whom an N-SET subscribes: who has a filter that its step matches only by it
pub only_so_subscribed : {A : Type 0} (s : Settings) (e : Entry A) (es : List (Entry A)) (w u : List ℕ) (step : Option (List ℕ)) (t : Transaction) (set : List El) (how : Subscription) → e.request ≡ Set step t set
    → watch s es w u ≡ None → watch s (e ∷ es) w u ≡ Some how → (step ≡ Some u) × (cover s.peers es w (row s es u) ≡ None) × (cover s.peers es w (row s (e ∷ es) u) ≡ Some how)
only_so_subscribed s e es w u step t set how is none some =
    let by = only_by (is_step u step) (watch s es w u) (cover s.peers es w (row s es u)) (cover s.peers es w (row s (e ∷ es) u)) how none (sym (set_watch s e es w u step t set is) ∙ some) in
    (that_step u step by.0, by.1, by.2)

-- THE WATCHERS THAT ARE NEWLY SUBSCRIBED

-- w is one of these
abbrev pub is_newly : List ℕ → List Subscriber → Bool
is_newly w ws = list_any (λ (x : Subscriber). bytes_eq x.ae w) ws

-- those that are new by what was before and by what covers them
abbrev new_among : (List ℕ → Option Subscription) → (List ℕ → Option Subscription) → List Peer → List Subscriber
new_among before covered ps = filter_map (λ (p : Peer). new_watcher p.ae (before p.ae) (covered p.ae)) ps

each_new : (before covered : List ℕ → Option Subscription) (ps : List Peer) → AllByRecursion (λ (x : Subscriber). (before x.ae ≡ None) × (covered x.ae ≡ Some x.subscription)) (new_among before covered ps)
each_new before covered [] = tt
each_new before covered (p ∷ ps) = at (before p.ae) refl (covered p.ae) refl (each_new before covered ps)
  where
    at : (b : Option Subscription) → before p.ae ≡ b → (c : Option Subscription) → covered p.ae ≡ c → AllByRecursion (λ (x : Subscriber). (before x.ae ≡ None) × (covered x.ae ≡ Some x.subscription)) (new_among before covered ps)
        → AllByRecursion (λ (x : Subscriber). (before x.ae ≡ None) × (covered x.ae ≡ Some x.subscription)) (new_among before covered (p ∷ ps))
    at None none (Some how) is rest = rw (none, is) ((none, is), rest)
    at None none None is rest = rw (none, is) rest
    at (Some old) none now is rest = rw (none) rest

or_first : (a b : Bool) → a ≡ true → (a || b) ≡ true
or_first true b h = refl
or_first false b h = absurd cc

or_second : (a b : Bool) → b ≡ true → (a || b) ≡ true
or_second true b h = refl
or_second false b h = h

each_is_new : (before covered : List ℕ → Option Subscription) (w : List ℕ) (ps : List Peer) → is_peer ps w ≡ true → before w ≡ None → is_some (covered w) ≡ true → is_newly w (new_among before covered ps) ≡ true
each_is_new before covered w [] h none some = absurd cc
each_is_new before covered w (p ∷ ps) h none some = at (bytes_eq p.ae w) refl (λ g. each_is_new before covered w ps g none some) h
  where
    rest : List Subscriber
    rest = new_among before covered ps

    here : (b c : Option Subscription) → bytes_eq p.ae w ≡ true → b ≡ None → is_some c ≡ true → before p.ae ≡ b → covered p.ae ≡ c → is_newly w (new_among before covered (p ∷ ps)) ≡ true
    here None (Some how) same none some was is = rw (was, is) (or_first (bytes_eq p.ae w) (is_newly w rest) same)
    here None None same none some was is = absurd cc
    here (Some old) c same none some was is = absurd cc

    later : (b c : Option Subscription) → before p.ae ≡ b → covered p.ae ≡ c → is_newly w rest ≡ true → is_newly w (new_among before covered (p ∷ ps)) ≡ true
    later None (Some how) was is more = rw (was, is) (or_second (bytes_eq p.ae w) (is_newly w rest) more)
    later None None was is more = rw (was, is) more
    later (Some old) now was is more = rw (was) more

    at : (b : Bool) → bytes_eq p.ae w ≡ b → (is_peer ps w ≡ true → is_newly w rest ≡ true) → (b || is_peer ps w) ≡ true → is_newly w (new_among before covered (p ∷ ps)) ≡ true
    at true same more g = here (before p.ae) (covered p.ae) same (ap before (same_text p.ae w same) ∙ none) (ap (λ v. is_some (covered v)) (same_text p.ae w same) ∙ some) refl refl
    at false other more g = later (before p.ae) (covered p.ae) refl refl (more g)

-- each watcher that an N-SET newly subscribes is so after it
pub newly_are_subscribed : {A : Type 0} (s : Settings) (e : Entry A) (es : List (Entry A)) (u : List ℕ) (t : Transaction) (set : List El) → e.request ≡ Set (Some u) t set
    → AllByRecursion (λ (x : Subscriber). (watch s es x.ae u ≡ None) × (watch s (e ∷ es) x.ae u ≡ Some x.subscription)) (newly s es e u)
newly_are_subscribed {A} s e es u t set is = more (newly s es e u) (each_new (λ w. watch s es w u) (λ w. newly_covered s es e w u) s.peers)
  where
    so : (w : List ℕ) (how : Subscription) → watch s es w u ≡ None → newly_covered s es e w u ≡ Some how → watch s (e ∷ es) w u ≡ Some how
    so w how none here = set_watch s e es w u (Some u) t set is ∙ ap (λ b. cond b (option_or (watch s es w u) (newly_covered s es e w u)) (watch s es w u)) (text_is_itself u) ∙ ap (λ o. option_or o (newly_covered s es e w u)) none ∙ here

    more : (ws : List Subscriber) → AllByRecursion (λ (x : Subscriber). (watch s es x.ae u ≡ None) × (newly_covered s es e x.ae u ≡ Some x.subscription)) ws
        → AllByRecursion (λ (x : Subscriber). (watch s es x.ae u ≡ None) × (watch s (e ∷ es) x.ae u ≡ Some x.subscription)) ws
    more [] h = tt
    more (x ∷ ws) (h, rest) = ((h.0, so x.ae x.subscription h.0 h.1), more ws rest)

-- and each peer that it subscribes is one of these
pub subscribed_is_newly : {A : Type 0} (s : Settings) (e : Entry A) (es : List (Entry A)) (w u : List ℕ) (t : Transaction) (set : List El) → e.request ≡ Set (Some u) t set → is_peer s.peers w ≡ true
    → watch s es w u ≡ None → is_some (watch s (e ∷ es) w u) ≡ true → is_newly w (newly s es e u) ≡ true
subscribed_is_newly {A} s e es w u t set is peer none some =
    each_is_new (λ v. watch s es v u) (λ v. newly_covered s es e v u) w s.peers peer none
    (ap is_some (sym (set_watch s e es w u (Some u) t set is ∙ ap (λ b. cond b (option_or (watch s es w u) (newly_covered s es e w u)) (watch s es w u)) (text_is_itself u) ∙ ap (λ o. option_or o (newly_covered s es e w u)) none)) ∙ some)

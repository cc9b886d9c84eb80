-- What is asked of a history, answered by what is live; and what a subscription takes in, by a list of the steps held.
use Rattle.std.proofs.Common.{◌≡◌, ℕ, Bool, true, false, cond, List, [], ◌∷◌, length, map, filter, Option, None, Some, refl, sym, ap, ◌∙◌}
use Rattle.std.specs.List.{filter_map}
use Rattle.std.specs.Str.{bytes_eq}
use Rattle.ups_life.specs.declared.entry.Entry.{Entry}
use Rattle.ups_life.specs.declared.request.Request.TheVariants.{Ack, Sweep}
use Rattle.ups_life.specs.declared.request.Reply.TheVariants.{Swept}
use Rattle.ups_tables.specs.declared.rows.HeldStep.{HeldStep}
use Rattle.ups_events.specs.Telling.{Line}
use Rattle.ups_watch.specs.declared.cover.Cover.{Cover}
use Rattle.ups_life.specs.declared.watching.Subscription.{Subscription}
use Rattle.ups_life.specs.declared.watching.Target.{Target}
use Rattle.ups_life.specs.declared.watching.Target.TheVariants.{Single}
use Rattle.ups_life.specs.declared.watching.Watched.{Watched}
use Rattle.ups_life.specs.Distinct.{Distinct}
use Rattle.ups_life.specs.Settings.{Settings}
use Rattle.ups_life.specs.Steps.{row}
use Rattle.ups_life.specs.Watching.{takes_in, is_among, is_held, held, is_due, removed, watch, watched_step, watched}
use Rattle.ups_life.specs.Events.{as_it_is}
use Rattle.ups_life.specs.History.{acknowledged, decided, legal}
use Rattle.ups_tables.specs.HeldSteps.{held_step, held_steps}
use Rattle.ups_tables.specs.Taken.{taken_in, steps_in, report_of_row}
use Rattle.ups_tables.specs.Live.{chosen, queue, IsLive}
use Rattle.ups_life.proofs.Texts.{text_is_itself}
use Rattle.ups_life.proofs.HeldOnce.{held_once}
use Rattle.ups_tables.proofs.Among.{or_first, or_second, only_one, as_many, distinct_filter}

-- WHAT IS ASKED

ack_same : (A : Type 0) (k j : Line) (upto : ℕ) → k ≡ j → acknowledged {A = A} j.made j.acked upto ≡ acknowledged k.made k.acked upto
ack_same A k j upto h = ap (λ (x : Line). acknowledged {A = A} x.made x.acked upto) (sym h)

-- an acknowledgement
pub ack_by : {A : Type 0} (s : Settings) (e : Entry A) (es : List (Entry A)) (cov : List ℕ → Option (Cover A)) (how : List ℕ → List ℕ → Option Subscription) (fin : List ℕ → Option ℕ) (lck : List ℕ → Bool) (q : List ℕ → Line) (us : List ℕ → Bool)
    → IsLive s es cov how fin lck q us → (upto : ℕ) → decided s es e (Ack upto) ≡ acknowledged (q e.ae).made (q e.ae).acked upto
ack_by {A} s e es cov how fin lck q us l upto = ack_same A (q e.ae) (queue s es e.ae) upto (l.queues e.ae)

-- who watches: of the steps held, in their order, those to which the watcher is subscribed
same_watched : (f h : List ℕ → Option Subscription) (us : List (List ℕ)) → ((u : List ℕ) → is_among u us ≡ true → f u ≡ h u) → filter_map (λ u. watched_step u (f u)) us ≡ filter_map (λ u. watched_step u (h u)) us
same_watched f h [] e = refl
same_watched f h (u ∷ us) e = at (f u) (h u) (e u (or_first (bytes_eq u u) (is_among u us) (text_is_itself u))) (same_watched f h us (λ v m. e v (or_second (bytes_eq u v) (is_among v us) m)))
  where
    push : Option Subscription → List Watched → List Watched
    push None l = l
    push (Some x) l = record { step = u; subscription = x } ∷ l

    one : (g : List ℕ → Option Subscription) (o : Option Subscription) → g u ≡ o → filter_map (λ v. watched_step v (g v)) (u ∷ us) ≡ push o (filter_map (λ v. watched_step v (g v)) us)
    one g None is = rw is
    one g (Some x) is = rw is

    at : (o p : Option Subscription) → o ≡ p → filter_map (λ v. watched_step v (f v)) us ≡ filter_map (λ v. watched_step v (h v)) us → filter_map (λ v. watched_step v (f v)) (u ∷ us) ≡ filter_map (λ v. watched_step v (h v)) (u ∷ us)
    at o p same ih = one f (f u) refl ∙ ap (push (f u)) ih ∙ ap (λ x. push x (filter_map (λ v. watched_step v (h v)) us)) (e u (or_first (bytes_eq u u) (is_among u us) (text_is_itself u))) ∙ sym (one h (h u) refl)

pub watched_by : {A : Type 0} (s : Settings) (es : List (Entry A)) (cov : List ℕ → Option (Cover A)) (how : List ℕ → List ℕ → Option Subscription) (fin : List ℕ → Option ℕ) (lck : List ℕ → Bool) (q : List ℕ → Line) (us : List ℕ → Bool)
    → IsLive s es cov how fin lck q us → (w : List ℕ) → filter_map (λ u. watched_step u (how w u)) (held s es) ≡ watched s es w
watched_by s es cov how fin lck q us l w = same_watched (how w) (watch s es w) (held s es) (λ u m. l.pairs w u ∙ ap (λ b. cond b (watch s es w u) None) m)

-- and as many
pub sweep_by : {A : Type 0} (s : Settings) (e : Entry A) (es : List (Entry A)) (due : List (List ℕ)) → legal s es ≡ true → Distinct due → ((u : List ℕ) → is_among u due ≡ is_among u (removed s es e.moment)) → decided s es e Sweep ≡ Swept (length due)
sweep_by s e es due l once h = ap Swept (sym (as_many due (removed s es e.moment) once (distinct_filter (is_due s es e.moment) (held s es) (held_once s es l)) h))

-- WHAT A SUBSCRIPTION TAKES IN

rows_taken : {A : Type 0} (s : Settings) (es : List (Entry A)) (target : Target A) (us : List (List ℕ)) → taken_in target (map (held_step s es) us) ≡ map (held_step s es) (filter (λ u. takes_in target u (row s es u)) us)
rows_taken s es target [] = refl
rows_taken {A} s es target (u ∷ us) = at (takes_in target u (row s es u)) (rows_taken s es target us)
  where
    at : (b : Bool) → taken_in target (map (held_step s es) us) ≡ map (held_step s es) (filter (λ v. takes_in target v (row s es v)) us)
        → cond b (held_step s es u ∷ taken_in target (map (held_step s es) us)) (taken_in target (map (held_step s es) us)) ≡ map (held_step s es) (cond b (u ∷ filter (λ v. takes_in target v (row s es v)) us) (filter (λ v. takes_in target v (row s es v)) us))
    at true ih = ap (λ (l : List (HeldStep A)). held_step s es u ∷ l) ih
    at false ih = ih

steps_back : {A : Type 0} (s : Settings) (es : List (Entry A)) (us : List (List ℕ)) → steps_in (map (held_step s es) us) ≡ us
steps_back s es [] = refl
steps_back s es (u ∷ us) = ap (λ l. u ∷ l) (steps_back s es us)

reports_back : {A : Type 0} (s : Settings) (es : List (Entry A)) (us : List (List ℕ)) → map report_of_row (map (held_step s es) us) ≡ map (as_it_is s es) us
reports_back s es [] = refl
reports_back s es (u ∷ us) = ap (λ l. as_it_is s es u ∷ l) (reports_back s es us)

-- the steps that it takes in
pub chosen_by : {A : Type 0} (s : Settings) (es : List (Entry A)) (target : Target A) (hs : List (HeldStep A)) → hs ≡ held_steps s es → steps_in (taken_in target hs) ≡ chosen s es target
chosen_by {A} s es target hs kept = ap (λ (l : List (HeldStep A)). steps_in (taken_in target l)) kept ∙ ap steps_in (rows_taken s es target (held s es)) ∙ steps_back s es (chosen s es target)

-- what is told of them
pub reports_by : {A : Type 0} (s : Settings) (es : List (Entry A)) (target : Target A) (hs : List (HeldStep A)) → hs ≡ held_steps s es → map report_of_row (taken_in target hs) ≡ map (as_it_is s es) (chosen s es target)
reports_by {A} s es target hs kept = ap (λ (l : List (HeldStep A)). map report_of_row (taken_in target l)) kept ∙ ap (map report_of_row) (rows_taken s es target (held s es)) ∙ reports_back s es (chosen s es target)

-- a subscription to one step is to that alone
pub chosen_one : {A : Type 0} (s : Settings) (es : List (Entry A)) (v : List ℕ) → legal s es ≡ true → is_held s es v ≡ true → (let target : Target A = Single (Some v) in chosen s es target) ≡ v ∷ []
chosen_one s es v l here = only_one v (held s es) (held_once s es l) here

-- A history that says what its log says tells of an entry what its log tells.
use Rattle.std.proofs.Common.{◌≡◌, ℕ, Bool, true, false, ◌||◌, cond, List, [], ◌∷◌, map, filter, Option, None, Some, refl, ap, subst, ◌∙◌}
use Rattle.std.specs.Prelude.{is_some}
use Rattle.std.specs.Str.{bytes_eq}
use Rattle.ups_dataset.specs.Data.{El}
use Rattle.ups_life.specs.declared.entry.Entry.{Entry}
use Rattle.ups_life.specs.declared.event.Report.{Report}
use Rattle.ups_life.specs.declared.request.Request.{Request}
use Rattle.ups_life.specs.declared.request.Request.TheVariants.{Create, Change, AskCancel, Set, Subscribe, Unsubscribe, Suspend, Ack, Sweep, Reserve}
use Rattle.ups_life.specs.declared.watching.Subscription.{Subscription}
use Rattle.ups_life.specs.Settings.{Settings}
use Rattle.ups_life.specs.Steps.{is_step, is_on, creates, row}
use Rattle.ups_life.specs.Watching.{takes_in, cover, watch_after, watch, held, is_among, is_held}
use Rattle.ups_life.specs.Events.{as_it_is, only_if, told_of, if_watched, reports_of}
use Rattle.ups_life.specs.History.{repeats, legal}
use Rattle.ups_life.proofs.Texts.{text_is_itself}
use Rattle.ups_compact.proofs.Told.{same_report, same_told}
use Rattle.ups_compact.proofs.Alike.{Same, Says, same_next, same_of, on_known, same_new, after_same, cover_of}

or_true : (b : Bool) → b || true ≡ true
or_true true = refl
or_true false = refl

-- reports of each of the steps held that a subscription takes in
taken_same : (f g : List ℕ → Report) (p q : List ℕ → Bool) (xs : List (List ℕ)) → ((u : List ℕ) → is_among u xs ≡ true → f u ≡ g u) → ((u : List ℕ) → is_among u xs ≡ true → p u ≡ q u) → map f (filter p xs) ≡ map g (filter q xs)
taken_same f g p q [] fg pq = refl
taken_same f g p q (x ∷ xs) fg pq =
    let here : is_among x (x ∷ xs) ≡ true = ap (λ (b : Bool). b || is_among x xs) (text_is_itself x) in
    ap (λ (b : Bool). map f (cond b (x ∷ filter p xs) (filter p xs))) (pq x here)
    ∙ at (q x) (fg x here) (taken_same f g p q xs (λ u a. fg u (ap (λ (b : Bool). bytes_eq x u || b) a ∙ or_true (bytes_eq x u))) (λ u a. pq u (ap (λ (b : Bool). bytes_eq x u || b) a ∙ or_true (bytes_eq x u))))
  where
    at : (b : Bool) → f x ≡ g x → map f (filter p xs) ≡ map g (filter q xs) → map f (cond b (x ∷ filter p xs) (filter p xs)) ≡ map g (cond b (x ∷ filter q xs) (filter q xs))
    at true h more = ap (λ (y : Report). y ∷ map f (filter p xs)) h ∙ ap (λ (ys : List Report). g x ∷ ys) more
    at false h more = more

-- THE REPORTS OF AN ENTRY are the same
module _ {A : Type 0} (s : Settings) (e : Entry A) (by log : List (Entry A)) (says : Says s by log) (l : legal s (e ∷ by) ≡ true) (anew : repeats log e.request ≡ false) (w : List ℕ) where
  known_on : (q : Request A) → e.request ≡ q → (u : List ℕ) → is_on u q ≡ true → creates u q ≡ false → is_held s log u ≡ true
  known_on q is u = subst (λ (x : Request A). is_on u x ≡ true → creates u x ≡ false → is_held s log u ≡ true) is (on_known s e by log says l anew u)

  new_of : (q : Request A) → e.request ≡ q → (u : List ℕ) → creates u q ≡ true → Same s by log u
  new_of q is u = subst (λ (x : Request A). creates u x ≡ true → Same s by log u) is (same_new s e by log says l anew u)

  report_then : (u : List ℕ) → Same s by log u → as_it_is s (e ∷ by) u ≡ as_it_is s (e ∷ log) u
  report_then u h = let n = same_next s e by log u h in same_report s u (e ∷ by) (e ∷ log) n.state_is n.row_is

  watch_held : (u : List ℕ) → is_held s log u ≡ true → watch s (e ∷ by) w u ≡ watch s (e ∷ log) w u
  watch_held u k =
      after_same s e by log says l anew w u (watch s by w u) e.request (same_of s by log says.same u k)
      ∙ ap (λ (x : Option Subscription). watch_after s log e w u x e.request) (says.same.watched w u k)

  watched_same : (step : Option (List ℕ)) (q : Request A) → ((u : List ℕ) → is_step u step ≡ true → is_held s log u ≡ true) → if_watched s by e w step (λ u. told_of s by e u q) ≡ if_watched s log e w step (λ u. told_of s log e u q)
  watched_same None q h = refl
  watched_same (Some u) q h =
      let k = h u (text_is_itself u) in
      let m = same_of s by log says.same u k in
      ap (λ (x : Option Subscription). cond (is_some x) (told_of s by e u q) (only_if (is_some (watch s (e ∷ by) w u)) (as_it_is s (e ∷ by) u))) (says.same.watched w u k)
      ∙ (ap (λ (x : List Report). cond (is_some (watch s log w u)) x (only_if (is_some (watch s (e ∷ by) w u)) (as_it_is s (e ∷ by) u))) (same_told s u e by log q m.state_is m.row_is)
      ∙ (ap (λ (x : Option Subscription). cond (is_some (watch s log w u)) (told_of s log e u q) (only_if (is_some x) (as_it_is s (e ∷ by) u))) (watch_held u k)
      ∙ ap (λ (x : Report). cond (is_some (watch s log w u)) (told_of s log e u q) (only_if (is_some (watch s (e ∷ log) w u)) x)) (report_then u m)))

  where_same : (b : Bool) (xs ys : List Report) → xs ≡ ys → cond b xs [] ≡ cond b ys []
  where_same true xs ys h = h
  where_same false xs ys h = refl

  pub reports_same : (q : Request A) → e.request ≡ q → reports_of s by e w q ≡ reports_of s log e w q
  reports_same (Create v set) is =
      let h = new_of (Create v set) is v (text_is_itself v) in
      ap (λ (x : Option Subscription). only_if (is_some x) (as_it_is s (e ∷ by) v)) (cover_of s e by log says l anew w (row s (e ∷ by) v) (row s (e ∷ log) v) (same_next s e by log v h).row_is)
      ∙ ap (λ (x : Report). only_if (is_some (cover s.peers log w (row s (e ∷ log) v))) x) (report_then v h)
  reports_same (Subscribe target receiver lock) is =
      where_same (bytes_eq receiver w) (map (as_it_is s by) (filter (λ u. takes_in target u (row s by u)) (held s by))) (map (as_it_is s log) (filter (λ u. takes_in target u (row s log u)) (held s log)))
      (ap (λ (xs : List (List ℕ)). map (as_it_is s by) (filter (λ u. takes_in target u (row s by u)) xs)) says.same.steps
      ∙ taken_same (as_it_is s by) (as_it_is s log) (λ u. takes_in target u (row s by u)) (λ u. takes_in target u (row s log u)) (held s log)
      (λ u k. let m = same_of s by log says.same u k in same_report s u by log m.state_is m.row_is)
      (λ u k. ap (λ (x : List El). takes_in target u x) (same_of s by log says.same u k).row_is))
  reports_same (Change step to t) is = watched_same step (Change step to t) (λ u on. known_on (Change step to t) is u on refl)
  reports_same (AskCancel step reasons) is = watched_same step (AskCancel step reasons) (λ u on. known_on (AskCancel step reasons) is u on refl)
  reports_same (Set step t set) is = watched_same step (Set step t set) (λ u on. known_on (Set step t set) is u on refl)
  reports_same (Unsubscribe place receiver) is = refl
  reports_same (Suspend receiver) is = refl
  reports_same (Ack n) is = refl
  reports_same Sweep is = refl
  reports_same (Reserve v) is = refl

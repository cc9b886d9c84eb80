-- Whatever is entered or leaves memory, the entries of pending events stay there.
use Rattle.std.proofs.Common.{◌≡◌, ◌≢◌, ◌⊎◌, inl, inr, ◌≤◌, ℕ, true, ◌||◌, List, [], ◌∷◌, ◌++◌, length, take, Option, Some, None, refl, sym, ap, subst, ◌∙◌, arith, length-append}
use Rattle.std.specs.Prelude.{nat_le, nat_eq}
use Rattle.std.specs.List.{All, AllByRecursion, Contains, list_any}
use Rattle.std.proofs.lemmas.Bool.Decides.{nat_tests}
use Rattle.std.proofs.lemmas.List.Elements.{All-take}
use Rattle.ups_life.specs.declared.entry.Entry.{Entry}
use Rattle.ups_life.specs.declared.event.Event.{Event}
use Rattle.ups_life.specs.Limits.{history_limit}
use Rattle.ups_life.specs.Settings.{Settings}
use Rattle.ups_life.specs.Steps.{past}
use Rattle.ups_life.specs.Events.{pending}
use Rattle.ups_life.specs.History.{legal}
use Rattle.ups_life.proofs.Past.{past-push, length-past}
use Rattle.ups_history.specs.View.{HistoryView, is_in_memory, KeepsMemory}
use Rattle.ups_events.specs.Queue.{queue_at}
use Rattle.ups_events.specs.Telling.{empty_line}
use Rattle.ups_tables.specs.declared.tables.Tables.{Tables}
use Rattle.ups_tables.specs.Fit.{queue_line}
use Rattle.ups_tables.specs.Places.{place_of_title, by_place}
use Rattle.ups_tables.specs.Stands.{Stands as TablesStand}
use Rattle.ups_service.proofs.Members.{none_in_nil, here_or_there, of_each}
use Rattle.ups_service.proofs.StillPending.{still_pending}
use Rattle.ups_manager.specs.Kept.{Remembers}
use Rattle.ups_manager.proofs.Watches.{pending_is}

at_end : (first n : ℕ) (kept : List ℕ) → first ≤ n → (nat_le first n || list_any (nat_eq n) kept) ≡ true
at_end first n kept low = let is : nat_le first n ≡ true = grind (arith, nat_tests, low) in ap (λ b. b || list_any (nat_eq n) kept) is

module _ {A : Type 0} (s : Settings) (old new : HistoryView A) where
  -- the same entries are in memory
  stays : KeepsMemory old new → (place : ℕ) → is_in_memory old place ≡ true → is_in_memory new place ≡ true
  stays kept place h = (λ i. nat_le (kept.0 i) place || list_any (nat_eq place) (kept.1 i)) ∙ h

  pub remembers_same : new.entries ≡ old.entries → KeepsMemory old new → Remembers s old → Remembers s new
  remembers_same same kept r = record {
    within = let low = r.within in let first = kept.0 in let long = ap length same in omega (arith, low, first, long);
    told = λ w x in'. stays kept x.entry (r.told w x (subst (λ (es : List (Entry A)). Contains (pending s (past es) w) x) same in'));
    all = λ few. kept.0 ∙ r.all few;
  }

  pub remembers_more : (call : Entry A) → legal s (call ∷ past old.entries) ≡ true → new.entries ≡ old.entries ++ call ∷ [] → KeepsMemory old new → Remembers s old → Remembers s new
  remembers_more call l more kept r = record {
    within = let low = r.within in let first = kept.0 in let long = ap length more ∙ length-append old.entries (call ∷ []) in omega (arith, low, first, long);
    told = λ w x in'. at w x (still_pending s call (past old.entries) w x l (subst (λ (es : List (Entry A)). Contains (pending s es w) x) (ap past more ∙ past-push old.entries call) in'));
    all = λ few. kept.0 ∙ r.all few;
  }
    where
      at : (w : List ℕ) (x : Event) → (x.entry ≡ length (past old.entries)) ⊎ Contains (pending s (past old.entries) w) x → is_in_memory new x.entry ≡ true
      at w x (inl is) =
          let place : x.entry ≡ length old.entries = is ∙ length-past old.entries in
          stays kept x.entry (ap (λ (n : ℕ). nat_le old.first n || list_any (nat_eq n) old.kept) place ∙ at_end old.first (length old.entries) old.kept r.within)
      at w x (inr g) = stays kept x.entry (r.told w x g)

-- before the first request there is nothing to remember
pub remembers_nothing : {A : Type 0} (s : Settings) (h : HistoryView A) → h.entries ≡ [] → h.first ≡ 0 → Remembers s h
remembers_nothing {A} s h none zero = record {
  within = omega (arith, zero);
  told = λ w x in'. absurd (none_in_nil x (subst (λ (es : List (Entry A)). Contains (pending s (past es) w) x) none in'));
  all = λ few. zero;
}

-- what is in memory of the entries of pending events stays, whatever else leaves
pub remembers_all : {A : Type 0} (s : Settings) (old new : HistoryView A) → new.entries ≡ old.entries → new.first ≤ length new.entries
    → ((w : List ℕ) (x : Event) → Contains (pending s (past old.entries) w) x → is_in_memory old x.entry ≡ true → is_in_memory new x.entry ≡ true)
    → (s.limit ≤ history_limit → old.first ≡ 0 → new.first ≡ 0) → Remembers s old → Remembers s new
remembers_all {A} s old new same within stays all r = record {
  within = within;
  told = λ w x in'. let here = subst (λ (es : List (Entry A)). Contains (pending s (past es) w) x) same in' in stays w x here (r.told w x here);
  all = λ few. all few (r.all few);
}

-- what is so of all is so of one of them
each : {X : Type 0} (P : X → Type 0) (xs : List X) (x : X) → AllByRecursion P xs → Contains xs x → P x
each P [] x h in' = absurd (none_in_nil x in')
each P (y ∷ ys) x h in' = at h.0 (here_or_there y ys x in') (λ g. each P ys x h.1 g)
  where
    at : P y → (y ≡ x) ⊎ Contains ys x → (Contains ys x → P x) → P x
    at is (inl same) rest = subst P same is
    at is (inr g) rest = rest g

-- an entry that none of the queues refers to is that of no pending event
module _ {A : Type 0} (s : Settings) (es : List (Entry A)) (t : Tables A) (place : ℕ) (st : TablesStand s es t) (apart : (p : ℕ) → AllByRecursion (λ (x : Event). x.entry ≢ place) (queue_at t.queues p).events) where
  of_each_queue : (w : List ℕ) (o : Option ℕ) → AllByRecursion (λ (x : Event). x.entry ≢ place) (by_place empty_line (λ p. queue_line t p) o).events
  of_each_queue w None = tt
  of_each_queue w (Some p) = apart p

  pub refers_not : (w : List ℕ) (x : Event) → Contains (pending s (past es) w) x → x.entry ≢ place
  refers_not w x in' =
      each (λ (y : Event). y.entry ≢ place) (pending s (past es) w) x
      (subst (AllByRecursion (λ (y : Event). y.entry ≢ place)) (pending_is s es t s.peers (place_of_title s.peers w) w st refl refl) (of_each_queue w (place_of_title s.peers w))) in'

-- the entries of pending events that are taken are in memory
pub taken_remembered : {A : Type 0} (s : Settings) (h : HistoryView A) (w : List ℕ) (max : ℕ) (xs : List Event) → Remembers s h → xs ≡ take max (pending s (past h.entries) w) → All (λ (x : Event). is_in_memory h x.entry ≡ true) xs
taken_remembered s h w max xs r is =
    subst (All (λ (x : Event). is_in_memory h x.entry ≡ true)) (sym is)
    (All-take (λ (x : Event). is_in_memory h x.entry ≡ true) max (pending s (past h.entries) w) (of_each (λ (x : Event). is_in_memory h x.entry ≡ true) (pending s (past h.entries) w) (r.told w)))

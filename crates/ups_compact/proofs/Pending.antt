-- Behind a compact history, with its acknowledgements, what was pending of the steps held is pending.
use Rattle.std.proofs.Common.{◌≡◌, ℕ, Bool, true, false, ◌&&◌, ◌||◌, cond, List, [], ◌∷◌, length, map, refl, ap, ◌∙◌}
use Rattle.std.specs.List.{list_any}
use Rattle.std.specs.Str.{bytes_eq}
use Rattle.std.proofs.lemmas.List.{length-map}
use Rattle.ups_life.specs.declared.event.Event.{Event}
use Rattle.ups_life.specs.declared.event.Report.{Report}
use Rattle.ups_life.specs.Watching.{is_among}
use Rattle.ups_life.specs.Events.{is_state_report, is_report_of, current}
use Rattle.ups_compact.specs.Compacting.{reported, told_of_steps, of_steps}

-- WHAT IS CURRENT OF REPORTS

abbrev pub is_state_of : List ℕ → Report → Bool
is_state_of u x = bytes_eq x.step u && is_state_report x.kind

-- reports without each State Report that a later one of the same step supersedes
abbrev pub latest : List Report → List Report
latest [] = []
latest (x ∷ xs) = cond (is_state_report x.kind && list_any (is_state_of x.step) xs) (latest xs) (x ∷ latest xs)

same_any : (u : List ℕ) (xs : List Event) → list_any (is_report_of u) xs ≡ list_any (is_state_of u) (map reported xs)
same_any u [] = refl
same_any u (x ∷ xs) = ap (λ (b : Bool). is_report_of u x || b) (same_any u xs)

either : (b c : Bool) (x : Event) (xs : List Event) → b ≡ c → map reported (cond b xs (x ∷ xs)) ≡ cond c (map reported xs) (reported x ∷ map reported xs)
either true c x xs e = ap (λ (d : Bool). cond d (map reported xs) (reported x ∷ map reported xs)) e
either false c x xs e = ap (λ (d : Bool). cond d (map reported xs) (reported x ∷ map reported xs)) e

-- numbers are no part of what is current
pub reported_current : (xs : List Event) → map reported (current xs) ≡ latest (map reported xs)
reported_current [] = refl
reported_current (x ∷ xs) =
    either (is_state_report x.kind && list_any (is_report_of x.step) xs) (is_state_report x.kind && list_any (is_state_of x.step) (map reported xs)) x (current xs) (ap (λ (b : Bool). is_state_report x.kind && b) (same_any x.step xs))
    ∙ ap (λ (ys : List Report). cond (is_state_report x.kind && list_any (is_state_of x.step) (map reported xs)) ys (reported x ∷ ys)) (reported_current xs)

-- WHAT A COMPACT HISTORY HAS PENDING

reported_of_steps : (steps : List (List ℕ)) (xs : List Event) → told_of_steps steps (map reported xs) ≡ map reported (of_steps steps xs)
reported_of_steps steps [] = refl
reported_of_steps steps (x ∷ xs) = at (is_among x.step steps) (reported_of_steps steps xs)
  where
    at : (b : Bool) → told_of_steps steps (map reported xs) ≡ map reported (of_steps steps xs) → cond b (reported x ∷ told_of_steps steps (map reported xs)) (told_of_steps steps (map reported xs)) ≡ map reported (cond b (x ∷ of_steps steps xs) (of_steps steps xs))
    at true h = ap (λ (ys : List Report). reported x ∷ ys) h
    at false h = h

pub same_count : (steps : List (List ℕ)) (xs : List Event) → length (told_of_steps steps (map reported xs)) ≡ length (of_steps steps xs)
same_count steps xs = ap length (reported_of_steps steps xs) ∙ length-map (of_steps steps xs) reported

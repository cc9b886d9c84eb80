-- Calls, one after another, and how many are left after them.
use Rattle.std.proofs.Common.{◌≡◌, ◌≤◌, ◌<◌, ℕ, ◌+◌, Bool, true, List, [], ◌∷◌, length, ap, ◌∙◌, subst, arith}
use Rattle.std.specs.Prelude.{MatchBool}
use Rattle.std.proofs.lemmas.Bool.Decides.{nat_tests}
use Rattle.ups_life.specs.declared.request.Ask.{Ask}
use Rattle.ups_life.specs.declared.request.Reply.{Reply}
use Rattle.ups_life.specs.Settings.{Settings}
use Rattle.ups_service.specs.Law.{Others, unbounded, bounded, has_call_left, one_made, Seen, Grants, Refuses, Serves, Calls, AllGranted}

module _ {A : Type 0} (s : Settings) (others : Others) (caller : ℕ) (ae : List ℕ) where
  -- where one is left, a call is granted
  pub grants : (seen after : Seen A) (moment : ℕ) (ask : Ask A) (reply : Reply A) → has_call_left seen.calls ≡ true → Serves s others caller seen ae moment ask reply after → Grants s others caller seen ae moment ask reply after
  grants seen after moment ask reply left = subst (λ (b : Bool). MatchBool b (Grants s others caller seen ae moment ask reply after) (Refuses seen ask reply after)) left

  pub calls_counted : (seen after : Seen A) (asks : List (Ask A)) (moments : List ℕ) (replies : List (Reply A)) (made most : ℕ)
      → seen.calls ≡ bounded made most → made + length asks ≤ most → Calls s others caller seen ae asks moments replies after
      → (after.calls ≡ bounded (made + length asks) most) × AllGranted s others caller seen ae asks moments replies after
  calls_counted seen after [] [] [] made most is few h = (ap (λ (x : Seen A). x.calls) h ∙ (is ∙ ap (λ (n : ℕ). bounded n most) (omega arith)), h)
  calls_counted seen after (a ∷ asks) (m ∷ moments) (r ∷ replies) made most is few h =
      let less : made < most = omega arith in
      let left : has_call_left seen.calls ≡ true = ap has_call_left is ∙ (grind (arith, nat_tests)) in
      let one = grants seen h.0 m a r left h.1 in
      let then : h.0.calls ≡ bounded (made + 1) most = ap (λ (x : Seen A). x.calls) one.4 ∙ ap one_made is in
      let more = calls_counted h.0 after asks moments replies (made + 1) most then (omega arith) h.2 in
      (more.0 ∙ ap (λ (n : ℕ). bounded n most) (omega arith), (h.0, one, more.1))
  calls_counted seen after [] [] (r ∷ replies) made most is few h = absurd h
  calls_counted seen after [] (m ∷ moments) replies made most is few h = absurd h
  calls_counted seen after (a ∷ asks) [] replies made most is few h = absurd h
  calls_counted seen after (a ∷ asks) (m ∷ moments) [] made most is few h = absurd h

  pub calls_alone : (seen after : Seen A) (asks : List (Ask A)) (moments : List ℕ) (replies : List (Reply A))
      → seen.calls ≡ unbounded → Calls s others caller seen ae asks moments replies after
      → (after.calls ≡ unbounded) × AllGranted s others caller seen ae asks moments replies after
  calls_alone seen after [] [] [] is h = (ap (λ (x : Seen A). x.calls) h ∙ is, h)
  calls_alone seen after (a ∷ asks) (m ∷ moments) (r ∷ replies) is h =
      let one = grants seen h.0 m a r (ap has_call_left is) h.1 in
      let more = calls_alone h.0 after asks moments replies (ap (λ (x : Seen A). x.calls) one.4 ∙ ap one_made is) h.2 in
      (more.0, (h.0, one, more.1))
  calls_alone seen after [] [] (r ∷ replies) is h = absurd h
  calls_alone seen after [] (m ∷ moments) replies is h = absurd h
  calls_alone seen after (a ∷ asks) [] replies is h = absurd h
  calls_alone seen after (a ∷ asks) (m ∷ moments) [] is h = absurd h

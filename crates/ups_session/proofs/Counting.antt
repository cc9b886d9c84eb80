-- How many calls of its service a session takes.
use Rattle.std.proofs.Common.{◌≡◌, ◌≤◌, ◌<◌, ℕ, ◌+◌, true, List, [], ◌∷◌, length, ap, ◌∙◌, arith}
use Rattle.std.proofs.lemmas.Bool.Decides.{nat_tests}
use Rattle.ups_life.specs.declared.request.Reply.{Reply}
use Rattle.ups_life.specs.Settings.{Settings}
use Rattle.ups_service.specs.Law.{Others, unbounded, bounded, has_call_left, one_made, Seen}
use Rattle.ups_service.proofs.Calling.{grants}
use Rattle.ups_session.specs.Fold.{Asked}
use Rattle.ups_session.specs.World.{ServesAll, GrantsAll}

module _ {A : Type 0} (s : Settings) (others : Others) (caller : ℕ) where
  pub asks_counted : (seen after : Seen A) (asks : List (Asked A)) (moments : List ℕ) (replies : List (Reply A)) (made most : ℕ)
      → seen.calls ≡ bounded made most → made + length asks ≤ most → ServesAll s others caller seen asks moments replies after
      → (after.calls ≡ bounded (made + length asks) most) × GrantsAll s others caller seen asks moments replies after
  asks_counted seen after [] [] [] made most is few h = (ap (λ (x : Seen A). x.calls) h ∙ (is ∙ ap (λ (n : ℕ). bounded n most) (omega arith)), h)
  asks_counted seen after (a ∷ asks) (m ∷ moments) (r ∷ replies) made most is few h =
      let less : made < most = omega arith in
      let left : has_call_left seen.calls ≡ true = ap has_call_left is ∙ (grind (arith, nat_tests)) in
      let one = grants s others caller a.ae seen h.0 m a.ask r left h.1 in
      let then : h.0.calls ≡ bounded (made + 1) most = ap (λ (x : Seen A). x.calls) one.4 ∙ ap one_made is in
      let more = asks_counted h.0 after asks moments replies (made + 1) most then (omega arith) h.2 in
      (more.0 ∙ ap (λ (n : ℕ). bounded n most) (omega arith), (h.0, one, more.1))
  asks_counted seen after [] [] (r ∷ replies) made most is few h = absurd h
  asks_counted seen after [] (m ∷ moments) replies made most is few h = absurd h
  asks_counted seen after (a ∷ asks) [] replies made most is few h = absurd h
  asks_counted seen after (a ∷ asks) (m ∷ moments) [] made most is few h = absurd h

  pub asks_alone : (seen after : Seen A) (asks : List (Asked A)) (moments : List ℕ) (replies : List (Reply A))
      → seen.calls ≡ unbounded → ServesAll s others caller seen asks moments replies after
      → (after.calls ≡ unbounded) × GrantsAll s others caller seen asks moments replies after
  asks_alone seen after [] [] [] is h = (ap (λ (x : Seen A). x.calls) h ∙ is, h)
  asks_alone seen after (a ∷ asks) (m ∷ moments) (r ∷ replies) is h =
      let one = grants s others caller a.ae seen h.0 m a.ask r (ap has_call_left is) h.1 in
      let more = asks_alone h.0 after asks moments replies (ap (λ (x : Seen A). x.calls) one.4 ∙ ap one_made is) h.2 in
      (more.0, (h.0, one, more.1))
  asks_alone seen after [] [] (r ∷ replies) is h = absurd h
  asks_alone seen after [] (m ∷ moments) replies is h = absurd h
  asks_alone seen after (a ∷ asks) [] replies is h = absurd h
  asks_alone seen after (a ∷ asks) (m ∷ moments) [] is h = absurd h

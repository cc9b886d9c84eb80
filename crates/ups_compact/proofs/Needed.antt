-- The steps held, with those of which an event is pending, lose nothing.
use Rattle.std.proofs.Common.{◌≡◌, ℕ, Bool, true, false, ◌||◌, List, [], ◌∷◌, ◌++◌, refl, ap, ◌∙◌}
use Rattle.std.specs.List.{AllByRecursion}
use Rattle.std.specs.Str.{bytes_eq}
use Rattle.std.proofs.lemmas.List.Folds.{list_any-append}
use Rattle.ups_life.specs.declared.entry.Entry.{Entry}
use Rattle.ups_life.specs.declared.event.Event.{Event}
use Rattle.ups_life.specs.declared.peer.Peer.{Peer}
use Rattle.ups_life.specs.Settings.{Settings}
use Rattle.ups_life.specs.Watching.{held, is_among, is_peer}
use Rattle.ups_life.specs.Events.{pending}
use Rattle.ups_life.proofs.Texts.{same_text, text_is_itself}
use Rattle.ups_compact.specs.Compacting.{LosesNothing, steps_of_events, steps_pending, steps_needed}

or_true : (b : Bool) → b || true ≡ true
or_true true = refl
or_true false = refl

first_among : (u : List ℕ) (xs ys : List (List ℕ)) → is_among u xs ≡ true → is_among u (xs ++ ys) ≡ true
first_among u xs ys h = list_any-append (λ v. bytes_eq v u) xs ys ∙ ap (λ (b : Bool). b || is_among u ys) h

second_among : (u : List ℕ) (xs ys : List (List ℕ)) → is_among u ys ≡ true → is_among u (xs ++ ys) ≡ true
second_among u xs ys h = list_any-append (λ v. bytes_eq v u) xs ys ∙ ap (λ (b : Bool). is_among u xs || b) h ∙ or_true (is_among u xs)

-- the step of each of these events is one of these
abbrev AreOfSteps : List (List ℕ) → List Event → Type 0
AreOfSteps steps xs = AllByRecursion (λ (x : Event). is_among x.step steps ≡ true) xs

of_more : (steps more : List (List ℕ)) → ((u : List ℕ) → is_among u steps ≡ true → is_among u more ≡ true) → (xs : List Event) → AreOfSteps steps xs → AreOfSteps more xs
of_more steps more wider [] h = tt
of_more steps more wider (x ∷ xs) (h, rest) = (wider x.step h, of_more steps more wider xs rest)

of_their_own : (xs : List Event) → AreOfSteps (steps_of_events xs) xs
of_their_own [] = tt
of_their_own (x ∷ xs) = (
  ap (λ (b : Bool). b || is_among x.step (steps_of_events xs)) (text_is_itself x.step),
  of_more (steps_of_events xs) (steps_of_events (x ∷ xs)) (λ u h. ap (λ (b : Bool). bytes_eq x.step u || b) h ∙ or_true (bytes_eq x.step u)) xs (of_their_own xs),
)

of_peer : {A : Type 0} (s : Settings) (es : List (Entry A)) (w : List ℕ) (ps : List Peer) → is_peer ps w ≡ true → (u : List ℕ) → is_among u (steps_of_events (pending s es w)) ≡ true → is_among u (steps_pending s es ps) ≡ true
of_peer s es w [] peer u h = absurd cc
of_peer {A} s es w (p ∷ ps) peer u h = at (bytes_eq p.ae w) refl (λ g. of_peer s es w ps g u h) peer
  where
    at : (b : Bool) → bytes_eq p.ae w ≡ b → (is_peer ps w ≡ true → is_among u (steps_pending s es ps) ≡ true) → b || is_peer ps w ≡ true → is_among u (steps_of_events (pending s es p.ae) ++ steps_pending s es ps) ≡ true
    at true is rest g = first_among u (steps_of_events (pending s es p.ae)) (steps_pending s es ps) (ap (λ (v : List ℕ). is_among u (steps_of_events (pending s es v))) (same_text p.ae w is) ∙ h)
    at false is rest g = second_among u (steps_of_events (pending s es p.ae)) (steps_pending s es ps) (rest g)

pub needed_lose_nothing : {A : Type 0} (s : Settings) (es : List (Entry A)) → LosesNothing s (steps_needed s es) es
needed_lose_nothing s es = record {
  keeps_held = λ u h. first_among u (held s es) (steps_pending s es s.peers) h;
  keeps_pending = λ w peer.
      of_more (steps_of_events (pending s es w)) (steps_needed s es) (λ u h. second_among u (held s es) (steps_pending s es s.peers) (of_peer s es w s.peers peer u h)) (pending s es w) (of_their_own (pending s es w));
}

-- What is compacted for some steps is legal: as many acknowledgements at least were dropped as are put behind it.
use Rattle.std.proofs.Common.{◌≡◌, ℕ, ◌+◌, ◌<◌, ◌≤◌, Bool, true, false, ◌||◌, cond, List, [], ◌∷◌, ◌++◌, length, take, drop, None, Some, refl, sym, ap, subst, ◌∙◌, arith, length-append}
use Rattle.std.specs.Prelude.{nat_lt, is_some}
use Rattle.std.proofs.lemmas.Bool.Decides.{nat_tests}
use Rattle.std.proofs.lemmas.List.{length-map}
use Rattle.std.proofs.lemmas.List.Elements.{filter-append}
use Rattle.ups_life.specs.declared.entry.Entry.{Entry}
use Rattle.ups_life.specs.declared.event.Event.{Event}
use Rattle.ups_life.specs.declared.peer.Peer.{Peer}
use Rattle.ups_life.specs.declared.request.Request.{Request}
use Rattle.ups_life.specs.declared.request.Request.TheVariants.{Create, Ack}
use Rattle.ups_life.specs.Settings.{Settings}
use Rattle.ups_life.specs.Watching.{is_among}
use Rattle.ups_life.specs.Events.{events, acked_after, acked}
use Rattle.ups_life.specs.History.{legal}
use Rattle.ups_compact.specs.Compacting.{is_left, sweeps_some, reservation, left_for, reported, of_steps, acked_of_steps, above_zero, upto_for, compacted_for, has_title_twice}
use Rattle.ups_compact.proofs.KeptTold.{told_kept, legal_kept}
use Rattle.ups_compact.proofs.Pending.{same_count}
use Rattle.ups_compact.proofs.Room.{count, count_more, has_acked, one_more, none_has, Can, legal_acks, within_limit, length_acks}
use Rattle.ups_compact.proofs.Shifting.{kept_acked, both_ends}

-- each that acknowledges has made one of the entries that are dropped
step_for : {A : Type 0} (s : Settings) (steps : List (List ℕ)) (e : Entry A) (es : List (Entry A)) (ps : List Peer) (r : Request A) → has_title_twice ps ≡ false → (b : Bool) → is_left steps r ≡ b
    → (c : Bool) → sweeps_some s steps es e.moment r ≡ c → length (left_for s steps es) + count (has_acked es) ps ≤ length es
    → length (cond (b || c) (e ∷ left_for s steps es) (reservation e r ++ left_for s steps es)) + count (λ w. nat_lt 0 (acked_after w e.ae (acked es w) r)) ps ≤ length (e ∷ es)
step_for s steps e es ps (Ack n) once true is c so h = absurd cc
step_for s steps e es ps (Ack n) once false is true so h = absurd cc
step_for s steps e es ps (Ack n) once false is false so h = let some = one_more e.ae n (acked es) ps once in omega (arith, h, some)
step_for s steps e es ps (Create v set) once true is c so h = omega (arith, h)
step_for s steps e es ps (Create v set) once false is true so h = absurd cc
step_for s steps e es ps (Create v set) once false is false so h = omega (arith, h)
step_for s steps e es ps r once true is c so h = omega (arith, h)
step_for s steps e es ps r once false is true so h = omega (arith, h)
step_for s steps e es ps r once false is false so h = omega (arith, h)

made_room_for : {A : Type 0} (s : Settings) (steps : List (List ℕ)) (es : List (Entry A)) (ps : List Peer) → has_title_twice ps ≡ false → length (left_for s steps es) + count (has_acked es) ps ≤ length es
made_room_for {A} s steps [] ps once = let none = none_has A ps in omega (arith, none)
made_room_for s steps (e ∷ es) ps once = step_for s steps e es ps e.request once (is_left steps e.request) refl (sweeps_some s steps es e.moment e.request) refl (made_room_for s steps es ps once)

-- who acknowledges has done so before
knows_for : {A : Type 0} (s : Settings) (steps : List (List ℕ)) (es : List (Entry A)) (w : List ℕ) → is_some (upto_for s steps es w) ≡ true → has_acked es w ≡ true
knows_for s steps es w h = at (nat_lt 0 (acked es w)) refl
  where
    none_acked : (n : ℕ) → nat_lt 0 n ≡ false → n ≡ 0
    none_acked n is = grind (arith, nat_tests)

    at : (b : Bool) → nat_lt 0 (acked es w) ≡ b → b ≡ true
    at true is = refl
    at false is =
        let none : is_some (upto_for s steps es w) ≡ false = ap (λ (n : ℕ). is_some (above_zero (length (of_steps steps (take n (events s es w)))))) (none_acked (acked es w) is) in
        absurd cc

few_for : {A : Type 0} (s : Settings) (steps : List (List ℕ)) (es : List (Entry A)) → has_title_twice s.peers ≡ false → length (left_for s steps es) + count (λ w. is_some (upto_for s steps es w)) s.peers ≤ length es
few_for s steps es once =
    let fewer = count_more (λ w. is_some (upto_for s steps es w)) (has_acked es) (λ w. knows_for s steps es w) s.peers in
    let room = made_room_for s steps es s.peers once in
    omega (arith, fewer, room)

-- the number is that of an event
of_some : (n m : ℕ) → above_zero n ≡ Some m → (n ≡ m) × (0 < m)
of_some n m h = at (nat_lt 0 n) refl h
  where
    at : (b : Bool) → nat_lt 0 n ≡ b → cond b (Some n) None ≡ Some m → (n ≡ m) × (0 < m)
    at true is g = let same : n ≡ m = cc in (same, grind (arith, nat_tests, is, same))
    at false is g = absurd cc

number_made : {A : Type 0} (s : Settings) (steps : List (List ℕ)) (es : List (Entry A)) (w : List ℕ) → acked_of_steps s steps es w ≤ length (events s (left_for s steps es) w)
number_made s steps es w =
    let all : length (events s (left_for s steps es) w) ≡ length (of_steps steps (events s es w)) =
    sym (length-map (events s (left_for s steps es) w) reported) ∙ ap length (told_kept s steps es w) ∙ same_count steps (events s es w) in
    let few = first_of (acked es w) (events s es w) in
    omega (arith, all, few)
  where
    first_of : (n : ℕ) (xs : List Event) → length (of_steps steps (take n xs)) ≤ length (of_steps steps xs)
    first_of n xs =
        let long : length (of_steps steps xs) ≡ length (of_steps steps (take n xs)) + length (of_steps steps (drop n xs)) =
        ap (λ (ys : List Event). length (of_steps steps ys)) (sym (both_ends n xs))
        ∙ ap length (filter-append (λ (x : Event). is_among x.step steps) (take n xs) (drop n xs))
        ∙ length-append (of_steps steps (take n xs)) (of_steps steps (drop n xs)) in
        omega (arith, long)

can_for : {A : Type 0} (s : Settings) (steps : List (List ℕ)) (es : List (Entry A)) → Can s (left_for s steps es) (upto_for s steps es)
can_for s steps es w n h =
    let is = of_some (acked_of_steps s steps es w) n h in
    (subst (λ (k : ℕ). k ≤ length (events s (left_for s steps es) w)) is.0 (number_made s steps es w), is.1)

pub legal_compacted_for : {A : Type 0} (caller moment : ℕ) (s : Settings) (steps : List (List ℕ)) (es : List (Entry A)) → legal s es ≡ true → has_title_twice s.peers ≡ false → legal s (compacted_for caller moment s steps es) ≡ true
legal_compacted_for caller moment s steps es l once =
    legal_acks caller moment s (upto_for s steps es) s.peers (left_for s steps es) once (legal_kept s steps es l) (can_for s steps es) (λ w there. kept_acked s steps w es)
    (let few = few_for s steps es once in let limit = within_limit s es l in omega (arith, few, limit))

pub no_longer_for : {A : Type 0} (caller moment : ℕ) (s : Settings) (steps : List (List ℕ)) (es : List (Entry A)) → has_title_twice s.peers ≡ false → length (compacted_for caller moment s steps es) ≤ length es
no_longer_for caller moment s steps es once =
    let long = length_acks caller moment (upto_for s steps es) s.peers (left_for s steps es) in
    let few = few_for s steps es once in
    omega (arith, long, few)

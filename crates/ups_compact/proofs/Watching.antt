-- Who watches a step that stays.
use Rattle.std.proofs.Common.{◌≡◌, ℕ, Bool, true, false, ◌&&◌, ◌||◌, not, cond, List, [], ◌∷◌, Option, None, Some, refl, sym, ap, ◌∙◌}
use Rattle.std.specs.Prelude.{is_some}
use Rattle.std.specs.List.{list_any}
use Rattle.std.specs.Option.{option_or}
use Rattle.std.specs.Str.{bytes_eq}
use Rattle.ups_dataset.specs.Data.{El}
use Rattle.ups_life.specs.declared.entry.Entry.{Entry}
use Rattle.ups_life.specs.declared.peer.Peer.{Peer}
use Rattle.ups_life.specs.declared.request.Request.{Request}
use Rattle.ups_life.specs.declared.request.Request.TheVariants.{Create, Change, AskCancel, Set, Subscribe, Unsubscribe, Suspend, Ack, Sweep, Reserve}
use Rattle.ups_life.specs.declared.watching.Subscription.{Subscription}
use Rattle.ups_life.specs.declared.watching.Target.TheVariants.{Single, Global, Filtered}
use Rattle.ups_life.specs.declared.watching.Place.TheVariants.{At, Everywhere}
use Rattle.ups_life.specs.Settings.{Settings}
use Rattle.ups_life.specs.Steps.{is_step, state, row, final_at}
use Rattle.ups_life.specs.Watching.{granted, takes_in, cover, newly_covered, watch_after, watch, is_locked, is_kept, has_passed, is_due, is_among}
use Rattle.ups_compact.specs.Compacting.{left}
use Rattle.ups_compact.proofs.Off.{does_some, plain, other, no_step}
use Rattle.ups_compact.proofs.Holding.{state_plain, row_next, row_plain, final_plain}
use Rattle.ups_compact.proofs.Covering.{cover_plain}

-- an entry does to a subscription what it does after another history that says the same of the step, and covers the same
module _ {A : Type 0} (s : Settings) (w u : List ℕ) (e : Entry A) (xs es : List (Entry A)) (p : state xs u ≡ state es u) (q : row s xs u ≡ row s es u)
    (covers : (attributes : List El) → cover s.peers xs w attributes ≡ cover s.peers es w attributes) where
  cover_of : (x y : List El) → x ≡ y → cover s.peers xs w x ≡ cover s.peers es w y
  cover_of x y is = covers x ∙ ap (λ (z : List El). cover s.peers es w z) is

  newly_same : newly_covered s xs e w u ≡ newly_covered s es e w u
  newly_same =
      ap (λ (x : Option Subscription). cond (is_some x) None (cover s.peers xs w (row s (e ∷ xs) u))) (cover_of (row s xs u) (row s es u) q)
      ∙ ap (λ (x : Option Subscription). cond (is_some (cover s.peers es w (row s es u))) None x) (cover_of (row s (e ∷ xs) u) (row s (e ∷ es) u) (row_next s u e xs es p q))

  same_after : (before : Option Subscription) (r : Request A) → watch_after s xs e w u before r ≡ watch_after s es e w u before r
  same_after before (Create step set) = ap (λ (x : Option Subscription). cond (bytes_eq step u) x before) (cover_of (row s (e ∷ xs) u) (row s (e ∷ es) u) (row_next s u e xs es p q))
  same_after before (Set step transaction set) = ap (λ (x : Option Subscription). cond (is_step u step) (option_or before x) before) newly_same
  same_after before (Subscribe target receiver lock) = ap (λ (x : List El). cond (bytes_eq receiver w && takes_in target u x) (Some (granted s.peers w lock)) before) q
  same_after before (Change step to transaction) = refl
  same_after before (AskCancel step reasons) = refl
  same_after before (Unsubscribe place receiver) = refl
  same_after before (Suspend receiver) = refl
  same_after before (Ack upto) = refl
  same_after before Sweep = refl
  same_after before (Reserve step) = refl

  watch_more : watch s xs w u ≡ watch s es w u → watch s (e ∷ xs) w u ≡ watch s (e ∷ es) w u
  watch_more h = ap (λ (x : Option Subscription). watch_after s xs e w u x e.request) h ∙ same_after (watch s es w u) e.request

unless : {X : Type 0} (a b : Bool) (x y : X) → b ≡ false → cond (a && b) x y ≡ y
unless true b x y e = ap (λ (c : Bool). cond c x y) e
unless false b x y e = refl

-- and one that is dropped did nothing
watch_off : {A : Type 0} (s : Settings) (steps : List (List ℕ)) (w u : List ℕ) → is_among u steps ≡ true → (e : Entry A) (es : List (Entry A)) (before : Option Subscription) (r : Request A) → does_some steps r ≡ false
    → watch_after s es e w u before r ≡ before
watch_off s steps w u in' e es before (Create step set) out = ap (λ (b : Bool). cond b (cover s.peers es w (row s (e ∷ es) u)) before) (other steps u step in' out)
watch_off s steps w u in' e es before (Set step transaction set) out = ap (λ (b : Bool). cond b (option_or before (newly_covered s es e w u)) before) (no_step steps u step in' out)
watch_off s steps w u in' e es before (Subscribe (Single step) receiver lock) out = unless (bytes_eq receiver w) (is_step u step) (Some (granted s.peers w lock)) before (no_step steps u step in' out)
watch_off s steps w u in' e es before (Subscribe Global receiver lock) out = absurd cc
watch_off s steps w u in' e es before (Subscribe (Filtered keys) receiver lock) out = absurd cc
watch_off s steps w u in' e es before (Unsubscribe (At step) receiver) out = unless (bytes_eq receiver w) (is_step u step) None before (no_step steps u step in' out)
watch_off s steps w u in' e es before (Unsubscribe Everywhere receiver) out = absurd cc
watch_off s steps w u in' e es before (Change step state transaction) out = refl
watch_off s steps w u in' e es before (AskCancel step reasons) out = refl
watch_off s steps w u in' e es before (Suspend receiver) out = refl
watch_off s steps w u in' e es before (Ack upto) out = refl
watch_off s steps w u in' e es before Sweep out = refl
watch_off s steps w u in' e es before (Reserve step) out = refl

pub watch_plain : {A : Type 0} (s : Settings) (steps : List (List ℕ)) (w u : List ℕ) → is_among u steps ≡ true → (es : List (Entry A)) → watch s (plain steps es) w u ≡ watch s es w u
watch_plain s steps w u in' [] = refl
watch_plain {A} s steps w u in' (e ∷ es) = at (does_some steps e.request) refl (watch_plain s steps w u in' es)
  where
    at : (b : Bool) → does_some steps e.request ≡ b → watch s (plain steps es) w u ≡ watch s es w u → watch s (cond b (e ∷ plain steps es) (plain steps es)) w u ≡ watch s (e ∷ es) w u
    at true is h = watch_more s w u e (plain steps es) es (state_plain steps u in' es) (row_plain s steps u in' es) (λ x. cover_plain steps s.peers w x es) h
    at false is h = h ∙ sym (watch_off s steps w u in' e es (watch s es w u) e.request is)

any_same : {X : Type 0} (f g : X → Bool) → ((x : X) → f x ≡ g x) → (xs : List X) → list_any f xs ≡ list_any g xs
any_same f g h [] = refl
any_same f g h (x ∷ xs) = ap (λ (b : Bool). b || list_any f xs) (h x) ∙ ap (λ (b : Bool). g x || b) (any_same f g h xs)

pub kept_plain : {A : Type 0} (s : Settings) (steps : List (List ℕ)) (u : List ℕ) → is_among u steps ≡ true → (es : List (Entry A)) → is_kept s (plain steps es) u ≡ is_kept s es u
kept_plain s steps u in' es = any_same (λ (p : Peer). is_locked (watch s (plain steps es) p.ae u)) (λ (p : Peer). is_locked (watch s es p.ae u)) (λ p. ap is_locked (watch_plain s steps p.ae u in' es)) s.peers

pub due_plain : {A : Type 0} (s : Settings) (steps : List (List ℕ)) (u : List ℕ) (moment : ℕ) → is_among u steps ≡ true → (es : List (Entry A)) → is_due s (plain steps es) moment u ≡ is_due s es moment u
due_plain s steps u moment in' es =
    ap (λ (x : Option ℕ). has_passed s.keep moment x && not (is_kept s (plain steps es) u)) (final_plain steps u in' es)
    ∙ ap (λ (b : Bool). has_passed s.keep moment (final_at es u) && not b) (kept_plain s steps u in' es)

-- What acknowledgements behind a history leave as it was: all but what is acknowledged.
use Rattle.std.proofs.Common.{◌≡◌, ℕ, Bool, true, false, ◌||◌, cond, List, [], ◌∷◌, Option, None, Some, refl, sym, ap, ◌∙◌}
use Rattle.std.specs.Option.{unwrap_or}
use Rattle.std.specs.Str.{bytes_eq}
use Rattle.std.proofs.lemmas.List.{append-nil}
use Rattle.ups_life.specs.declared.entry.Entry.{Entry}
use Rattle.ups_life.specs.declared.peer.Peer.{Peer}
use Rattle.ups_life.specs.declared.request.Request.{Request}
use Rattle.ups_life.specs.declared.request.Request.TheVariants.{Create, Change, AskCancel, Set, Subscribe, Unsubscribe, Suspend, Ack, Sweep, Reserve}
use Rattle.ups_life.specs.Settings.{Settings}
use Rattle.ups_life.specs.Steps.{row_of}
use Rattle.ups_life.specs.Watching.{is_peer, cover, watch, held}
use Rattle.ups_life.specs.Events.{events, acked_after, acked}
use Rattle.ups_life.proofs.Texts.{same_text}
use Rattle.ups_life.proofs.Accepted.{neither}
use Rattle.ups_compact.specs.Compacting.{is_left, with_ack, with_acks, has_title_twice}

-- an acknowledgement, as an entry
abbrev pub ack : {A : Type 0} → ℕ → ℕ → List ℕ → ℕ → Entry A
ack caller moment w n = record { caller = caller; ae = w; moment = moment; request = Ack n }

-- what no acknowledgement changes none of these changes
module _ {A X : Type 0} (caller moment : ℕ) (number : List ℕ → Option ℕ) (f : List (Entry A) → X) (same : (w : List ℕ) (n : ℕ) (es : List (Entry A)) → f (ack caller moment w n ∷ es) ≡ f es) where
  with_one : (w : List ℕ) (n : Option ℕ) (es : List (Entry A)) → f (with_ack caller moment w n es) ≡ f es
  with_one w None es = refl
  with_one w (Some n) es = same w n es

  pub with_each : (ps : List Peer) (es : List (Entry A)) → f (with_acks caller moment number ps es) ≡ f es
  with_each [] es = refl
  with_each (p ∷ ps) es = with_each ps (with_ack caller moment p.ae (number p.ae) es) ∙ with_one p.ae (number p.ae) es

module _ {A : Type 0} (caller moment : ℕ) (number : List ℕ → Option ℕ) (ps : List Peer) (es : List (Entry A)) where
  pub row_of_acks : (s : Settings) (u : List ℕ) → row_of s (with_acks caller moment number ps es) u ≡ row_of s es u
  row_of_acks s u = with_each caller moment number (λ (xs : List (Entry A)). row_of s xs u) (λ w n xs. refl) ps es

  pub watch_acks : (s : Settings) (w u : List ℕ) → watch s (with_acks caller moment number ps es) w u ≡ watch s es w u
  watch_acks s w u = with_each caller moment number (λ (xs : List (Entry A)). watch s xs w u) (λ v n xs. refl) ps es

  pub cover_acks : (peers : List Peer) (w : List ℕ) (attributes : _) → cover peers (with_acks caller moment number ps es) w attributes ≡ cover peers es w attributes
  cover_acks peers w attributes = with_each caller moment number (λ (xs : List (Entry A)). cover peers xs w attributes) (λ v n xs. refl) ps es

  pub held_acks : (s : Settings) → held s (with_acks caller moment number ps es) ≡ held s es
  held_acks s = with_each caller moment number (λ (xs : List (Entry A)). held s xs) (λ w n xs. refl) ps es

  pub events_acks : (s : Settings) (w : List ℕ) → events s (with_acks caller moment number ps es) w ≡ events s es w
  events_acks s w = with_each caller moment number (λ (xs : List (Entry A)). events s xs w) (λ v n xs. append-nil (events s xs w)) ps es

-- WHAT IS ACKNOWLEDGED

-- w's acknowledgement alone says what w has acknowledged
other_ack : {A : Type 0} (caller moment : ℕ) (v w : List ℕ) (n : Option ℕ) (es : List (Entry A)) → bytes_eq v w ≡ false → acked (with_ack caller moment v n es) w ≡ acked es w
other_ack caller moment v w None es h = refl
other_ack caller moment v w (Some n) es h = ap (λ (b : Bool). cond b n (acked es w)) h

own_ack : {A : Type 0} (caller moment : ℕ) (v w : List ℕ) (n : Option ℕ) (es : List (Entry A)) → bytes_eq v w ≡ true → acked (with_ack caller moment v n es) w ≡ unwrap_or n (acked es w)
own_ack caller moment v w None es h = refl
own_ack caller moment v w (Some n) es h = ap (λ (b : Bool). cond b n (acked es w)) h

pub none_acked : {A : Type 0} (caller moment : ℕ) (number : List ℕ → Option ℕ) (w : List ℕ) (ps : List Peer) (es : List (Entry A)) → is_peer ps w ≡ false → acked (with_acks caller moment number ps es) w ≡ acked es w
none_acked caller moment number w [] es h = refl
none_acked caller moment number w (p ∷ ps) es h =
    let none = neither (bytes_eq p.ae w) (is_peer ps w) h in
    none_acked caller moment number w ps (with_ack caller moment p.ae (number p.ae) es) none.1 ∙ other_ack caller moment p.ae w (number p.ae) es none.0

pub one_acked : {A : Type 0} (caller moment : ℕ) (number : List ℕ → Option ℕ) (w : List ℕ) (ps : List Peer) (es : List (Entry A)) → has_title_twice ps ≡ false → is_peer ps w ≡ true
    → acked (with_acks caller moment number ps es) w ≡ unwrap_or (number w) (acked es w)
one_acked caller moment number w [] es once h = absurd cc
one_acked {A} caller moment number w (p ∷ ps) es once h = at (bytes_eq p.ae w) refl (λ g. one_acked caller moment number w ps next alone.1 g) h
  where
    next : List (Entry A)
    next = with_ack caller moment p.ae (number p.ae) es

    alone : (is_peer ps p.ae ≡ false) × (has_title_twice ps ≡ false)
    alone = neither (is_peer ps p.ae) (has_title_twice ps) once

    at : (b : Bool) → bytes_eq p.ae w ≡ b → (is_peer ps w ≡ true → acked (with_acks caller moment number ps next) w ≡ unwrap_or (number w) (acked next w)) → b || is_peer ps w ≡ true
        → acked (with_acks caller moment number ps next) w ≡ unwrap_or (number w) (acked es w)
    at true is later g =
        none_acked caller moment number w ps next (ap (λ (v : List ℕ). is_peer ps v) (sym (same_text p.ae w is)) ∙ alone.0)
        ∙ own_ack caller moment p.ae w (number p.ae) es is
        ∙ ap (λ (v : List ℕ). unwrap_or (number v) (acked es w)) (same_text p.ae w is)
    at false is later g = later g ∙ ap (unwrap_or (number w)) (other_ack caller moment p.ae w (number p.ae) es is)

-- what stays of a history acknowledges nothing
pub stays_unacked : {A : Type 0} (steps : List (List ℕ)) (w ae : List ℕ) (n : ℕ) (r : Request A) → is_left steps r ≡ true → acked_after w ae n r ≡ n
stays_unacked steps w ae n (Ack upto) h = absurd cc
stays_unacked steps w ae n (Create step set) h = refl
stays_unacked steps w ae n (Change step state t) h = refl
stays_unacked steps w ae n (AskCancel step reasons) h = refl
stays_unacked steps w ae n (Set step t set) h = refl
stays_unacked steps w ae n (Subscribe target receiver lock) h = refl
stays_unacked steps w ae n (Unsubscribe place receiver) h = refl
stays_unacked steps w ae n (Suspend receiver) h = refl
stays_unacked steps w ae n Sweep h = refl
stays_unacked steps w ae n (Reserve step) h = refl

-- A history that is compacted while it grows says what its log says.
use Rattle.std.proofs.Common.{◌≡◌, ℕ, Bool, true, false, ◌||◌, ◌&&◌, not, cond, List, [], ◌∷◌, ◌++◌, length, map, filter, Option, None, Some, refl, sym, ap, ◌∙◌}
use Rattle.std.specs.Prelude.{is_some}
use Rattle.std.specs.List.{list_any}
use Rattle.std.specs.Option.{option_or, option_map, unwrap_or}
use Rattle.std.specs.Str.{bytes_eq}
use Rattle.ups_dataset.specs.declared.tag.Tag.{Tag}
use Rattle.ups_dataset.specs.Data.{El, answer, laid_over}
use Rattle.ups_match.specs.Matching.{KeySet, is_match}
use Rattle.ups_cycle.specs.declared.state.StepState.{StepState}
use Rattle.ups_cycle.specs.declared.state.StepState.TheVariants.{Scheduled}
use Rattle.ups_cycle.specs.declared.status.Status.{Status}
use Rattle.ups_life.specs.declared.entry.Entry.{Entry}
use Rattle.ups_life.specs.declared.peer.Peer.{Peer}
use Rattle.ups_life.specs.declared.row.Row.{Row}
use Rattle.ups_life.specs.declared.request.Reply.TheVariants.{Status as Answered, Swept}
use Rattle.ups_life.specs.declared.request.Request.{Request}
use Rattle.ups_life.specs.declared.request.Request.TheVariants.{Create, Change, AskCancel, Set, Subscribe, Unsubscribe, Suspend, Ack, Sweep, Reserve}
use Rattle.ups_life.specs.declared.watching.Subscription.{Subscription}
use Rattle.ups_life.specs.Settings.{Settings}
use Rattle.ups_life.specs.Steps.{Claim, is_step, is_on, creates, uses_uid, used, state_then, state, claimed, claim, right, finished, final_at, given, row, row_of, row_after, step_of, named_step, nothing}
use Rattle.ups_life.specs.Watching.{granted, takes_in, cover_after, cover, newly_covered, watch_after, watch, is_locked, is_kept, has_passed, is_due, held, held_after, is_among, is_held, known, removed}
use Rattle.ups_life.specs.Verdict.{verdict}
use Rattle.ups_life.specs.History.{sized, repeats, row_then, receiver_of, of_peer, of_lock, status, decided, legal, shown_of, got}
use Rattle.ups_life.specs.Worklist.{worklist}
use Rattle.ups_life.proofs.Texts.{same_text, text_is_itself}
use Rattle.ups_life.proofs.Accepted.{neither, differ, legal_tail, succeeded, on_held}
use Rattle.ups_life.proofs.HeldOnce.{is_held_used, creates_none}
use Rattle.ups_life.proofs.OneHolder.{not_on}
use Rattle.ups_compact.specs.Shifting.{SaysSame}
use Rattle.ups_compact.proofs.Holding.{row_next}
use Rattle.ups_compact.proofs.Used.{held_then}

-- two histories say the same of a step
pub record Same {A : Type 0} (s : Settings) (xs ys : List (Entry A)) (u : List ℕ) : Type 0 where
  pub row_is : row s xs u ≡ row s ys u
  pub state_is : state xs u ≡ state ys u
  pub claim_is : claim xs u ≡ claim ys u
  pub final_is : final_at xs u ≡ final_at ys u

-- a history says nothing of a step
pub record Nothing {A : Type 0} (s : Settings) (es : List (Entry A)) (u : List ℕ) : Type 0 where
  pub no_row : row s es u ≡ []
  pub no_state : state es u ≡ Scheduled
  pub no_claim : claim es u ≡ None
  pub no_end : final_at es u ≡ None

row_of_same : {A : Type 0} (s : Settings) (xs ys : List (Entry A)) (u : List ℕ) → Same s xs ys u → row_of s xs u ≡ row_of s ys u
row_of_same s xs ys u h =
    ap (λ (x : List El). record { attributes = x; state = state xs u; transaction = right xs u; final_at = final_at xs u }) h.row_is
    ∙ (ap (λ (x : StepState). record { attributes = row s ys u; state = x; transaction = right xs u; final_at = final_at xs u }) h.state_is
    ∙ (ap (λ (x : Option Claim). record { attributes = row s ys u; state = state ys u; transaction = option_map (λ (k : Claim). k.transaction) x; final_at = final_at xs u }) h.claim_is
    ∙ ap (λ (x : Option ℕ). record { attributes = row s ys u; state = state ys u; transaction = right ys u; final_at = x }) h.final_is))

pub same_next : {A : Type 0} (s : Settings) (e : Entry A) (xs ys : List (Entry A)) (u : List ℕ) → Same s xs ys u → Same s (e ∷ xs) (e ∷ ys) u
same_next s e xs ys u h = record {
  row_is = row_next s u e xs ys h.state_is h.row_is;
  state_is = ap (λ (x : StepState). cond (is_on u e.request) (state_then x e.request) x) h.state_is;
  claim_is = ap (λ (x : Option Claim). cond (is_on u e.request) (option_or (claimed e) x) x) h.claim_is;
  final_is =
      ap (λ (x : StepState). cond (is_on u e.request) (option_or (finished x e.moment e.request) (final_at xs u)) (final_at xs u)) h.state_is
      ∙ ap (λ (x : Option ℕ). cond (is_on u e.request) (option_or (finished (state ys u) e.moment e.request) x) x) h.final_is;
}

same_nothing : {A : Type 0} (s : Settings) (xs ys : List (Entry A)) (u : List ℕ) → Nothing s xs u → Nothing s ys u → Same s xs ys u
same_nothing s xs ys u h k = record {
  row_is = h.no_row ∙ sym k.no_row;
  state_is = h.no_state ∙ sym k.no_state;
  claim_is = h.no_claim ∙ sym k.no_claim;
  final_is = h.no_end ∙ sym k.no_end;
}

nothing_next : {A : Type 0} (s : Settings) (e : Entry A) (es : List (Entry A)) (u : List ℕ) → is_on u e.request ≡ false → Nothing s es u → Nothing s (e ∷ es) u
nothing_next s e es u off h = record {
  no_row = ap (λ (b : Bool). laid_over (cond b (given s.offset e.moment (state es u) e.request) []) (row s es u)) off ∙ h.no_row;
  no_state = ap (λ (b : Bool). cond b (state_then (state es u) e.request) (state es u)) off ∙ h.no_state;
  no_claim = ap (λ (b : Bool). cond b (option_or (claimed e) (claim es u)) (claim es u)) off ∙ h.no_claim;
  no_end = ap (λ (b : Bool). cond b (option_or (finished (state es u) e.moment e.request) (final_at es u)) (final_at es u)) off ∙ h.no_end;
}

-- a legal history says nothing of a step whose UID was not used
pub unused_nothing : {A : Type 0} (s : Settings) (es : List (Entry A)) (u : List ℕ) → legal s es ≡ true → used es u ≡ false → Nothing s es u
unused_nothing s [] u l h = record { no_row = refl; no_state = refl; no_claim = refl; no_end = refl }
unused_nothing s (e ∷ es) u l h =
    let n = neither (uses_uid u e.request) (used es u) h in
    nothing_next s e es u (not_on s es u e.request (succeeded s e es l) n.1 (creates_none u e.request n.0)) (unused_nothing s es u (legal_tail s e es l) n.1)

or_true : (b : Bool) → b || true ≡ true
or_true true = refl
or_true false = refl

-- where two functions agree on each of these
pub filter_among : (p q : List ℕ → Bool) (xs : List (List ℕ)) → ((u : List ℕ) → is_among u xs ≡ true → p u ≡ q u) → filter p xs ≡ filter q xs
filter_among p q [] h = refl
filter_among p q (x ∷ xs) h =
    ap (λ (b : Bool). cond b (x ∷ filter p xs) (filter p xs)) (h x (ap (λ (b : Bool). b || is_among x xs) (text_is_itself x)))
    ∙ ap (λ (ys : List (List ℕ)). cond (q x) (x ∷ ys) ys) (filter_among p q xs (λ u a. h u (ap (λ (b : Bool). bytes_eq x u || b) a ∙ or_true (bytes_eq x u))))

pub map_among : {X : Type 0} (f g : List ℕ → X) (xs : List (List ℕ)) → ((u : List ℕ) → is_among u xs ≡ true → f u ≡ g u) → map f xs ≡ map g xs
map_among f g [] h = refl
map_among {X} f g (x ∷ xs) h =
    ap (λ (y : X). y ∷ map f xs) (h x (ap (λ (b : Bool). b || is_among x xs) (text_is_itself x)))
    ∙ ap (λ (ys : List X). g x ∷ ys) (map_among f g xs (λ u a. h u (ap (λ (b : Bool). bytes_eq x u || b) a ∙ or_true (bytes_eq x u))))

pub any_same : {X : Type 0} (f g : X → Bool) → ((x : X) → f x ≡ g x) → (xs : List X) → list_any f xs ≡ list_any g xs
any_same f g h [] = refl
any_same f g h (x ∷ xs) = ap (λ (b : Bool). b || list_any f xs) (h x) ∙ ap (λ (b : Bool). g x || b) (any_same f g h xs)

-- a creation under a UID that was not used
pub unused_before : {A : Type 0} (es : List (Entry A)) (u : List ℕ) (q : Request A) → creates u q ≡ true → repeats es q ≡ false → used es u ≡ false
unused_before es u (Create v set) c a = ap (used es) (sym (same_text v u c)) ∙ a
unused_before es u q c a = absurd cc

-- an acknowledgement names an event by its number
abbrev pub is_ack : {A : Type 0} → Request A → Bool
is_ack (Ack n) = true
is_ack q = false

-- WHAT IS SAID AFTERWARDS, by a history that says what its log says
module _ {A : Type 0} (s : Settings) (by log : List (Entry A)) (r : SaysSame s by log) where
  pub held_by : (u : List ℕ) → is_held s log u ≡ true → is_held s by u ≡ true
  held_by u h = ap (λ (xs : List (List ℕ)). is_among u xs) r.steps ∙ h

  pub held_log : (u : List ℕ) → is_held s by u ≡ true → is_held s log u ≡ true
  held_log u h = sym (ap (λ (xs : List (List ℕ)). is_among u xs) r.steps) ∙ h

  pub used_log : (u : List ℕ) → is_held s log u ≡ true → used log u ≡ true
  used_log u h = r.used_too u (is_held_used s by u (held_by u h))

  unused_by : (u : List ℕ) → used log u ≡ false → used by u ≡ false
  unused_by u h = at (used by u) refl
    where
      at : (b : Bool) → used by u ≡ b → b ≡ false
      at true is = absurd (differ (used log u) h (r.used_too u is))
      at false is = refl

  pub same_of : (u : List ℕ) → is_held s log u ≡ true → Same s by log u
  same_of u h = record {
    row_is = ap (λ (x : Row A). x.attributes) (r.rows u h);
    state_is = ap (λ (x : Row A). x.state) (r.rows u h);
    claim_is = r.claims u h;
    final_is = ap (λ (x : Row A). x.final_at) (r.rows u h);
  }

  kept_same : (u : List ℕ) → is_held s log u ≡ true → is_kept s by u ≡ is_kept s log u
  kept_same u h = any_same (λ (p : Peer). is_locked (watch s by p.ae u)) (λ (p : Peer). is_locked (watch s log p.ae u)) (λ p. ap is_locked (r.watched p.ae u h)) s.peers

  due_same : (now : ℕ) (u : List ℕ) → is_held s log u ≡ true → is_due s by now u ≡ is_due s log now u
  due_same now u h =
      ap (λ (x : Option ℕ). has_passed s.keep now x && not (is_kept s by u)) (same_of u h).final_is
      ∙ ap (λ (b : Bool). has_passed s.keep now (final_at log u) && not b) (kept_same u h)

  removed_same : (now : ℕ) → removed s by now ≡ removed s log now
  removed_same now = ap (filter (is_due s by now)) r.steps ∙ filter_among (is_due s by now) (is_due s log now) (held s log) (λ u h. due_same now u h)

  known_same : (step : Option (List ℕ)) → known s by step ≡ known s log step
  known_same None = refl
  known_same (Some u) = ap (λ (xs : List (List ℕ)). cond (is_among u xs) (Some (row_of s by u)) None) r.steps ∙ at (is_held s log u) refl
    where
      at : (b : Bool) → is_held s log u ≡ b → cond b (Some (row_of s by u)) None ≡ cond b (Some (row_of s log u)) None
      at true h = ap (λ (x : Row A). Some x) (r.rows u h)
      at false h = refl

  status_same : (e : Entry A) → repeats by e.request ≡ repeats log e.request → status s by e ≡ status s log e
  status_same e again =
      ap (λ (x : Option (Row A)). of_peer s.peers (receiver_of e.request) (of_lock s.peers e.request (sized e.request (row_after s.offset e.moment (unwrap_or x nothing) e.request).attributes (verdict (known s by (named_step e.request)) (repeats by e.request) e.request))))
      (known_same (step_of e.request))
      ∙ ap (λ (x : Option (Row A)). of_peer s.peers (receiver_of e.request) (of_lock s.peers e.request (sized e.request (row_then s log e).attributes (verdict x (repeats by e.request) e.request))))
      (known_same (named_step e.request))
      ∙ ap (λ (b : Bool). of_peer s.peers (receiver_of e.request) (of_lock s.peers e.request (sized e.request (row_then s log e).attributes (verdict (known s log (named_step e.request)) b e.request)))) again

  decided_by : (e : Entry A) (q : Request A) → is_ack q ≡ false → status s by e ≡ status s log e → decided s by e q ≡ decided s log e q
  decided_by e (Ack n) h same = absurd cc
  decided_by e Sweep h same = ap (λ (xs : List (List ℕ)). Swept (length xs)) (removed_same e.moment)
  decided_by e (Create u set) h same = ap (λ (x : Status). Answered x) same
  decided_by e (Change step to t) h same = ap (λ (x : Status). Answered x) same
  decided_by e (AskCancel step reasons) h same = ap (λ (x : Status). Answered x) same
  decided_by e (Set step t set) h same = ap (λ (x : Status). Answered x) same
  decided_by e (Subscribe target receiver lock) h same = ap (λ (x : Status). Answered x) same
  decided_by e (Unsubscribe place receiver) h same = ap (λ (x : Status). Answered x) same
  decided_by e (Suspend receiver) h same = ap (λ (x : Status). Answered x) same
  decided_by e (Reserve v) h same = ap (λ (x : Status). Answered x) same

  pub decided_with : (e : Entry A) → is_ack e.request ≡ false → repeats by e.request ≡ repeats log e.request → decided s by e e.request ≡ decided s log e e.request
  decided_with e other again = decided_by e e.request other (status_same e again)

  pub got_same : (step : Option (List ℕ)) (tags : List Tag) → got s by step tags ≡ got s log step tags
  got_same step tags = ap (λ (x : Option (Row A)). shown_of x tags) (known_same step)

  pub worklist_same : (keys : KeySet) → worklist s by keys ≡ worklist s log keys
  worklist_same keys =
      ap (λ (xs : List (List El)). map (λ x. answer x keys.attributes) (filter (is_match keys) xs))
      (ap (map (row s by)) r.steps ∙ map_among (row s by) (row s log) (held s log) (λ u h. (same_of u h).row_is))

-- THE SAME IS SAID AFTER AN ENTRY, which the history accepts
pub record Says {A : Type 0} (s : Settings) (by log : List (Entry A)) : Type 0 where
  pub same : SaysSame s by log
  pub unused : (u : List ℕ) → used log u ≡ false → Nothing s log u

module _ {A : Type 0} (s : Settings) (e : Entry A) (by log : List (Entry A)) (says : Says s by log) (l : legal s (e ∷ by) ≡ true) (anew : repeats log e.request ≡ false) where
  r : SaysSame s by log
  r = says.same

  -- an entry on a step that it does not create
  pub on_known : (u : List ℕ) → is_on u e.request ≡ true → creates u e.request ≡ false → is_held s log u ≡ true
  on_known u on old = held_log s by log r u (on_held s by u e.request (succeeded s e by l) on old)

  pub same_new : (u : List ℕ) → creates u e.request ≡ true → Same s by log u
  same_new u c =
      let fresh = unused_before log u e.request c anew in
      same_nothing s by log u (unused_nothing s by u (legal_tail s e by l) (unused_by s by log r u fresh)) (says.unused u fresh)

  held_case : (q : Request A) → held_after s by e.moment (held s by) q ≡ held_after s log e.moment (held s log) q
  held_case (Create v set) = ap (λ (xs : List (List ℕ)). xs ++ v ∷ []) r.steps
  held_case Sweep =
      ap (filter (λ u. not (is_due s by e.moment u))) r.steps
      ∙ filter_among (λ u. not (is_due s by e.moment u)) (λ u. not (is_due s log e.moment u)) (held s log) (λ u h. ap not (due_same s by log r e.moment u h))
  held_case (Change step to t) = r.steps
  held_case (AskCancel step reasons) = r.steps
  held_case (Set step t set) = r.steps
  held_case (Subscribe target receiver lock) = r.steps
  held_case (Unsubscribe place receiver) = r.steps
  held_case (Suspend receiver) = r.steps
  held_case (Ack n) = r.steps
  held_case (Reserve v) = r.steps

  -- a step that is held afterwards was held, or is new
  at_step : {P : Type 0} (u : List ℕ) → is_held s (e ∷ log) u ≡ true → (is_held s log u ≡ true → P) → (creates u e.request ≡ true → P) → P
  at_step {P} u h old new = at (creates u e.request) refl
    where
      at : (b : Bool) → creates u e.request ≡ b → P
      at true c = new c
      at false c = old (held_then s log e.moment (held s log) u e.request c h)

  said_of : (u : List ℕ) → is_held s (e ∷ log) u ≡ true → Same s by log u
  said_of u h = at_step u h (same_of s by log r u) (same_new u)

  said_then : (u : List ℕ) → is_held s (e ∷ log) u ≡ true → Same s (e ∷ by) (e ∷ log) u
  said_then u h = same_next s e by log u (said_of u h)

  pub cover_of : (w : List ℕ) (x y : List El) → x ≡ y → cover s.peers by w x ≡ cover s.peers log w y
  cover_of w x y is = r.covered w x ∙ ap (λ (z : List El). cover s.peers log w z) is

  newly_same : (w u : List ℕ) → Same s by log u → newly_covered s by e w u ≡ newly_covered s log e w u
  newly_same w u h =
      ap (λ (x : Option Subscription). cond (is_some x) None (cover s.peers by w (row s (e ∷ by) u))) (cover_of w (row s by u) (row s log u) h.row_is)
      ∙ ap (λ (x : Option Subscription). cond (is_some (cover s.peers log w (row s log u))) None x)
      (cover_of w (row s (e ∷ by) u) (row s (e ∷ log) u) (same_next s e by log u h).row_is)

  pub after_same : (w u : List ℕ) (before : Option Subscription) (q : Request A) → Same s by log u → watch_after s by e w u before q ≡ watch_after s log e w u before q
  after_same w u before (Create v set) h = ap (λ (x : Option Subscription). cond (bytes_eq v u) x before) (cover_of w (row s (e ∷ by) u) (row s (e ∷ log) u) (same_next s e by log u h).row_is)
  after_same w u before (Set step t set) h = ap (λ (x : Option Subscription). cond (is_step u step) (option_or before x) before) (newly_same w u h)
  after_same w u before (Subscribe target receiver lock) h = ap (λ (x : List El). cond (bytes_eq receiver w && takes_in target u x) (Some (granted s.peers w lock)) before) h.row_is
  after_same w u before (Change step to t) h = refl
  after_same w u before (AskCancel step reasons) h = refl
  after_same w u before (Unsubscribe place receiver) h = refl
  after_same w u before (Suspend receiver) h = refl
  after_same w u before (Ack n) h = refl
  after_same w u before Sweep h = refl
  after_same w u before (Reserve v) h = refl

  -- who watches a new step does not depend on what was before
  watch_new : (w u : List ℕ) (x y : Option Subscription) (q : Request A) → creates u q ≡ true → watch_after s log e w u x q ≡ watch_after s log e w u y q
  watch_new w u x y (Create v set) c =
      ap (λ (b : Bool). cond b (cover s.peers log w (row s (e ∷ log) u)) x) c
      ∙ sym (ap (λ (b : Bool). cond b (cover s.peers log w (row s (e ∷ log) u)) y) c)
  watch_new w u x y q c = absurd cc

  watch_then : (w u : List ℕ) → is_held s (e ∷ log) u ≡ true → watch s (e ∷ by) w u ≡ watch s (e ∷ log) w u
  watch_then w u h =
      after_same w u (watch s by w u) e.request (said_of u h)
      ∙ at_step u h (λ old. ap (λ (x : Option Subscription). watch_after s log e w u x e.request) (r.watched w u old)) (λ new. watch_new w u (watch s by w u) (watch s log w u) e.request new)

  used_then : (u : List ℕ) → used (e ∷ by) u ≡ true → used (e ∷ log) u ≡ true
  used_then u = at (uses_uid u e.request)
    where
      at : (b : Bool) → b || used by u ≡ true → b || used log u ≡ true
      at true h = refl
      at false h = r.used_too u h

  unused_then : (u : List ℕ) → used (e ∷ log) u ≡ false → Nothing s (e ∷ log) u
  unused_then u h =
      let n = neither (uses_uid u e.request) (used log u) h in
      nothing_next s e log u (at (creates_none u e.request n.0) n.1 (is_on u e.request) refl) (says.unused u n.1)
    where
      at : creates u e.request ≡ false → used log u ≡ false → (b : Bool) → is_on u e.request ≡ b → b ≡ false
      at old fresh true on = absurd (differ (used log u) fresh (used_log s by log r u (on_known u on old)))
      at old fresh false on = refl

  pub says_then : Says s (e ∷ by) (e ∷ log)
  says_then = record {
    same = record {
      steps = held_case e.request;
      rows = λ u h. row_of_same s (e ∷ by) (e ∷ log) u (said_then u h);
      claims = λ u h. (said_then u h).claim_is;
      watched = watch_then;
      covered = λ w attributes. ap (λ (x : Option Subscription). cover_after s.peers w attributes x e.request) (r.covered w attributes);
      used_too = used_then;
    };
    unused = unused_then;
  }

-- What is kept for some steps, entry by entry. A sweep is kept if it is accepted behind what is kept so far.
use Rattle.std.proofs.Common.{◌≡◌, ℕ, ◌<◌, ◌+◌, Bool, true, false, ◌||◌, cond, List, [], ◌∷◌, ◌++◌, length, take, drop, get_or, refl, sym, ap, subst, ◌∙◌}
use Rattle.std.specs.Prelude.{nat_lt, Result, Ok, Err, OnOk, IfErr, MatchResult}
use Rattle.std.proofs.lemmas.List.{take_more, take-append-drop}
use Rattle.std.proofs.lemmas.List.Elements.{All-get_or}
use Rattle.std.specs.List.{All}
use Rattle.ups_life.specs.declared.entry.Entry.{Entry}
use Rattle.ups_life.specs.declared.request.Request.{Request}
use Rattle.ups_life.specs.declared.request.Request.TheVariants.{Create, Sweep}
use Rattle.ups_life.specs.Settings.{Settings, IsMoment}
use Rattle.ups_life.specs.Steps.{past}
use Rattle.ups_life.specs.History.{accepts, decided, reply, legal}
use Rattle.ups_life.proofs.Accepted.{legal_head, differ}
use Rattle.ups_life.proofs.Past.{past-push}
use Rattle.ups_service.specs.Law.{is_legal}
use Rattle.ups_service.proofs.Legality.{beginning_legal}
use Rattle.ups_compact.specs.Compacting.{is_left, sweeps_some, is_left_for, reservation, left_for}
use Rattle.ups_compact.proofs.Accepting.{both}
use Rattle.ups_compact.proofs.Kept.{removed_kept}
use Rattle.ups_compact.proofs.KeptTold.{legal_kept}
use Rattle.ups_restore.specs.declared.fault.Refusal.{Refusal}
use Rattle.ups_restore.specs.declared.fault.Refusal.TheVariants.{Refused, NoRoom}
use Rattle.ups_restore.specs.Replaying.{IsRefusal}
use Rattle.ups_restore.specs.Compacting.{is_sweep}
use Rattle.ups_restore.proofs.Legally.{only_room}

-- a reservation has the moment of the creation
reserved_moment : {A : Type 0} (e : Entry A) (q : Request A) (r : Entry A) → reservation e q ≡ r ∷ [] → r.moment ≡ e.moment
reserved_moment {A} e (Create step attributes) r one = sym (ap (first_moment e.moment) one)
  where
    first_moment : ℕ → List (Entry A) → ℕ
    first_moment m [] = m
    first_moment m (x ∷ xs) = x.moment
reserved_moment e q r one = absurd cc

module _ {A : Type 0} (s : Settings) (steps : List (List ℕ)) (e : Entry A) (es : List (Entry A)) where
  other_sweeps_none : (r : Request A) → is_sweep r ≡ false → sweeps_some s steps es e.moment r ≡ false
  other_sweeps_none Sweep h = absurd cc
  other_sweeps_none r h = refl

  no_sweep_left : (r : Request A) → is_sweep r ≡ true → is_left steps r ≡ false
  no_sweep_left Sweep h = refl
  no_sweep_left r h = absurd cc

  -- a sweep is accepted behind what is kept if it removed one of the steps
  swept : (r : Request A) → is_sweep r ≡ true → accepts (decided s (left_for s steps es) e r) ≡ sweeps_some s steps es e.moment r
  swept Sweep h = ap (λ (xs : List (List ℕ)). nat_lt 0 (length xs)) (removed_kept s steps es e.moment)
  swept r h = absurd cc

  kept_next : is_left_for s steps e es ≡ true → left_for s steps (e ∷ es) ≡ e ∷ left_for s steps es
  kept_next is = ap (λ (b : Bool). cond b (e ∷ left_for s steps es) (reservation e e.request ++ left_for s steps es)) is

  -- what remains of an entry that goes
  gone_next : is_left steps e.request ≡ false → sweeps_some s steps es e.moment e.request ≡ false → left_for s steps (e ∷ es) ≡ reservation e e.request ++ left_for s steps es
  gone_next off none =
      ap (λ (b : Bool). cond (b || sweeps_some s steps es e.moment e.request) (e ∷ left_for s steps es) (reservation e e.request ++ left_for s steps es)) off
      ∙ ap (λ (b : Bool). cond b (e ∷ left_for s steps es) (reservation e e.request ++ left_for s steps es)) none

  no_reservation : (r : Request A) → is_sweep r ≡ true → reservation e r ≡ []
  no_reservation Sweep h = refl
  no_reservation r h = absurd cc

  left_is_kept : is_left steps e.request ≡ true → is_left_for s steps e es ≡ true
  left_is_kept is = ap (λ (b : Bool). b || sweeps_some s steps es e.moment e.request) is

  sweep_is_kept : is_sweep e.request ≡ true → legal s (e ∷ left_for s steps es) ≡ true → is_left_for s steps e es ≡ true
  sweep_is_kept is ok =
      ap (λ (b : Bool). is_left steps e.request || b) (sym (swept e.request is) ∙ legal_head s e (left_for s steps es) ok) ∙ or_true (is_left steps e.request)
    where
      or_true : (b : Bool) → b || true ≡ true
      or_true true = refl
      or_true false = refl

  -- what is kept is accepted behind what is kept
  accepted_next : legal s (e ∷ es) ≡ true → is_left_for s steps e es ≡ true → legal s (e ∷ left_for s steps es) ≡ true
  accepted_next l is = subst (λ (xs : List (Entry A)). legal s xs ≡ true) (kept_next is) (legal_kept s steps (e ∷ es) l)

  module _ (t : Settings) (old now : List (Entry A)) (was : past old ≡ left_for s steps es) where
    behind : past (old ++ e ∷ []) ≡ e ∷ left_for s steps es
    behind = past-push old e ∙ ap (λ (xs : List (Entry A)). e ∷ xs) was

    legal_there : t ≡ s → now ≡ old ++ e ∷ [] → is_legal t now → legal s (e ∷ left_for s steps es) ≡ true
    legal_there same is ok = subst (λ (x : Settings). legal x (e ∷ left_for s steps es) ≡ true) same (subst (λ (xs : List (Entry A)). legal t xs ≡ true) (ap past is ∙ behind) ok)

    -- an entry that is left was entered
    pub entered_left : is_left steps e.request ≡ true → now ≡ old ++ e ∷ [] → past now ≡ left_for s steps (e ∷ es)
    entered_left left is = ap past is ∙ behind ∙ sym (kept_next (left_is_kept left))

    -- a sweep was entered
    pub entered_sweep : is_sweep e.request ≡ true → t ≡ s → now ≡ old ++ e ∷ [] → is_legal t now → past now ≡ left_for s steps (e ∷ es)
    entered_sweep sweep same is ok = ap past is ∙ behind ∙ sym (kept_next (sweep_is_kept sweep (legal_there same is ok)))

    -- nothing remains
    pub passed_over : is_left steps e.request ≡ false → is_sweep e.request ≡ false → reservation e e.request ≡ [] → now ≡ old → past now ≡ left_for s steps (e ∷ es)
    passed_over off none nothing is =
        ap past is ∙ was ∙ sym (gone_next off (other_sweeps_none e.request none) ∙ ap (λ (xs : List (Entry A)). xs ++ left_for s steps es) nothing)

    -- a reservation remains
    reserved_next : is_left steps e.request ≡ false → is_sweep e.request ≡ false → (r : Entry A) → reservation e e.request ≡ r ∷ [] → left_for s steps (e ∷ es) ≡ r ∷ left_for s steps es
    reserved_next off none r one = gone_next off (other_sweeps_none e.request none) ∙ ap (λ (xs : List (Entry A)). xs ++ left_for s steps es) one

    -- it is entered, or there is want of room
    pub carried_reservation : {T : Type 0} → is_left steps e.request ≡ false → is_sweep e.request ≡ false → (r : Entry A) → reservation e e.request ≡ r ∷ [] → legal s (e ∷ es) ≡ true
        → (result : Result T Refusal) → OnOk result (now ≡ old ++ r ∷ []) → IfErr result (λ x. IsRefusal s old r x)
        → MatchResult result (λ _. past now ≡ left_for s steps (e ∷ es)) (λ x. IsMoment e.moment → x ≡ NoRoom)
    carried_reservation off none r one l (Ok x) entered why =
        ap past entered ∙ past-push old r ∙ ap (λ (xs : List (Entry A)). r ∷ xs) was ∙ sym (reserved_next off none r one)
    carried_reservation off none r one l (Err x) entered why = λ at.
        only_room s old r [] x
        (subst (λ (xs : List (Entry A)). legal s xs ≡ true) (reserved_next off none r one ∙ sym (past-push old r ∙ ap (λ (xs : List (Entry A)). r ∷ xs) was)) (legal_kept s steps (e ∷ es) l))
        (subst IsMoment (sym (reserved_moment e e.request r one)) at) why

    -- a sweep was refused
    pub refused_sweep : is_sweep e.request ≡ true → legal s (e ∷ es) ≡ true → now ≡ old → IsRefusal s old e Refused → past now ≡ left_for s steps (e ∷ es)
    refused_sweep sweep l is why =
        ap past is ∙ was
        ∙ sym (gone_next (no_sweep_left e.request sweep) (none (sweeps_some s steps es e.moment e.request) refl) ∙ ap (λ (xs : List (Entry A)). xs ++ left_for s steps es) (no_reservation e.request sweep))
      where
        none : (b : Bool) → sweeps_some s steps es e.moment e.request ≡ b → b ≡ false
        none true some =
            let kept = ap (λ (b : Bool). b || sweeps_some s steps es e.moment e.request) (no_sweep_left e.request sweep) ∙ some in
            absurd (differ (accepts (reply s (past old) e)) why.0 (ap (λ (xs : List (Entry A)). accepts (reply s xs e)) was ∙ (both (accepts (reply s (left_for s steps es) e)) (legal s (left_for s steps es)) (accepted_next l kept)).0))
        none false some = refl

    -- an entry that is left is only refused for want of room
    pub only_room_left : is_left steps e.request ≡ true → legal s (e ∷ es) ≡ true → IsMoment e.moment → (r : Refusal) → IsRefusal s old e r → r ≡ NoRoom
    only_room_left left l at r why =
        only_room s old e [] r (subst (λ (xs : List (Entry A)). legal s xs ≡ true) (sym behind) (accepted_next l (left_is_kept left))) at why

    -- so it is entered, or there is want of room
    pub carried_left : {T : Type 0} → is_left steps e.request ≡ true → legal s (e ∷ es) ≡ true → (r : Result T Refusal) → OnOk r (now ≡ old ++ e ∷ []) → IfErr r (λ x. IsRefusal s old e x)
        → MatchResult r (λ _. past now ≡ left_for s steps (e ∷ es)) (λ x. IsMoment e.moment → x ≡ NoRoom)
    carried_left left l (Ok x) entered why = entered_left left entered
    carried_left left l (Err x) entered why = λ at. only_room_left left l at x why

-- THE LOOP over a history

module _ {A : Type 0} (h : List (Entry A)) (i : ℕ) (e : Entry A) (low : i < length h) (is : e ≡ get_or h i e) where
  pub past_more : past (take (i + 1) h) ≡ e ∷ past (take i h)
  past_more = ap past (take_more h i e low ∙ ap (λ (x : Entry A). take i h ++ x ∷ []) (sym is)) ∙ past-push (take i h) e

  -- the first entries are legal, newest first
  pub legal_front : (s : Settings) → is_legal s h → legal s (e ∷ past (take i h)) ≡ true
  legal_front s l =
      subst (λ (xs : List (Entry A)). legal s xs ≡ true) past_more
      (beginning_legal s (take (i + 1) h) (drop (i + 1) h) (subst (λ (xs : List (Entry A)). is_legal s xs) (sym (take-append-drop (i + 1) h)) l))

  -- one entry more is entered, if it is kept
  pub kept_more : (s t : Settings) (steps : List (List ℕ)) (now then : List (Entry A)) → t ≡ s → is_legal s h → past now ≡ left_for s steps (past (take i h))
      → ((es : List (Entry A)) → legal t (e ∷ es) ≡ true → past now ≡ left_for t steps es → past then ≡ left_for t steps (e ∷ es)) → past then ≡ left_for s steps (past (take (i + 1) h))
  kept_more s t steps now then same l was step =
      step (past (take i h)) (subst (λ (x : Settings). legal x (e ∷ past (take i h)) ≡ true) (sym same) (legal_front s l)) (was ∙ ap (λ (x : Settings). left_for x steps (past (take i h))) (sym same))
      ∙ ap (λ (x : Settings). left_for x steps (e ∷ past (take i h))) same
      ∙ ap (left_for s steps) (sym past_more)

  -- or it is not
  pub kept_fault : (P : Type 0) (s t : Settings) (steps : List (List ℕ)) (now : List (Entry A)) → t ≡ s → is_legal s h → past now ≡ left_for s steps (past (take i h)) → All (λ (x : Entry A). IsMoment x.moment) h
      → ((es : List (Entry A)) → legal t (e ∷ es) ≡ true → past now ≡ left_for t steps es → IsMoment e.moment → P) → P
  kept_fault P s t steps now same l was at step =
      step (past (take i h)) (subst (λ (x : Settings). legal x (e ∷ past (take i h)) ≡ true) (sym same) (legal_front s l)) (was ∙ ap (λ (x : Settings). left_for x steps (past (take i h))) (sym same))
      (subst (λ (x : Entry A). IsMoment x.moment) (sym is) (All-get_or (λ (x : Entry A). IsMoment x.moment) h i e low at))

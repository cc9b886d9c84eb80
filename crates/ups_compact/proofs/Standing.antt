-- A history that is compacted while it grows stands for the log of all that was entered.
use Rattle.std.proofs.Common.{◌≡◌, ◌<◌, ◌≤◌, ℕ, ◌+◌, true, false, List, [], ◌∷◌, ◌++◌, length, refl, sym, ap, subst, ◌∙◌, arith}
use Rattle.std.proofs.lemmas.List.{reverse-append, reverse-reverse}
use Rattle.ups_life.specs.declared.entry.Entry.{Entry}
use Rattle.ups_life.specs.declared.request.Request.{Request}
use Rattle.ups_life.specs.declared.request.Request.TheVariants.{Ack}
use Rattle.ups_life.specs.Settings.{Settings}
use Rattle.ups_life.specs.Steps.{past}
use Rattle.ups_life.specs.Claims.{claims}
use Rattle.ups_life.specs.History.{decided, reply, legal}
use Rattle.ups_life.proofs.Accepted.{legal_tail}
use Rattle.ups_life.proofs.OneHolder.{claimed_once}
use Rattle.ups_life.proofs.Past.{past-push, length-past}
use Rattle.ups_compact.specs.Compacting.{compacted_for, steps_needed, has_title_twice}
use Rattle.ups_compact.specs.Shifting.{with_number_more, lifted, shift, IsShifted}
use Rattle.ups_compact.specs.Course.{Turn, Entered, Compacted, log_of, kept_of, is_course, with_limit, IsLeftOf}
use Rattle.ups_compact.proofs.Accepting.{both, join}
use Rattle.ups_compact.proofs.KeptRoom.{legal_compacted_for}
use Rattle.ups_compact.proofs.Needed.{needed_lose_nothing}
use Rattle.ups_compact.proofs.Shifted.{put, stands_compacted, has_free, is_below}
use Rattle.ups_compact.proofs.Lifted.{stands_itself, stands_through, decided_lifted, legal_lifted, stands_lifted}
use Rattle.ups_compact.proofs.Limits.{shift_any, decided_any, legal_any, shifted_any}

-- the history that is left is legal
course_legal : {A : Type 0} (s : Settings) (turns : List (Turn A)) → is_course s turns ≡ true → legal s (kept_of s turns) ≡ true
course_legal s [] c = refl
course_legal s (turn ∷ turns) c = (both (legal s (kept_of s (turn ∷ turns))) (is_course s turns) c).0

course_before : {A : Type 0} (s : Settings) (turn : Turn A) (turns : List (Turn A)) → is_course s (turn ∷ turns) ≡ true → is_course s turns ≡ true
course_before s turn turns c = (both (legal s (kept_of s (turn ∷ turns))) (is_course s turns) c).1

lifted_any : {A : Type 0} (n m : ℕ) (s : Settings) (by log : List (Entry A)) (e : Entry A) → lifted (with_limit n s) by log e ≡ lifted (with_limit m s) by log e
lifted_any {A} n m s by log e = ap (λ (k : ℕ). put e (with_number_more k e.request)) (shift_any n m s by log e.ae)

-- A COMPACTION for the steps needed stands for what the history stood for
stands_less : {A : Type 0} (caller moment : ℕ) (s : Settings) → has_title_twice s.peers ≡ false → (by log : List (Entry A)) → legal s by ≡ true → IsShifted s by log
    → IsShifted s (compacted_for caller moment s (steps_needed s by) by) log
stands_less caller moment s once by log l x =
    stands_through s (compacted_for caller moment s (steps_needed s by) by) by log (stands_compacted caller moment s (steps_needed s by) by l once (needed_lose_nothing s by)) x

-- ALL ALONG, with settings that leave room for the log
stands_all : {A : Type 0} (s : Settings) → has_title_twice s.peers ≡ false → (n : ℕ) (turns : List (Turn A)) → is_course s turns ≡ true → length (log_of s turns) ≤ n
    → (legal (with_limit n s) (log_of s turns) ≡ true) × IsShifted (with_limit n s) (kept_of s turns) (log_of s turns)
stands_all s once n [] c room = (refl, stands_itself (with_limit n s) [] refl)
stands_all {A} s once n (Entered e ∷ turns) c room =
    let by = kept_of s turns in
    let log = log_of s turns in
    let h = stands_all s once n turns (course_before s (Entered e) turns c) (omega (arith, room)) in
    let long = h.1.no_longer in
    let l = legal_any s.limit n s (e ∷ by) (course_legal s (Entered e ∷ turns) c) (omega (arith, long, room)) in
    subst (λ (d : Entry A). (legal (with_limit n s) (d ∷ log) ≡ true) × IsShifted (with_limit n s) (e ∷ by) (d ∷ log)) (lifted_any n s.limit s by log e) (
      legal_lifted (with_limit n s) by log e h.1 h.0 l (omega (arith, room)),
      stands_lifted (with_limit n s) by log e h.1 h.0 l (omega (arith, room)),
    )
stands_all {A} s once n (Compacted caller moment ∷ turns) c room =
    let by = kept_of s turns in
    let log = log_of s turns in
    let before = course_legal s turns (course_before s (Compacted caller moment) turns c) in
    let h = stands_all s once n turns (course_before s (Compacted caller moment) turns c) room in
    let x = stands_less caller moment s once by log before (shifted_any n s.limit s by log h.1 before) in
    let long = x.no_longer in (
      h.0,
      shifted_any s.limit n s (compacted_for caller moment s (steps_needed s by) by) log x
          (legal_any s.limit n s (compacted_for caller moment s (steps_needed s by) by) x.legal_too (omega (arith, long, room))),
    )

module _ {A : Type 0} (s : Settings) (turns : List (Turn A)) (once : has_title_twice s.peers ≡ false) (c : is_course s turns ≡ true) where
  pub course_stands : IsShifted s (kept_of s turns) (log_of s turns)
  course_stands =
      shifted_any (length (log_of s turns)) s.limit s (kept_of s turns) (log_of s turns)
      (stands_all s once (length (log_of s turns)) turns c (omega arith)).1
      (course_legal s turns c)

  pub log_legal : (n : ℕ) → length (log_of s turns) ≤ n → legal (with_limit n s) (log_of s turns) ≡ true
  log_legal n room = (stands_all s once n turns c room).0

  pub log_claimed : (u : List ℕ) → length (claims (log_of s turns) u) ≤ 1
  log_claimed u = claimed_once (with_limit (length (log_of s turns)) s) (log_of s turns) u (log_legal (length (log_of s turns)) (omega arith))

-- and where both have room, they reply the same
pub course_reply : {A : Type 0} (s : Settings) (turns : List (Turn A)) (e : Entry A) (n : ℕ) → has_title_twice s.peers ≡ false → is_course s turns ≡ true → length (kept_of s turns) < s.limit → length (log_of s turns) < n
    → reply s (kept_of s turns) e ≡ reply (with_limit n s) (log_of s turns) (lifted s (kept_of s turns) (log_of s turns) e)
course_reply {A} s turns e n once c room more =
    let by = kept_of s turns in
    let log = log_of s turns in
    let d = lifted s by log e in
    has_free s by (decided s by e e.request) (is_below (length by) (length by) s.limit (omega arith) room)
    ∙ decided_lifted s by log e (course_stands s turns once c)
    ∙ decided_any s.limit n s log d d.request
    ∙ sym (has_free (with_limit n s) log (decided (with_limit n s) log d d.request) (is_below (length log) (length log) n (omega arith) more))

-- A HISTORY THAT WAS NEVER COMPACTED is left of itself

turns_of : {A : Type 0} → List (Entry A) → List (Turn A)
turns_of [] = []
turns_of (e ∷ es) = Entered e ∷ turns_of es

kept_of_turns : {A : Type 0} (s : Settings) (es : List (Entry A)) → kept_of s (turns_of es) ≡ es
unfolding turns_of
kept_of_turns s [] = refl
kept_of_turns {A} s (e ∷ es) = ap (λ (xs : List (Entry A)). e ∷ xs) (kept_of_turns s es)

lifted_same : {A : Type 0} (s : Settings) (es : List (Entry A)) (e : Entry A) → lifted s es es e ≡ e
lifted_same {A} s es e = at (shift s es es e.ae) (omega arith) e.request
  where
    at : (k : ℕ) → k ≡ 0 → (r : Request A) → put e (with_number_more k r) ≡ put e r
    at k is (Ack n) = ap (λ (i : ℕ). put e (Ack i)) (let same : n + k ≡ n = omega (arith, is) in same)
    at k is r = refl

log_of_turns : {A : Type 0} (s : Settings) (es : List (Entry A)) → log_of s (turns_of es) ≡ es
unfolding turns_of
log_of_turns s [] = refl
log_of_turns {A} s (e ∷ es) =
    ap (λ (xs : List (Entry A)). lifted s xs (log_of s (turns_of es)) e ∷ log_of s (turns_of es)) (kept_of_turns s es)
    ∙ ap (λ (xs : List (Entry A)). lifted s es xs e ∷ xs) (log_of_turns s es)
    ∙ ap (λ (d : Entry A). d ∷ es) (lifted_same s es e)

course_of_turns : {A : Type 0} (s : Settings) (es : List (Entry A)) → legal s es ≡ true → is_course s (turns_of es) ≡ true
unfolding turns_of
course_of_turns s [] l = refl
course_of_turns {A} s (e ∷ es) l =
    join (legal s (e ∷ kept_of s (turns_of es))) (is_course s (turns_of es))
    (subst (λ (xs : List (Entry A)). legal s (e ∷ xs) ≡ true) (sym (kept_of_turns s es)) l)
    (course_of_turns s es (legal_tail s e es l))

pub left_itself : {A : Type 0} (s : Settings) (history : List (Entry A)) → legal s (past history) ≡ true → IsLeftOf s history history
left_itself s history l = record {
  turns = turns_of (past history);
  course = course_of_turns s (past history) l;
  kept = sym (reverse-reverse history) ∙ ap past (sym (kept_of_turns s (past history)));
  all = sym (reverse-reverse history) ∙ ap past (sym (log_of_turns s (past history)));
}

-- WHAT IS LEFT OF A LOG, newest first
module _ {A : Type 0} (s : Settings) (by log : List (Entry A)) (k : IsLeftOf s by log) where
  past_kept : past by ≡ kept_of s k.turns
  past_kept = ap past k.kept ∙ reverse-reverse (kept_of s k.turns)

  past_log : past log ≡ log_of s k.turns
  past_log = ap past k.all ∙ reverse-reverse (log_of s k.turns)

  pub left_legal : legal s (past by) ≡ true
  left_legal = subst (λ (xs : List (Entry A)). legal s xs ≡ true) (sym past_kept) (course_legal s k.turns k.course)

  pub left_more : (e : Entry A) → legal s (past (by ++ e ∷ [])) ≡ true → IsLeftOf s (by ++ e ∷ []) (log ++ lifted s (past by) (past log) e ∷ [])
  left_more e l =
      let next : past (by ++ e ∷ []) ≡ e ∷ kept_of s k.turns = past-push by e ∙ ap (λ (xs : List (Entry A)). e ∷ xs) past_kept in
      let entered : lifted s (past by) (past log) e ≡ lifted s (kept_of s k.turns) (log_of s k.turns) e =
      ap (λ (xs : List (Entry A)). lifted s xs (past log) e) past_kept ∙ ap (λ (xs : List (Entry A)). lifted s (kept_of s k.turns) xs e) past_log in record {
        turns = Entered e ∷ k.turns;
        course = join (legal s (e ∷ kept_of s k.turns)) (is_course s k.turns) (subst (λ (xs : List (Entry A)). legal s xs ≡ true) next l) k.course;
        kept = ap (λ (xs : List (Entry A)). xs ++ e ∷ []) k.kept ∙ sym (reverse-append (e ∷ []) (kept_of s k.turns));
        all =
            ap (λ (xs : List (Entry A)). xs ++ lifted s (past by) (past log) e ∷ []) k.all
            ∙ ap (λ (d : Entry A). past (log_of s k.turns) ++ d ∷ []) entered
            ∙ sym (reverse-append (lifted s (kept_of s k.turns) (log_of s k.turns) e ∷ []) (log_of s k.turns));
      }

  pub left_stands : has_title_twice s.peers ≡ false → IsShifted s (past by) (past log)
  left_stands once =
      subst (λ (xs : List (Entry A)). IsShifted s xs (past log)) (sym past_kept)
      (subst (λ (xs : List (Entry A)). IsShifted s (kept_of s k.turns) xs) (sym past_log) (course_stands s k.turns once k.course))

  pub left_log : has_title_twice s.peers ≡ false → (n : ℕ) → length log ≤ n → legal (with_limit n s) (past log) ≡ true
  left_log once n room =
      let same : length (log_of s k.turns) ≡ length log = ap length (sym past_log) ∙ length-past log in
      subst (λ (xs : List (Entry A)). legal (with_limit n s) xs ≡ true) (sym past_log) (log_legal s k.turns once k.course n (omega (arith, same, room)))

  pub left_less : (caller moment : ℕ) → has_title_twice s.peers ≡ false → IsLeftOf s (past (compacted_for caller moment s (steps_needed s (past by)) (past by))) log
  left_less caller moment once =
      let l = course_legal s k.turns k.course in record {
        turns = Compacted caller moment ∷ k.turns;
        course =
            join (legal s (compacted_for caller moment s (steps_needed s (kept_of s k.turns)) (kept_of s k.turns))) (is_course s k.turns)
            (legal_compacted_for caller moment s (steps_needed s (kept_of s k.turns)) (kept_of s k.turns) l once)
            k.course;
        kept = ap (λ (xs : List (Entry A)). past (compacted_for caller moment s (steps_needed s xs) xs)) past_kept;
        all = k.all;
      }

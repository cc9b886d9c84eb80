-- A history that is left of a log goes on with the later entries of the log, and the shift stays as it was.
use Rattle.std.proofs.Common.{◌≡◌, ℕ, ◌+◌, ◌-◌, true, false, List, [], ◌∷◌, ◌++◌, length, map, refl, sym, ap, subst, ◌∙◌, arith}
use Rattle.std.proofs.lemmas.List.{append_assoc, append-nil, reverse-append}
use Rattle.ups_life.specs.declared.entry.Entry.{Entry}
use Rattle.ups_life.specs.declared.request.Request.{Request}
use Rattle.ups_life.specs.declared.request.Request.TheVariants.{Ack}
use Rattle.ups_life.specs.Settings.{Settings}
use Rattle.ups_life.specs.Steps.{past}
use Rattle.ups_life.specs.Events.{events, acked}
use Rattle.ups_life.specs.History.{legal}
use Rattle.ups_life.proofs.Accepted.{legal_head, legal_tail}
use Rattle.ups_life.proofs.Past.{past-push}
use Rattle.ups_compact.specs.Compacting.{has_title_twice}
use Rattle.ups_compact.specs.Course.{IsLeftOf}
use Rattle.ups_compact.specs.Shifting.{shift, with_number_less, with_number_more, shifted, lifted, IsShifted}
use Rattle.ups_compact.proofs.Shifted.{put, goes_further, stands_more, shift_next}
use Rattle.ups_compact.proofs.Standing.{left_more, left_stands}

-- THE SAME ENTRY, with the lesser number and the greater one again: the log acknowledged no less than the shift before it
shifted_back : {A : Type 0} (s : Settings) (by log : List (Entry A)) (e : Entry A) → IsShifted s by log → legal s (e ∷ log) ≡ true → lifted s by log (shifted s by log e) ≡ e
shifted_back {A} s by log e x l = at e.request l
  where
    at : (r : Request A) → legal s (put e r ∷ log) ≡ true → put e (with_number_more (shift s by log e.ae) (with_number_less (shift s by log e.ae) r)) ≡ put e r
    at (Ack n) g =
        let more = goes_further A (length (events s log e.ae)) (acked log e.ae) n (legal_head s (put e (Ack n)) log g) in
        let was = x.acked_too e.ae in
        ap (λ (i : ℕ). put e (Ack i)) (let same : n - shift s by log e.ae + shift s by log e.ae ≡ n = omega (arith, more, was) in same)
    at r g = refl

-- the entries before a place are legal
before_legal : {A : Type 0} (s : Settings) (later before : List (Entry A)) → legal s (later ++ before) ≡ true → legal s before ≡ true
before_legal s [] before l = l
before_legal s (e ∷ later) before l = before_legal s later before (legal_tail s e (later ++ before) l)

begins_legal : {A : Type 0} (s : Settings) (log : List (Entry A)) (e : Entry A) (later : List (Entry A)) → legal s (past (log ++ e ∷ later)) ≡ true → legal s (past (log ++ e ∷ [])) ≡ true
begins_legal {A} s log e later l =
    before_legal s (past later) (past (log ++ e ∷ []))
    (subst (λ (xs : List (Entry A)). legal s xs ≡ true) (ap past (sym (append_assoc log (e ∷ []) later)) ∙ reverse-append (log ++ e ∷ []) later) l)

-- entries are made less by the shift alone
same_shifted : {A : Type 0} (s : Settings) (a b c d : List (Entry A)) → ((w : List ℕ) → shift s a b w ≡ shift s c d w) → (later : List (Entry A)) → map (shifted s a b) later ≡ map (shifted s c d) later
same_shifted s a b c d same [] = refl
same_shifted {A} s a b c d same (e ∷ later) =
    ap (λ (k : ℕ). put e (with_number_less k e.request) ∷ map (shifted s a b) later) (same e.ae)
    ∙ ap (λ (xs : List (Entry A)). shifted s c d e ∷ xs) (same_shifted s a b c d same later)

-- ONE ENTRY of the log more
module _ {A : Type 0} (s : Settings) (by log : List (Entry A)) (e : Entry A) (once : has_title_twice s.peers ≡ false) (k : IsLeftOf s by log) (l : legal s (past (log ++ e ∷ [])) ≡ true) where
  now_legal : legal s (e ∷ past log) ≡ true
  now_legal = subst (λ (xs : List (Entry A)). legal s xs ≡ true) (past-push log e) l

  abbrev then : Entry A
  then = shifted s (past by) (past log) e

  pub left_next : IsLeftOf s (by ++ shifted s (past by) (past log) e ∷ []) (log ++ e ∷ [])
  left_next =
      let x = left_stands s by log k once in
      let more = stands_more s (past by) (past log) e x now_legal in
      subst (λ (d : Entry A). IsLeftOf s (by ++ then ∷ []) (log ++ d ∷ [])) (shifted_back s (past by) (past log) e x now_legal)
      (left_more s by log k then (subst (λ (xs : List (Entry A)). legal s xs ≡ true) (sym (past-push by then)) more.legal_too))

  pub left_next_shift : (w : List ℕ) → shift s (past (by ++ shifted s (past by) (past log) e ∷ [])) (past (log ++ e ∷ [])) w ≡ shift s (past by) (past log) w
  left_next_shift w =
      ap (λ (xs : List (Entry A)). shift s xs (past (log ++ e ∷ [])) w) (past-push by then)
      ∙ ap (λ (xs : List (Entry A)). shift s (then ∷ past by) xs w) (past-push log e)
      ∙ shift_next s (past by) (past log) e (left_stands s by log k once) now_legal w

-- ALL LATER ENTRIES of the log, made less by the shift at the beginning
pub left_ever : {A : Type 0} (s : Settings) (by log later : List (Entry A)) → has_title_twice s.peers ≡ false → IsLeftOf s by log → legal s (past (log ++ later)) ≡ true
    → IsLeftOf s (by ++ map (shifted s (past by) (past log)) later) (log ++ later)
left_ever {A} s by log [] once k l =
    subst (λ (xs : List (Entry A)). IsLeftOf s xs (log ++ [])) (sym (append-nil by)) (subst (λ (xs : List (Entry A)). IsLeftOf s by xs) (sym (append-nil log)) k)
left_ever {A} s by log (e ∷ later) once k l =
    let first = begins_legal s log e later l in
    let then = shifted s (past by) (past log) e in
    let rest = left_ever s (by ++ then ∷ []) (log ++ e ∷ []) later once (left_next s by log e once k first) (subst (λ (xs : List (Entry A)). legal s (past xs) ≡ true) (sym (append_assoc log (e ∷ []) later)) l) in
    let same : (by ++ then ∷ []) ++ map (shifted s (past (by ++ then ∷ [])) (past (log ++ e ∷ []))) later ≡ by ++ then ∷ map (shifted s (past by) (past log)) later =
    ap (λ (xs : List (Entry A)). (by ++ then ∷ []) ++ xs)
    (same_shifted s (past (by ++ then ∷ [])) (past (log ++ e ∷ [])) (past by) (past log) (left_next_shift s by log e once k first) later)
    ∙ append_assoc by (then ∷ []) (map (shifted s (past by) (past log)) later) in
    subst (λ (xs : List (Entry A)). IsLeftOf s xs (log ++ e ∷ later)) same
    (subst (λ (xs : List (Entry A)). IsLeftOf s ((by ++ then ∷ []) ++ map (shifted s (past (by ++ then ∷ [])) (past (log ++ e ∷ []))) later) xs) (append_assoc log (e ∷ []) later) rest)

pub left_ever_shift : {A : Type 0} (s : Settings) (by log later : List (Entry A)) → has_title_twice s.peers ≡ false → IsLeftOf s by log → legal s (past (log ++ later)) ≡ true → (w : List ℕ)
    → shift s (past (by ++ map (shifted s (past by) (past log)) later)) (past (log ++ later)) w ≡ shift s (past by) (past log) w
left_ever_shift {A} s by log [] once k l w =
    ap (λ (xs : List (Entry A)). shift s (past xs) (past (log ++ [])) w) (append-nil by) ∙ ap (λ (xs : List (Entry A)). shift s (past by) (past xs) w) (append-nil log)
left_ever_shift {A} s by log (e ∷ later) once k l w =
    let first = begins_legal s log e later l in
    let then = shifted s (past by) (past log) e in
    let rest =
    left_ever_shift s (by ++ then ∷ []) (log ++ e ∷ []) later once (left_next s by log e once k first)
    (subst (λ (xs : List (Entry A)). legal s (past xs) ≡ true) (sym (append_assoc log (e ∷ []) later)) l) w in
    let same : (by ++ then ∷ []) ++ map (shifted s (past (by ++ then ∷ [])) (past (log ++ e ∷ []))) later ≡ by ++ then ∷ map (shifted s (past by) (past log)) later =
    ap (λ (xs : List (Entry A)). (by ++ then ∷ []) ++ xs)
    (same_shifted s (past (by ++ then ∷ [])) (past (log ++ e ∷ [])) (past by) (past log) (left_next_shift s by log e once k first) later)
    ∙ append_assoc by (then ∷ []) (map (shifted s (past by) (past log)) later) in
    ap (λ (xs : List (Entry A)). shift s (past xs) (past (log ++ e ∷ later)) w) (sym same)
    ∙ ap (λ (xs : List (Entry A)). shift s (past ((by ++ then ∷ []) ++ map (shifted s (past (by ++ then ∷ [])) (past (log ++ e ∷ []))) later)) (past xs) w) (sym (append_assoc log (e ∷ []) later))
    ∙ rest
    ∙ left_next_shift s by log e once k first w

-- SHIFTS ADD UP
pub no_shift : {A : Type 0} (s : Settings) (es : List (Entry A)) (w : List ℕ) → shift s es es w ≡ 0
no_shift s es w = omega arith

pub both_shifts : {A : Type 0} (s : Settings) (a b c : List (Entry A)) (w : List ℕ) → IsShifted s a b → IsShifted s b c → shift s a c w ≡ shift s a b w + shift s b c w
both_shifts s a b c w x y = let few = x.no_more w in let more = y.no_more w in omega (arith, few, more)

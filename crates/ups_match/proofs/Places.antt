-- At which places of a text a run fits.
use Rattle.std.proofs.Common.{◌≡◌, ◌≤◌, ◌<◌, ◌+◌, ◌||◌, ℕ, zero, suc, Bool, true, false, cond, List, [], ◌∷◌, length, drop, get_or, refl, sym, ap, ◌∙◌, arith, drop-drop, length-drop}
use Rattle.std.proofs.lemmas.List.{get_or-drop}
use Rattle.std.specs.Prelude.{Option, None, Some, ◌==◌}
use Rattle.std.specs.Option.{option_map}
use Rattle.std.proofs.lemmas.Bool.Decides.{nat_tests}
use Rattle.std.specs.List.{list_any}
use Rattle.memchr.specs.Find.{OccursAt, FindsNeedle}
use Rattle.ups_match.specs.Likeness.{is_question_mark}
use Rattle.ups_match.specs.Runs.{behind_front, or_behind, behind_first}
use Rattle.ups_match.proofs.PatternRuns.{behind_is, same_number}

-- a byte of a run stands for a byte
abbrev pub fits : ℕ → ℕ → Bool
fits p b = is_question_mark p || p == b

-- each byte of a run stands for the byte of the text at its place
abbrev pub FitsFront : List ℕ → List ℕ → Type 0
FitsFront run text = (j : ℕ) → j < length run → fits (get_or run j 0) (get_or text j 0) ≡ true

pub front_from : (run text : List ℕ) → length run ≤ length text → FitsFront run text → behind_front run text ≡ Some (drop (length run) text)
front_from [] text long each = refl
front_from (p ∷ run) [] long each = absurd (omega arith)
front_from (p ∷ run) (b ∷ bs) long each =
    let first : fits p b ≡ true = each 0 (omega arith) in
    let rest = front_from run bs (omega arith) (λ j low. each (suc j) (omega arith)) in
    rw first rest

fits_both : (p b : ℕ) (run bs : List ℕ) → fits p b ≡ true → FitsFront run bs → FitsFront (p ∷ run) (b ∷ bs)
fits_both p b run bs first more zero low = first
fits_both p b run bs first more (suc j) low = more j (omega arith)

pub front_to : (run text left : List ℕ) → behind_front run text ≡ Some left → FitsFront run text
front_to [] text left e = λ j low. absurd (omega arith)
front_to (p ∷ run) [] left e = cc
front_to (p ∷ run) (b ∷ bs) left e = go (λ h. front_to run bs left h) (fits p b) refl e
  where
    go : (behind_front run bs ≡ Some left → FitsFront run bs) → (q : Bool) → fits p b ≡ q → cond q (behind_front run bs) None ≡ Some left → FitsFront (p ∷ run) (b ∷ bs)
    go more false is h = cc
    go more true is h = fits_both p b run bs is (more h)

-- a run doesn't fit in a text that is shorter
pub too_short : (run text : List ℕ) → length text < length run → behind_front run text ≡ None
too_short run text short = go (behind_front run text) refl
  where
    go : (o : Option (List ℕ)) → behind_front run text ≡ o → o ≡ None
    go None is = refl
    go (Some left) is = absurd (omega (arith, (behind_is run text left is).1))

-- what stands behind the places at which a run doesn't fit
pub skipped : (run text : List ℕ) (n : ℕ) → n ≤ length text → ((k : ℕ) → k < n → behind_front run (drop k text) ≡ None) → behind_first run (drop n text) ≡ behind_first run text
skipped run text zero inside none = refl
skipped run [] (suc n) inside none = absurd (omega arith)
skipped run (b ∷ bs) (suc n) inside none =
    skipped run bs n (omega arith) (λ k low. none (suc k) (omega arith)) ∙ sym (ap (λ o. or_behind o (behind_first run bs)) (none 0 (omega arith)))

-- a run fits at no place before the first at which it does
pub first_at : (run text left : List ℕ) (k : ℕ) → ((j : ℕ) → j < k → behind_front run (drop j text) ≡ None) → behind_front run (drop k text) ≡ Some left → behind_first run text ≡ Some left
first_at run [] left zero none here = here
first_at run [] left (suc k) none here = here
first_at run (b ∷ bs) left zero none here = ap (λ o. or_behind o (behind_first run bs)) here
first_at run (b ∷ bs) left (suc k) none here =
    ap (λ o. or_behind o (behind_first run bs)) (none 0 (omega arith)) ∙ first_at run bs left k (λ j low. none (suc j) (omega arith)) here

pub first_nowhere : (run text : List ℕ) → ((j : ℕ) → j ≤ length text → behind_front run (drop j text) ≡ None) → behind_first run text ≡ None
first_nowhere run [] none = none 0 (omega arith)
first_nowhere run (b ∷ bs) none =
    ap (λ o. or_behind o (behind_first run bs)) (none 0 (omega arith)) ∙ first_nowhere run bs (λ j low. none (suc j) (omega arith))

-- a run without ? fits where its bytes stand

no_question : (run : List ℕ) → list_any is_question_mark run ≡ false → (j : ℕ) → j < length run → is_question_mark (get_or run j 0) ≡ false
no_question [] none j low = absurd (omega arith)
no_question (p ∷ run) none j low = go (λ h. no_question run h) (is_question_mark p) refl none j low
  where
    go : (list_any is_question_mark run ≡ false → (j : ℕ) → j < length run → is_question_mark (get_or run j 0) ≡ false) → (q : Bool) → is_question_mark p ≡ q → (q || list_any is_question_mark run) ≡ false → (j : ℕ) → j < length (p ∷ run) → is_question_mark (get_or (p ∷ run) j 0) ≡ false
    go more true is h j low = cc
    go more false is h zero low = is
    go more false is h (suc j) low = more h j (omega arith)

pub fits_same : (p b : ℕ) → is_question_mark p ≡ false → fits p b ≡ true → b ≡ p
fits_same p b plain h = go (is_question_mark p) plain h
  where
    go : (q : Bool) → q ≡ false → (q || p == b) ≡ true → b ≡ p
    go true is e = cc
    go false is e = grind (arith, nat_tests)

same_fits : (p b : ℕ) → is_question_mark p ≡ false → b ≡ p → fits p b ≡ true
same_fits p b plain same = rw (plain, same) (same_number p)

module _ (run text : List ℕ) (plain : list_any is_question_mark run ≡ false) where
  occurs_front : (k : ℕ) → OccursAt text run k → behind_front run (drop k text) ≡ Some (drop (k + length run) text)
  occurs_front k occurs =
      let room = occurs.fits in
      let long : length run ≤ length (drop k text) = omega (arith, length-drop k text) in
      let each : FitsFront run (drop k text) = λ j low. same_fits _ _ (no_question run plain j low) (get_or-drop k text j 0 ∙ occurs.reads j low) in
      front_from run (drop k text) long each ∙ ap Some (drop-drop (length run) k text)

  front_occurs : (k : ℕ) (left : List ℕ) → k ≤ length text → behind_front run (drop k text) ≡ Some left → OccursAt text run k
  front_occurs k left inside here = record {
    fits = omega (arith, (behind_is run (drop k text) left here).1, length-drop k text);
    reads = λ j low. sym (get_or-drop k text j 0) ∙ fits_same _ _ (no_question run plain j low) (front_to run (drop k text) left here j low);
  }

  none_where : (k : ℕ) → k ≤ length text → ¬ OccursAt text run k → behind_front run (drop k text) ≡ None
  none_where k inside apart = go (behind_front run (drop k text)) refl
    where
      go : (o : Option (List ℕ)) → behind_front run (drop k text) ≡ o → o ≡ None
      go None is = refl
      go (Some left) is = absurd (apart (front_occurs k left inside is))

  -- what a search for the bytes of a run tells
  pub found_first : (r : Option ℕ) → FindsNeedle text run 0 r → behind_first run text ≡ option_map (λ k. drop (k + length run) text) r
  found_first None h = first_nowhere run text (λ j inside. none_where j inside (h j (omega arith) (omega arith)))
  found_first (Some k) h =
      let first = h.0 in
      let room = h.1.fits in
      first_at run text _ k (λ j low. none_where j (omega arith) (first.before j (omega arith) low)) (occurs_front k h.1)

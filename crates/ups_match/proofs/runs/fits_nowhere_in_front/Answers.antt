use Rattle.std.proofs.Common.{◌≡◌, ◌+◌, ◌∙◌, ap, sym, false, cond, drop, eqb, get_or, arith, subst, List, ℕ}
use Rattle.std.proofs.lemmas.Bool.Decides.{nat_tests}
use Rattle.ups_match.specs.Lanes.{HasLanes}
use Rattle.ups_match.specs.Likeness.{is_question_mark}
use Rattle.ups_match.proofs.LanePlaces.{Keeps, keeps_with, fits_nowhere_in_two}
use Rattle.ups_match.proofs.runs.fits_nowhere_in_front.Goals as goal
use Rattle.ups_match.proofs.runs.fits_nowhere_in_front.Goals.{then-run-i-ne63+else-i-eq0, else-run-i-ne63}

module _ (run text there : List ℕ) (i : ℕ) (is_there : there ≡ drop i text) where
  -- what the places keep that a text, from a place on, has a byte at
  kept : (old : List ℕ) → Keeps run text i old → (new : List ℕ) → is_question_mark (get_or run i 0) ≡ false
      → HasLanes new (λ k. cond (eqb (get_or there k 0) (get_or run i 0)) (get_or old k 0) 0) → Keeps run text (i + 1) new
  kept old keeps new plain lanes =
      keeps_with run text i old keeps new plain (subst (λ t. HasLanes new (λ k. cond (eqb (get_or t k 0) (get_or run i 0)) (get_or old k 0) 0)) is_there lanes)

pub returns-then-have_no_place-clause-nowhere : goal.returns-then-have_no_place-clause-nowhere
returns-then-have_no_place-clause-nowhere c _ =
    let run = c.args.run.now in
    let text = c.args.text.now in
    let i = c.loop-i.i in
    let inside = c.loop-i-test.true in
    let other = c.if-run-i-ne63.true in
    let plain : is_question_mark (get_or run i 0) ≡ false = grind (arith, nat_tests) in
    let near = kept run text c.behind.result.now i c.behind.ensures c.loop-i.near_places c.loop-i.invariant.0 c.places_with-near_places.result plain c.places_with-near_places.ensures in
    let far = kept run (drop 64 text) c.behind-then-run-i-ne63.result.now i (c.behind-then-run-i-ne63.ensures ∙ ap (drop i) c.split_at.ensures.back) c.loop-i.far_places c.loop-i.invariant.1 c.places_with-far_places.result plain c.places_with-far_places.ensures in
    fits_nowhere_in_two run text (i + 1) c.places_with-near_places.result c.places_with-far_places.result near far (omega arith)
    (c.have_no_place.ensures.near c.if-have_no_place.true) (c.have_no_place.ensures.far c.if-have_no_place.true)

pub returns-clause-nowhere : goal.returns-clause-nowhere
returns-clause-nowhere c none =
    fits_nowhere_in_two c.args.run.now c.args.text.now c.loop-i.i c.loop-i.near_places c.loop-i.far_places c.loop-i.invariant.0 c.loop-i.invariant.1 (omega arith)
    (c.have_no_place-2.ensures.near none) (c.have_no_place-2.ensures.far none)

-- each place at which one byte more fits is kept
kept_further : (run text old : List ℕ) (i : ℕ) → Keeps run text i old → Keeps run text (i + 1) old
kept_further run text old i keeps k low each = keeps k low (λ j below. each j (omega arith))

pub loop-i-preserved : goal.loop-i-preserved
loop-i-preserved c =
    let run = c.args.run.now in
    let text = c.args.text.now in
    let i = c.loop-i.i in
    let inside = c.loop-i-test.true in
    elim c.if-run-i-ne63.branch [
      | then-run-i-ne63+else-i-eq0 w ↦
          let other = w.if-run-i-ne63.true in
          let plain : is_question_mark (get_or run i 0) ≡ false = grind (arith, nat_tests) in
          let near = kept run text w.behind.result.now i w.behind.ensures c.loop-i.near_places c.loop-i.invariant.0 w.places_with-near_places.result plain w.places_with-near_places.ensures in
          let far = kept run (drop 64 text) w.behind-then-run-i-ne63.result.now i (w.behind-then-run-i-ne63.ensures ∙ ap (drop i) c.split_at.ensures.back) c.loop-i.far_places c.loop-i.invariant.1 w.places_with-far_places.result plain w.places_with-far_places.ensures in
          (subst (Keeps run text (i + 1)) (sym w.near_places-is) near, subst (Keeps run (drop 64 text) (i + 1)) (sym w.far_places-is) far)
      | else-run-i-ne63 w ↦ (
        subst (Keeps run text (i + 1)) (sym w.near_places-is) (kept_further run text c.loop-i.near_places i c.loop-i.invariant.0),
        subst (Keeps run (drop 64 text) (i + 1)) (sym w.far_places-is) (kept_further run (drop 64 text) c.loop-i.far_places i c.loop-i.invariant.1),
      )
    ]

use Rattle.std.proofs.Common.{◌↔◌, ◌∷◌, sym, subst}
use Rattle.std.proofs.lemmas.List.{nil_from_length}
use Rattle.ups_match.specs.Likeness.{IsLike}
use Rattle.ups_match.proofs.PatternRuns.{run_no_stars, next_run, end_run, LeftLike}
use Rattle.ups_match.proofs.likeness.likes_anywhere.Goals as goal

pub ends_with-requires : goal.ends_with-requires
ends_with-requires c = rw c.split_run.ensures.run (run_no_stars c.without_stars.result.now)

pub returns-in_default : goal.returns-in_default
returns-in_default c =
    let none = nil_from_length c.split_run.result.1.now c.in_default.ensures.cases in
    let runs = end_run c.without_stars.result.now c.split_run.result.0.now c.split_run.result.1.now c.loop-after.left.now c.split_run.ensures.run c.split_run.ensures.behind none in
    let stars = c.without_stars.ensures.same c.loop-after.left.now in
    (λ h. c.loop-after.invariant.0 (stars.1 (runs.0 (c.ends_with.ensures.0 h))), λ h. c.ends_with.ensures.1 (runs.1 (stars.0 (c.loop-after.invariant.1 h))))

pub returns-in_default-behind_first : goal.returns-in_default-behind_first
returns-in_default-behind_first c =
    let runs = next_run c.without_stars.result.now c.split_run.result.0.now c.split_run.result.1.now c.in-Some.after.now c.loop-after.left.now c.in-Some.field-0-0.now c.split_run.ensures.run c.split_run.ensures.behind c.in-Some.ensures.cases.0 in
    let left = subst (λ o. IsLike (42 ∷ c.without_stars.result.now) c.loop-after.left.now ↔ LeftLike (42 ∷ c.in-Some.after.now) o) (sym c.in_default-behind_first.ensures) runs in
    let stars = c.without_stars.ensures.same c.loop-after.left.now in
    (λ h. absurd (cc), λ h. absurd (left.0 (stars.0 (c.loop-after.invariant.1 h))))

pub loop-after-preserved : goal.loop-after-preserved
loop-after-preserved c =
    let runs = next_run c.without_stars.result.now c.split_run.result.0.now c.split_run.result.1.now c.in-Some.after.now c.loop-after.left.now c.in-Some.field-0-0.now c.split_run.ensures.run c.split_run.ensures.behind c.in-Some.ensures.cases.0 in
    let left = subst (λ o. IsLike (42 ∷ c.without_stars.result.now) c.loop-after.left.now ↔ LeftLike (42 ∷ c.in-Some.after.now) o) (sym c.in-Some-behind_first.ensures) runs in
    let stars = c.without_stars.ensures.same c.loop-after.left.now in
    (λ h. c.loop-after.invariant.0 (stars.1 (left.1 h)), λ h. left.0 (stars.0 (c.loop-after.invariant.1 h)))

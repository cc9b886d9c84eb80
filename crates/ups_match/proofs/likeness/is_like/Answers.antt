use Rattle.std.proofs.Common.{◌↔◌, ◌∷◌, [], sym, subst}
use Rattle.std.proofs.lemmas.List.{nil_from_length}
use Rattle.ups_match.specs.Likeness.{IsLike}
use Rattle.ups_match.proofs.PatternRuns.{first_run, whole_run, LeftLike, no_run, empty_left}
use Rattle.ups_match.proofs.likeness.is_like.Goals as goal

pub returns-in_default : goal.returns-in_default
returns-in_default c =
    (λ h. absurd (cc), λ h. absurd (no_run c.args.pattern.now c.split_run.result.0.now c.args.text.now c.split_run.ensures.run (sym c.in_default.ensures) h))

pub returns-in-Some-split_first : goal.returns-in-Some-split_first
returns-in-Some-split_first c =
    let runs = first_run c.args.pattern.now c.split_run.result.0.now c.split_run.result.1.now c.in-Some-split_first.after.now c.args.text.now c.in-Some-split_first.field-0-0.now c.split_run.ensures.run c.split_run.ensures.behind c.in-Some-split_first.ensures.cases.0 in
    let left = subst (λ o. IsLike c.args.pattern.now c.args.text.now ↔ LeftLike (42 ∷ c.in-Some-split_first.after.now) o) (sym c.in-Some.ensures) runs in
    (λ h. left.1 (c.likes_anywhere.ensures.0 h), λ h. c.likes_anywhere.ensures.1 (left.0 h))

pub returns-in-None : goal.returns-in-None
returns-in-None c =
    let none = nil_from_length c.split_run.result.1.now c.in-None.ensures.cases in
    let runs = whole_run c.args.pattern.now c.split_run.result.0.now c.split_run.result.1.now c.args.text.now c.split_run.ensures.run c.split_run.ensures.behind none in
    let left = subst (λ o. IsLike c.args.pattern.now c.args.text.now ↔ LeftLike [] o) (sym c.in-Some.ensures) runs in
    let empty = empty_left c.in-Some.left.now c.is_empty.result c.is_empty.ensures in
    (λ h. left.1 (empty.0 h), λ h. empty.1 (left.0 h))

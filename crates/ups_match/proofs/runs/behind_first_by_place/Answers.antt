use Rattle.std.proofs.Common.{◌≡◌, List, ℕ, [], ◌∷◌, ap, ◌∙◌, Some}
use Rattle.ups_match.specs.Runs.{behind_front, behind_first, or_behind}
use Rattle.ups_match.proofs.runs.behind_first_by_place.Goals as goal

fitting : (run text left : List ℕ) → Some left ≡ behind_front run text → Some left ≡ behind_first run text
fitting run [] left e = e
fitting run (b ∷ bs) left e = ap (λ o. or_behind o (behind_first run bs)) e

pub returns-in-Some : goal.returns-in-Some
returns-in-Some c = fitting c.args.run.now c.loop-found.left.now c.in-Some.found.now c.in-Some.ensures ∙ c.loop-found.invariant

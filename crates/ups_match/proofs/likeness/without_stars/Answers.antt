use Rattle.std.proofs.Common.{◌≡◌, ◌↔◌, ◌∷◌, ◌++◌, List, ℕ, take, replicate, sym, ap, subst, ◌∙◌, arith}
use Rattle.std.proofs.lemmas.List.{take-append-drop}
use Rattle.std.proofs.lemmas.Slice.Eq.{bytes_eq-Decides}
use Rattle.ups_match.specs.Likeness.{IsLike}
use Rattle.ups_match.proofs.PatternRuns.{stars_again}
use Rattle.ups_match.proofs.likeness.without_stars.Goals as goal

pub loop-behind-preserved : goal.loop-behind-preserved
loop-behind-preserved c =
    let old = c.loop-behind.invariant in
    let rest = c.loop-behind.rest.now in
    let behind = c.in-Some.behind.now in
    let cases = c.in-Some.ensures.cases in
    let front : take 64 rest ≡ replicate 64 42 = (bytes_eq-Decides (take 64 rest) (replicate 64 42)).0 cases.0 in
    let whole : replicate 64 42 ++ behind ≡ rest = ap (λ (x : List ℕ). x ++ behind) (sym front) ∙ ap (λ (x : List ℕ). take 64 rest ++ x) cases.1 ∙ take-append-drop 64 rest in (
      λ text.
          let more = subst (λ (ps : List ℕ). IsLike (42 ∷ behind) text ↔ IsLike (42 ∷ ps) text) whole (stars_again 64 behind text) in
          let before = old.0 text in
          (λ h. more.1 (before.0 h), λ h. before.1 (more.0 h)),
      omega (arith, old.1, cases.2),
    )

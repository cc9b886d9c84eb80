use Rattle.std.proofs.Common.{◌≡◌, sym, ap, ◌∙◌, arith, List, ℕ}
use Rattle.std.specs.Prelude.{is_some, option_copied, Option, Some, None}
use Rattle.std.specs.Borrow.{Bor}
use Rattle.ups_match.specs.Runs.{behind_front}
use Rattle.ups_match.proofs.PatternRuns.{last_like, last_like_back}
use Rattle.ups_match.proofs.likeness.ends_with.Goals as goal

pub returns-then-text-run : goal.returns-then-text-run
returns-then-text-run c =
    (λ h. absurd (cc), λ h. absurd (omega (arith, (last_like c.args.run.now c.args.text.now c.requires h).0)))

same_variant : (o : Option (Bor (List ℕ))) (p : Option (List ℕ)) → option_copied o ≡ p → is_some o ≡ is_some p
same_variant None p e = ap is_some e
same_variant (Some x) p e = ap is_some e

pub returns : goal.returns
returns c =
    let there = c.is_some.ensures ∙ same_variant _ _ (c.behind_front.ensures ∙ ap (behind_front c.args.run.now) c.split_at.ensures.back) in (
      λ h. last_like_back c.args.run.now c.args.text.now c.requires (omega arith) (sym there ∙ h),
      λ h. there ∙ (last_like c.args.run.now c.args.text.now c.requires h).1,
    )

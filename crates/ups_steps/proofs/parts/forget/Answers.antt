use Rattle.std.proofs.Common.{◌/◌, None, Some, true≢false, sym, ap, subst, ◌∙◌, arith}
use Rattle.std.proofs.lemmas.List.{set_past}
use Rattle.std.specs.Map.{lookup}
use Rattle.std.specs.Prelude.{is_some}
use Rattle.std.specs.Str.{bytes_eq}
use Rattle.ups_steps.specs.Parts.{PartsCover}
use Rattle.ups_steps.proofs.Covering.{covers_written, written_there}
use Rattle.ups_steps.proofs.parts.forget.Goals as goal

pub returns-then-k-len : goal.returns-then-k-len
returns-then-k-len g c =
    λ before place is right. covers_written (c.in-Some.index / 64) c.args.parts.now.items before c.args.places.now.entries c.args.step.now place c.in-Some.index is (sym c.in-Some.ensures.index) (omega arith) (omega arith) right

pub returns-else-k-len : goal.returns-else-k-len
returns-else-k-len g c =
    λ before place is right. subst (λ ps. PartsCover ps c.args.places.now.entries) (set_past c.args.parts.now.items (c.in-Some.index / 64) None (omega (arith, c.if-k-len.false, c.len.ensures)))
    (covers_written (c.in-Some.index / 64) c.args.parts.now.items before c.args.places.now.entries c.args.step.now place c.in-Some.index is (sym c.in-Some.ensures.index) (omega arith) (omega arith) right)

pub returns-in_default : goal.returns-in_default
returns-in_default g c =
    λ before place is right. absurd (true≢false (sym (c.in_default.ensures.found ∙ ap (λ l. is_some (lookup (bytes_eq c.args.step.now) l)) is ∙ ap is_some (written_there c.args.step.now place before))))

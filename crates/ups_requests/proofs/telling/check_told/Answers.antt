use Rattle.std.proofs.Common.{◌≡◌, ℤ, sym, subst, ◌∙◌, rules, w16}
use Rattle.std.proofs.lemmas.Int.{to_z-of_z}
use Rattle.ups_requests.specs.Told.{TellsEntry}
use Rattle.ups_requests.proofs.telling.check_told.Goals as goal

pub returns-then-is_same : goal.returns-then-is_same
returns-then-is_same g c =
    let same : c.in_ok-again.again ≡ c.args.stored.now = c.is_same.ensures (search rules) in (
      c.in_ok-entry.entry,
      sym c.in_ok-again.ensures.written ∙ same,
      subst (λ (z : ℤ). TellsEntry z c.args.line.now c.in_ok-entry.entry) (to_z-of_z w16 c.args.offset c.ranges.offset) c.in_ok-entry.ensures.tells,
    )

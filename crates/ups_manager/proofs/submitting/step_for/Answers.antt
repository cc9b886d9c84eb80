use Rattle.std.proofs.Common.{ℤ, w16, ◌≡◌, inl, inr, sym, ap, subst, ◌∙◌, Option}
use Rattle.std.specs.Option.{option_copied, option_or, unwrap_or}
use Rattle.std.proofs.lemmas.Int.{to_z-of_z}
use Rattle.std.proofs.lemmas.Result.{err_from_is_err_and}
use Rattle.ups_cycle.specs.Statuses.{is_done}
use Rattle.ups_life.specs.declared.row.Row.{Row}
use Rattle.ups_life.specs.Steps.{past, row_after, nothing}
use Rattle.ups_life.specs.Verdict.{verdict}
use Rattle.ups_life.specs.History.{repeats}
use Rattle.ups_tables.specs.HeldSteps.{claims_it}
use Rattle.ups_tables.specs.Held.{held_at}
use Rattle.ups_tables.specs.Keyed.{row_held, holder_held}
use Rattle.ups_manager.specs.declared.submitting.SubmitFault.TheVariants.{Refused}
use Rattle.ups_manager.specs.Faults.{RowFails}
use Rattle.ups_manager.proofs.submitting.step_for.Goals as goal

pub returns-in_err-check_allowed-clause-fault : goal.returns-in_err-check_allowed-clause-fault
returns-in_err-check_allowed-clause-fault g c =
    let p = err_from_is_err_and c.from_residual.result c.from_residual.ensures.1 in
    let r = c.args.call.now.request in
    let again = repeats (past c.args.history.now.entries) r in
    let row : option_copied c.row_of-row.result ≡ row_held (held_at c.args.step c.args.tables.now.steps.entries) = c.row_of-row.ensures ∙ ap row_held c.find-held.ensures in
    rw (p.1, p.2) (inl (
      c.in_err-check_allowed.ensures.refused ∙ ap (λ o. Refused (verdict o again r)) row,
      ap (λ o. is_done (verdict o again r)) (sym row) ∙ c.in_err-check_allowed.ensures.error,
    ))

pub returns-in_err-row-clause-fault : goal.returns-in_err-row-clause-fault
returns-in_err-row-clause-fault g c =
    let p = err_from_is_err_and c.from_residual-in_err-row.result c.from_residual-in_err-row.ensures.1 in
    let r = c.args.call.now.request in
    let again = repeats (past c.args.history.now.entries) r in
    let row : option_copied c.row_of-row.result ≡ row_held (held_at c.args.step c.args.tables.now.steps.entries) = c.row_of-row.ensures ∙ ap row_held c.find-held.ensures in
    rw (p.1, p.2) (inr (
      ap (λ o. verdict o again r) (sym row) ∙ c.in_ok-check_allowed.ensures.allowed,
      subst (λ (o : Option (Row g.row.A.Denot)). RowFails c.args.offset c.args.call.now.moment (unwrap_or o nothing) r c.in_err-row.field-0.0) row
          (subst (λ (z : ℤ). RowFails z c.args.call.now.moment (unwrap_or (option_copied c.row_of-row.result) nothing) r c.in_err-row.field-0.0) (to_z-of_z w16 c.args.offset c.ranges.offset) c.in_err-row.ensures.fault),
    ))

pub returns-in-Ok-clause-allowed : goal.returns-in-Ok-clause-allowed
returns-in-Ok-clause-allowed g c =
    let r = c.args.call.now.request in
    let row : option_copied c.row_of-row.result ≡ row_held (held_at c.args.step c.args.tables.now.steps.entries) = c.row_of-row.ensures ∙ ap row_held c.find-held.ensures in
    ap (λ o. verdict o (repeats (past c.args.history.now.entries) r) r) (sym row) ∙ c.in_ok-check_allowed.ensures.allowed

pub returns-in-Ok-clause-row : goal.returns-in-Ok-clause-row
returns-in-Ok-clause-row g c =
    let r = c.args.call.now.request in
    let row : option_copied c.row_of-row.result ≡ row_held (held_at c.args.step c.args.tables.now.steps.entries) = c.row_of-row.ensures ∙ ap row_held c.find-held.ensures in
    c.in-Ok.ensures ∙ c.in_ok-row.ensures.row ∙ ap (λ (z : ℤ). row_after z c.args.call.now.moment (unwrap_or (option_copied c.row_of-row.result) nothing) r) (to_z-of_z w16 c.args.offset c.ranges.offset)
    ∙ ap (λ (o : Option (Row g.row.A.Denot)). row_after c.args.offset c.args.call.now.moment (unwrap_or o nothing) r) row

pub returns-in-Ok-clause-holder : goal.returns-in-Ok-clause-holder
returns-in-Ok-clause-holder g c = c.holder_after-holder.ensures ∙ ap (λ o. option_or (claims_it c.args.call.now) (holder_held o)) c.find-held.ensures

pub returns-in-Err-clause-fault : goal.returns-in-Err-clause-fault
returns-in-Err-clause-fault g c =
    let r = c.args.call.now.request in
    let row : option_copied c.row_of-row.result ≡ row_held (held_at c.args.step c.args.tables.now.steps.entries) = c.row_of-row.ensures ∙ ap row_held c.find-held.ensures in
    inr (ap (λ o. verdict o (repeats (past c.args.history.now.entries) r) r) (sym row) ∙ c.in_ok-check_allowed.ensures.allowed, tt)

use Rattle.std.proofs.Common.{ℤ, w16, to_z, of_z, refl, sym, ap, subst, List, ◌∙◌, rules}
use Rattle.std.specs.List.{AllByRecursion}
use Rattle.std.specs.Option.{unwrap_or}
use Rattle.std.proofs.lemmas.Int.{to_z-of_z}
use Rattle.ups_cycle.specs.declared.status.Status.TheVariants.{UnknownInstance}
use Rattle.ups_cycle.specs.Statuses.{is_done}
use Rattle.ups_index.specs.Stored.{values_of_row}
use Rattle.ups_life.specs.declared.row.Row.{Row}
use Rattle.ups_life.specs.Settings.{IsOffset}
use Rattle.ups_life.specs.Steps.{past, row_after, nothing}
use Rattle.ups_life.specs.History.{repeats}
use Rattle.ups_tables.specs.declared.rows.HeldStep.{HeldStep}
use Rattle.ups_tables.specs.Held.{held_at}
use Rattle.ups_tables.specs.Keyed.{step_with_held, as_steps, row_held}
use Rattle.ups_tables.proofs.Keyed.{steps_kept}
use Rattle.ups_manager.specs.declared.submitting.SubmitFault.TheVariants.{Refused}
use Rattle.ups_manager.specs.Held.{IsSmallStep}
use Rattle.ups_manager.proofs.Entering.{accepted, step_succeeds, steps_after, small_kept, answers_fault, fails, no_step, step_not_done, lacks}
use Rattle.ups_manager.proofs.Reindexed.{step_indexed}
use Rattle.ups_manager.proofs.deciding.decide_step.Goals as goal

pub returns-in_default-of : goal.returns-in_default-of
returns-in_default-of g c =
    let s = c.args.configuration.now in
    let history = c.args.history.now.entries in
    let entries = c.args.tables.now.steps.entries in
    let call = c.args.call.now in
    let a = accepted s history entries call c.in-Some.step c.in-Ok.held (to_z w16 (of_z w16 c.offset-offset.result)) (to_z-of_z w16 c.offset-offset.result (search rules) ∙ c.offset-offset.ensures)
    (sym c.step.ensures ∙ c.in-Some.is) c.in-Ok.ensures.allowed c.in-Ok.ensures.row c.in-Ok.ensures.holder c.in-Ok.ensures.fits in
    record {
      answer = lacks s history call _ (step_succeeds s history (as_steps entries) call (step_with_held c.in-Some.step c.in-Ok.held) c.requires.kind (steps_kept s history c.args.tables.now c.requires.stands.tables) a) refl;
      nothing = refl;
      small = tt;
    }

pub returns-in_default : goal.returns-in_default
returns-in_default g c =
    let s = c.args.configuration.now in
    let call = c.args.call.now in
    let hs = as_steps c.args.tables.now.steps.entries in
    record {
      answer = answers_fault s c.args.history.now.entries hs call s.offset (Refused UnknownInstance) c.requires.kind (steps_kept s c.args.history.now.entries c.args.tables.now c.requires.stands.tables)
          (no_step s.offset call.moment hs (repeats (past c.args.history.now.entries) call.request) call.request c.requires.kind (sym c.step.ensures ∙ c.in_default.is));
      nothing = refl;
      small = tt;
    }

pub step_for-requires-clause-offset : goal.step_for-requires-clause-offset
step_for-requires-clause-offset g c = subst IsOffset (sym (to_z-of_z w16 c.offset-offset.result (search rules) ∙ c.offset-offset.ensures)) c.requires.stands.offset

pub step_for-requires-clause-used : goal.step_for-requires-clause-used
step_for-requires-clause-used g c = c.requires.stands.tables.lives.used

pub plan_step-requires-clause-step : goal.plan_step-requires-clause-step
plan_step-requires-clause-step g c = sym c.step.ensures ∙ c.in-Some.is

pub plan_step-requires-clause-row : goal.plan_step-requires-clause-row
plan_step-requires-clause-row g c =
    c.in-Ok.ensures.row
    ∙ ap (λ (z : ℤ). row_after z c.args.call.now.moment (unwrap_or (row_held (held_at c.in-Some.step c.args.tables.now.steps.entries)) nothing) c.args.call.now.request) (to_z-of_z w16 c.offset-offset.result (search rules) ∙ c.offset-offset.ensures)

pub returns-in-Err : goal.returns-in-Err
returns-in-Err g c =
    let s = c.args.configuration.now in
    let call = c.args.call.now in
    let entries = c.args.tables.now.steps.entries in
    record {
      answer = rw (c.status.ensures) (answers_fault s c.args.history.now.entries (as_steps entries) call _ c.in-Err.fault c.requires.kind (steps_kept s c.args.history.now.entries c.args.tables.now c.requires.stands.tables)
          (fails _ call.moment entries c.in-Some.step (repeats (past c.args.history.now.entries) call.request) call.request c.in-Err.fault (sym c.step.ensures ∙ c.in-Some.is) c.in-Err.ensures.fault));
      nothing = ap is_done c.status.ensures ∙ step_not_done _ _ _ _ call.request c.in-Err.fault c.in-Err.ensures.fault;
      small = tt;
    }

pub returns-in-Ok-plan_step : goal.returns-in-Ok-plan_step
returns-in-Ok-plan_step g c =
    let s = c.args.configuration.now in
    let history = c.args.history.now.entries in
    let entries = c.args.tables.now.steps.entries in
    let call = c.args.call.now in
    let x = step_with_held c.in-Some.step c.in-Ok.held in
    let kept = steps_kept s history c.args.tables.now c.requires.stands.tables in
    let a = accepted s history entries call c.in-Some.step c.in-Ok.held (to_z w16 (of_z w16 c.offset-offset.result)) (to_z-of_z w16 c.offset-offset.result (search rules) ∙ c.offset-offset.ensures)
    (sym c.step.ensures ∙ c.in-Some.is) c.in-Ok.ensures.allowed c.in-Ok.ensures.row c.in-Ok.ensures.holder c.in-Ok.ensures.fits in
    record {
      reply = step_succeeds s history (as_steps entries) call x c.requires.kind kept a;
      accepted = refl;
      plan = c.in-Ok-plan_step.ensures;
      small = subst (λ (l : List (HeldStep g.row.A.Denot)). AllByRecursion IsSmallStep l) (steps_after s history (as_steps entries) call x c.requires.stands.tables.legal kept a)
          (small_kept s history (as_steps entries) call x (subst (λ (l : List (HeldStep g.row.A.Denot)). AllByRecursion IsSmallStep l) (sym kept) c.requires.stands.small) a);
      index = step_indexed s history call x c.in-Ok-of.values _ (as_steps entries) c.requires.stands.tables.legal (to_z-of_z w16 c.offset-offset.result (search rules) ∙ c.offset-offset.ensures) (c.in-Ok-of.ensures ∙ ap (λ (r : Row g.row.A.Denot). values_of_row (to_z w16 (of_z w16 c.offset-offset.result)) r.attributes) c.get.ensures) kept
          (steps_after s history (as_steps entries) call x c.requires.stands.tables.legal kept a);
    }

pub returns-in-Err-plan_step : goal.returns-in-Err-plan_step
returns-in-Err-plan_step g c =
    let s = c.args.configuration.now in
    let history = c.args.history.now.entries in
    let entries = c.args.tables.now.steps.entries in
    let call = c.args.call.now in
    let a = accepted s history entries call c.in-Some.step c.in-Ok.held (to_z w16 (of_z w16 c.offset-offset.result)) (to_z-of_z w16 c.offset-offset.result (search rules) ∙ c.offset-offset.ensures)
    (sym c.step.ensures ∙ c.in-Some.is) c.in-Ok.ensures.allowed c.in-Ok.ensures.row c.in-Ok.ensures.holder c.in-Ok.ensures.fits in
    record {
      answer = lacks s history call _ (step_succeeds s history (as_steps entries) call (step_with_held c.in-Some.step c.in-Ok.held) c.requires.kind (steps_kept s history c.args.tables.now c.requires.stands.tables) a) refl;
      nothing = refl;
      small = tt;
    }

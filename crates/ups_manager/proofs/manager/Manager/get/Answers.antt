use Rattle.std.proofs.Common.{List, subst, sym, ap, ◌∙◌, inr, refl}
use Rattle.std.specs.Option.{option_to_list}
use Rattle.ups_cycle.specs.declared.status.Status.TheVariants.{ResourceLimitation}
use Rattle.ups_life.specs.declared.request.Reply.{Reply}
use Rattle.ups_life.specs.Steps.{past}
use Rattle.ups_dataset.specs.Data.{El}
use Rattle.ups_tables.specs.HeldSteps.{row_of_step}
use Rattle.ups_tables.specs.Keyed.{as_steps}
use Rattle.ups_service.specs.Law.{OrLacking, SmallReply, is_granted}
use Rattle.ups_service.specs.Looking.{shown_first}
use Rattle.ups_tables.proofs.Keyed.{steps_kept}
use Rattle.ups_manager.proofs.Finding.{shown_is_got, shown_is_small, got_granted}
use Rattle.ups_manager.proofs.manager.Manager.get.Goals as goal

pub returns-in-Ok-clause-answer : goal.returns-in-Ok-clause-answer
returns-in-Ok-clause-answer g c =
    let m = c.self.inside in
    rw (← c.self.view_is) (subst (λ (due : Reply g.row.A.Denot). OrLacking ResourceLimitation due c.shown_first.result)
    (ap (λ rows. shown_first rows c.args.attributes.now) c.in-Ok.ensures.row ∙ shown_is_got m.configuration (past m.history.entries) c.args.step c.args.attributes.now _ (steps_kept m.configuration m.history.entries m.tables c.self.invariant.0.tables))
    c.shown_first.ensures.answer)

pub returns-in-Ok-clause-small : goal.returns-in-Ok-clause-small
returns-in-Ok-clause-small g c =
    let m = c.self.inside in
    c.shown_first.ensures.small (subst (λ (rows : List (List El)). SmallReply {A = g.row.A.Denot} (shown_first rows c.args.attributes.now)) (sym c.in-Ok.ensures.row)
    (shown_is_small c.args.step c.args.attributes.now _ _ c.self.invariant.0.small (steps_kept m.configuration m.history.entries m.tables c.self.invariant.0.tables)))

pub returns-in-Err-clause-answer : goal.returns-in-Err-clause-answer
returns-in-Err-clause-answer g c =
    let m = c.self.inside in
    rw (← c.self.view_is) (inr (
      ap (λ (r : Reply g.row.A.Denot). is_granted r) (sym (shown_is_got m.configuration (past m.history.entries) c.args.step c.args.attributes.now (as_steps m.tables.steps.entries) (steps_kept m.configuration m.history.entries m.tables c.self.invariant.0.tables)))
          ∙ got_granted (row_of_step c.args.step (as_steps m.tables.steps.entries)) c.args.attributes.now c.in-Err.ensures.lacks,
      refl,
    ))

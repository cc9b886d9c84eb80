use Rattle.std.proofs.Common.{◌≡◌, refl, ap, ◌∙◌, ◌∷◌, [], get_or, None}
use Rattle.std.specs.Option.{option_copied, unwrap_or}
use Rattle.ups_life.specs.declared.event.Report.{Report}
use Rattle.ups_life.specs.Steps.{past, nothing}
use Rattle.ups_tables.specs.Fit.{how}
use Rattle.ups_tables.specs.Held.{held_at}
use Rattle.ups_tables.specs.Keyed.{row_held}
use Rattle.ups_tables.specs.Live.{report_now}
use Rattle.ups_tables.proofs.Planned.{Fresh, told_after, gained_after, created_news, plans_create, plans_change, plans_set, set_found}
use Rattle.ups_tables.proofs.step_plans.plan_step.Goals as goal

pub returns-in-Create : goal.returns-in-Create
returns-in-Create g c =
    let f : Fresh c.args.configuration.now (past c.args.history.now.entries) c.args.entry.now c.args.tables.now c.args.step c.args.held = record { named = c.requires.step; allowed = c.requires.allowed; row = c.requires.row; holder = c.requires.holder } in
    let before = unwrap_or (row_held (held_at c.args.step c.args.tables.now.steps.entries)) nothing in
    let told : c.in_ok-created.created.items ≡ report_now c.args.step c.args.held.row ∷ [] = c.in_ok-created.ensures ∙ ap (λ (r : Report). r ∷ []) c.report_held.ensures in
    plans_create c.args.configuration.now c.args.history.now.entries c.args.entry.now c.args.tables.now c.args.step c.args.held c.requires.stands f _ c.in_ok-created.created.items _ _
    refl (told ∙ created_news c.args.step before c.args.held.row c.args.entry.now.request _ _ c.in-Create.is) c.in-Create.is

pub returns-in_default-request : goal.returns-in_default-request
returns-in_default-request g c =
    let f : Fresh c.args.configuration.now (past c.args.history.now.entries) c.args.entry.now c.args.tables.now c.args.step c.args.held = record { named = c.requires.step; allowed = c.requires.allowed; row = c.requires.row; holder = c.requires.holder } in
    plans_change c.args.configuration.now c.args.history.now.entries c.args.entry.now c.args.tables.now c.args.step c.args.held c.requires.stands f _ c.in_ok-told.told.items
    (c.row_of-before.ensures ∙ ap row_held c.get-found.ensures) (told_after c.args.step (option_copied c.row_of-before.result) c.get.result.now c.args.held.row c.args.entry.now.request _ c.in_ok-told.ensures c.get.ensures) c.in_default.not-Create c.in_default-request.not-Set

pub returns-in_ok-first-in-Set : goal.returns-in_ok-first-in-Set
returns-in_ok-first-in-Set g c =
    let f : Fresh c.args.configuration.now (past c.args.history.now.entries) c.args.entry.now c.args.tables.now c.args.step c.args.held = record { named = c.requires.step; allowed = c.requires.allowed; row = c.requires.row; holder = c.requires.holder } in
    plans_set c.args.configuration.now c.args.history.now.entries c.args.entry.now c.args.tables.now c.args.step c.args.held c.requires.stands f _ c.in_ok-told.told.items _ _ _ c.in_ok-newly-in-Set.newly.items c.in_ok-first-in-Set.first.items
    (c.row_of-before.ensures ∙ ap row_held c.get-found.ensures) (told_after c.args.step (option_copied c.row_of-before.result) c.get.result.now c.args.held.row c.args.entry.now.request _ c.in_ok-told.ensures c.get.ensures) c.in-Set.is
    c.in_ok-newly-in-Set.ensures.width (λ p. c.in_ok-newly-in-Set.ensures.newly p ∙ gained_after (get_or c.args.tables.now.watchers.covers p None) (how c.args.tables.now p c.args.step) (unwrap_or (option_copied c.row_of-before.result) nothing).attributes c.get-in-Set.result.now c.args.held.row c.get-in-Set.ensures) (c.in_ok-first-in-Set.ensures ∙ ap (λ (r : Report). r ∷ []) c.report_held-in-Set.ensures)

pub newly_of-requires : goal.newly_of-requires
newly_of-requires g c =
    let f : Fresh c.args.configuration.now (past c.args.history.now.entries) c.args.entry.now c.args.tables.now c.args.step c.args.held = record { named = c.requires.step; allowed = c.requires.allowed; row = c.requires.row; holder = c.requires.holder } in
    set_found c.args.configuration.now c.args.history.now.entries c.args.entry.now c.args.tables.now c.args.step c.args.held c.requires.stands f _ _ _ _ (c.row_of-before.ensures ∙ ap row_held c.get-found.ensures) c.in-Set.is

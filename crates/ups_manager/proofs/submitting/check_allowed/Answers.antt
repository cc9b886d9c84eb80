use Rattle.std.proofs.Common.{◌≡◌, Bool, sym, ap, ◌∙◌}
use Rattle.std.specs.Option.{option_copied}
use Rattle.ups_cycle.specs.Statuses.{is_done}
use Rattle.ups_life.specs.Steps.{past}
use Rattle.ups_life.specs.Verdict.{verdict}
use Rattle.ups_life.specs.History.{repeats}
use Rattle.ups_life.proofs.Verdicts.{done_is_success, verdict_grants_all}
use Rattle.ups_tables.specs.Fit.{uses}
use Rattle.ups_manager.specs.declared.submitting.SubmitFault.TheVariants.{Refused}
use Rattle.ups_manager.proofs.Entering.{repeats_is}
use Rattle.ups_manager.proofs.submitting.check_allowed.Goals as goal

pub returns-then-is_done-clause-allowed : goal.returns-then-is_done-clause-allowed
returns-then-is_done-clause-allowed g c =
    let row = option_copied c.args.row in
    let r = c.args.request.now in
    let again = repeats (past c.args.history.now.entries) r in
    let is : c.verdict-status.result ≡ verdict row again r = c.verdict-status.ensures ∙ ap (λ (b : Bool). verdict row b r) (c.repeats.ensures ∙ repeats_is (λ u. uses c.args.tables.now u) (past c.args.history.now.entries) r c.requires) in
    done_is_success (verdict row again r) (verdict_grants_all row again r) (sym (ap is_done is) ∙ sym c.is_done.ensures ∙ c.if-is_done.true)

pub returns-else-is_done-clause-refused : goal.returns-else-is_done-clause-refused
returns-else-is_done-clause-refused g c =
    let row = option_copied c.args.row in
    let r = c.args.request.now in
    ap Refused (c.verdict-status.ensures ∙ ap (λ (b : Bool). verdict row b r) (c.repeats.ensures ∙ repeats_is (λ u. uses c.args.tables.now u) (past c.args.history.now.entries) r c.requires))

pub returns-else-is_done-clause-error : goal.returns-else-is_done-clause-error
returns-else-is_done-clause-error g c =
    let row = option_copied c.args.row in
    let r = c.args.request.now in
    let is : c.verdict-status.result ≡ verdict row (repeats (past c.args.history.now.entries) r) r = c.verdict-status.ensures ∙ ap (λ (b : Bool). verdict row b r) (c.repeats.ensures ∙ repeats_is (λ u. uses c.args.tables.now u) (past c.args.history.now.entries) r c.requires) in
    sym (ap is_done is) ∙ sym c.is_done.ensures ∙ c.if-is_done.false

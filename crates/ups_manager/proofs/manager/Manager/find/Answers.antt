use Rattle.std.proofs.Common.{◌≡◌, List, length, subst}
use Rattle.ups_dataset.specs.Data.{El}
use Rattle.ups_life.specs.declared.request.Reply.TheVariants.{Sets as Found}
use Rattle.ups_life.specs.Steps.{past}
use Rattle.ups_cycle.specs.declared.status.Status.TheVariants.{OutOfResources}
use Rattle.ups_service.specs.Asked.{IsAsked}
use Rattle.ups_service.specs.Law.{OrLacking}
use Rattle.ups_rows.specs.Answering.{answers_among}
use Rattle.ups_manager.proofs.Classes.{answered_worklist}
use Rattle.ups_manager.proofs.manager.Manager.find.Goals as goal

pub returns-in-Ok-clause-answer : goal.returns-in-Ok-clause-answer
returns-in-Ok-clause-answer g c =
    subst (λ (rows : List (List El)). OrLacking OutOfResources (Found (answers_among (g.M.Matcher.says c.args.keys.now) c.args.keys.now.attributes rows)) c.found_among.result) c.in-Ok.ensures.rows c.found_among.ensures.answer

pub returns-in-Ok-clause-whole : goal.returns-in-Ok-clause-whole
returns-in-Ok-clause-whole g c =
    λ same. subst (λ (sets : List (List El)). OrLacking OutOfResources (Found sets) c.found_among.result) (answered_worklist (g.M.Matcher.says c.args.keys.now) c.args.self.now.settings (past c.args.self.now.history) c.args.keys.now same)
    (subst (λ (rows : List (List El)). OrLacking OutOfResources (Found (answers_among (g.M.Matcher.says c.args.keys.now) c.args.keys.now.attributes rows)) c.found_among.result) c.in-Ok.ensures.rows c.found_among.ensures.answer)

pub returns-in-Ok-clause-asked : goal.returns-in-Ok-clause-asked
returns-in-Ok-clause-asked g c =
    subst (λ (rows : List (List El)). IsAsked (g.M.Matcher.asked c.args.matcher.now) (length rows) (g.M.Matcher.asked c.found_among.new.matcher) c.found_among.result) c.in-Ok.ensures.rows c.found_among.ensures.asked

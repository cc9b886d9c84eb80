use Rattle.std.proofs.Common.{List, ap, inr, subst, sym}
use Rattle.ups_dataset.specs.Data.{El}
use Rattle.ups_life.specs.declared.request.Reply.TheVariants.{Status as Answered}
use Rattle.ups_service.specs.Law.{OrLacking, SmallReply, lacking}
use Rattle.ups_service.specs.Looking.{reply_from}
use Rattle.ups_turn.proofs.Looked.{looked}
use Rattle.ups_turn.proofs.desk.Desk.look.Goals as goal

pub returns-in-Ok-clause-served : goal.returns-in-Ok-clause-served
returns-in-Ok-clause-served g c =
    looked _ _ c.args.ask.now _ c.requires.look c.rows_of_look.ensures.pass
    (subst (λ (rows : List (List El)). OrLacking (lacking c.args.ask.now) (reply_from rows c.args.ask.now) c.complete.result) c.in-Ok.ensures.rows c.complete.ensures.answer)

pub returns-in-Ok-clause-small : goal.returns-in-Ok-clause-small
returns-in-Ok-clause-small g c = c.complete.ensures.small (subst (λ (rows : List (List El)). SmallReply {A = g.row.A.Denot} (reply_from rows c.args.ask.now)) (sym c.in-Ok.ensures.rows) c.rows_of_look.ensures.small)

pub returns-in-Err-clause-served : goal.returns-in-Err-clause-served
returns-in-Err-clause-served g c = looked _ _ c.args.ask.now _ c.requires.look c.rows_of_look.ensures.pass (inr (c.in-Err.ensures.lacks, ap Answered c.lacking.ensures))

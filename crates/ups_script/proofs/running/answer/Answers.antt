use Rattle.std.proofs.Common.{refl, subst, rules}
use Rattle.std.specs.Io.KnownBytes.{Appends}
use Rattle.ups_script.specs.Printing.{bad_text}
use Rattle.ups_requests.specs.Questions.{IsBad, OnBad}
use Rattle.ups_script.proofs.Answering.{told_line, left_line}
use Rattle.ups_script.proofs.running.answer.Goals as goal

pub returns-in-Ok-clause-told : goal.returns-in-Ok-clause-told
returns-in-Ok-clause-told g c =
    told_line c.args.manager.now.settings c.args.manager.now.history c.put_answer.new.manager.history c.args.line.items c.in-Ok.asked (g.W.Write.contents c.args.writer.now) (g.W.Write.contents c.put_answer.new.writer)
    c.put_answer.result c.in-Ok.ensures.asks c.put_answer.ensures.told

pub returns-in-Ok-clause-fault : goal.returns-in-Ok-clause-fault
returns-in-Ok-clause-fault g c =
    left_line c.args.manager.now.settings c.args.manager.now.history c.put_answer.new.manager.history c.args.line.items c.args.number c.in-Ok.asked (g.W.Write.contents c.args.writer.now) (g.W.Write.contents c.put_answer.new.writer)
    c.put_answer.result c.in-Ok.ensures.asks c.put_answer.ensures.fault

pub returns-else-is_err-clause-fault : goal.returns-else-is_err-clause-fault
returns-else-is_err-clause-fault g c =
    let told : Appends (g.W.Write.contents c.args.writer.now) (g.W.Write.contents c.put_bad_line.new.writer) (bad_text c.args.number) = search rules in
    let bad : IsBad c.args.line.items c.in-Err-Malformed.reason = subst (λ fault. OnBad fault (IsBad c.args.line.items)) c.in-Err-Malformed.field-0-is c.in-Err-Malformed.ensures.bad in
    (refl, rw c.in-Err-Malformed.field-0-is bad, told, refl)

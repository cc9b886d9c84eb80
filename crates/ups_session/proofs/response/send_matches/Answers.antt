use Rattle.std.proofs.Common.{◌∙◌, rules, List, subst}
use Rattle.std.specs.List.{flat_map}
use Rattle.std.proofs.lemmas.List.{take_all}
use Rattle.std.proofs.lemmas.Result.{err_from_is_err_and}
use Rattle.ups_pdu.specs.declared.pdu.Pdu.{Pdu}
use Rattle.ups_dataset.specs.Data.{El}
use Rattle.ups_cycle.specs.declared.status.Status.TheVariants.{Pending}
use Rattle.ups_session.specs.Responses.{set_response}
use Rattle.ups_session.specs.Session.{okay, failing}
use Rattle.ups_session.specs.Visits.{SendsPdus}
use Rattle.ups_session.proofs.Parts.{set-response}
use Rattle.ups_session.proofs.Spoken.{says_nothing, says_lost, each_step, each_stop}
use Rattle.ups_session.proofs.response.send_matches.Goals as goal

pub loop-set-init : goal.loop-set-init
loop-set-init g c = says_nothing _ _

pub returns-in_err-command : goal.returns-in_err-command
returns-in_err-command g c =
    let p = err_from_is_err_and c.from_residual.result c.from_residual.ensures.1 in
    rw (p.1, p.2) (says_lost _ _ _)

pub returns-in_err-send_set : goal.returns-in_err-send_set
returns-in_err-send_set g c =
    let f = set_response c.args.max c.args.context.now c.args.request.now Pending in
    let one = set-response c.args.max c.args.context.now c.args.request.now Pending c.set-item.result c.deref.result.now (c.deref.ensures.value ∙ c.in_ok-command.ensures) in
    let p = err_from_is_err_and c.from_residual-in_err-send_set.result c.from_residual-in_err-send_set.ensures.1 in
    rw (p.1, p.2) (each_stop f c.args.sets.now c.loop-set.set-index c.set-item.result _ _ _ _ _ _ c.in_err-send_set.field-0.0 c.loop-set-test.true c.set-item.is c.loop-set.invariant
    (subst (λ (l : List (Pdu _)). SendsPdus l c.loop-set.writer c.send_set.new.writer (g.G.Gate.told c.loop-set.gate) (g.G.Gate.told c.send_set.new.gate) (failing c.in_err-send_set.field-0.0)) one c.in_err-send_set.ensures))

pub loop-set-preserved : goal.loop-set-preserved
loop-set-preserved g c =
    let f = set_response c.args.max c.args.context.now c.args.request.now Pending in
    let one = set-response c.args.max c.args.context.now c.args.request.now Pending c.set-item.result c.deref.result.now (c.deref.ensures.value ∙ c.in_ok-command.ensures) in
    each_step f c.args.sets.now c.loop-set.set-index c.set-item.result _ _ _ _ _ _ c.loop-set-test.true c.set-item.is c.loop-set.invariant
    (subst (λ (l : List (Pdu _)). SendsPdus l c.loop-set.writer c.send_set.new.writer (g.G.Gate.told c.loop-set.gate) (g.G.Gate.told c.send_set.new.gate) okay) one c.in_ok-send_set.ensures)

pub returns : goal.returns
returns g c =
    let f = set_response c.args.max c.args.context.now c.args.request.now Pending in
    subst (λ (l : List (List El)). SendsPdus {A = g.row.A.Denot} (flat_map f l) c.args.writer.now c.loop-set.writer (g.G.Gate.told c.args.gate.now) (g.G.Gate.told c.loop-set.gate) okay)
    (take_all c.loop-set.set-index c.args.sets.now (search rules)) c.loop-set.invariant

use Rattle.std.proofs.Common.{◌∙◌, List, subst}
use Rattle.std.specs.List.{flat_map}
use Rattle.std.proofs.lemmas.Result.{err_from_is_err_and}
use Rattle.ups_pdu.specs.declared.pdu.Pdu.{Pdu}
use Rattle.ups_dataset.specs.Data.{El}
use Rattle.ups_cycle.specs.declared.status.Status.TheVariants.{Success, Pending}
use Rattle.ups_session.specs.Responses.{bare_response, set_response}
use Rattle.ups_session.specs.Session.{okay, failing}
use Rattle.ups_session.specs.Visits.{SendsPdus}
use Rattle.ups_session.proofs.Parts.{set-response}
use Rattle.ups_session.proofs.Spoken.{says_lost, says_then, says_cut}
use Rattle.ups_session.proofs.response.send_reply.Goals as goal

pub returns-in_err-command-in-Set : goal.returns-in_err-command-in-Set
returns-in_err-command-in-Set g c =
    let p = err_from_is_err_and c.from_residual.result c.from_residual.ensures.1 in
    rw (p.1, p.2) (says_lost _ _ _)

pub returns-in_ok-command-in-Set : goal.returns-in_ok-command-in-Set
returns-in_ok-command-in-Set g c =
    let one = set-response c.args.max c.args.context.now c.args.request.now c.in-Set.status c.in-Set.set c.deref.result.now (c.deref.ensures.value ∙ c.in_ok-command-in-Set.ensures) in
    rw (c.in-Set.is)
    (subst (λ (l : List (Pdu g.row.A.Denot)). SendsPdus l c.args.writer.now c.send_small_set.new.writer (g.G.Gate.told c.args.gate.now) (g.G.Gate.told c.send_small_set.new.gate) c.send_small_set.result) one c.send_small_set.ensures)

pub returns-in_err-send_matches-in-Sets : goal.returns-in_err-send_matches-in-Sets
returns-in_err-send_matches-in-Sets g c =
    let f = set_response c.args.max c.args.context.now c.args.request.now Pending in
    let e = c.in_err-send_matches-in-Sets.field-0.0 in
    let p = err_from_is_err_and c.from_residual-in_err-send_matches-in-Sets.result c.from_residual-in_err-send_matches-in-Sets.ensures.1 in
    rw (p.1, p.2, c.in-Sets.is)
    (says_cut (flat_map f c.in-Sets.sets) (bare_response c.args.max c.args.context.now c.args.request.now Success) _ _ _ _ e
    (subst (λ (l : List (List El)). SendsPdus {A = g.row.A.Denot} (flat_map f l) c.args.writer.now c.send_matches.new.writer (g.G.Gate.told c.args.gate.now) (g.G.Gate.told c.send_matches.new.gate) (failing e)) c.as_slice.ensures c.in_err-send_matches-in-Sets.ensures))

pub returns-in_ok-send_matches-in-Sets : goal.returns-in_ok-send_matches-in-Sets
returns-in_ok-send_matches-in-Sets g c =
    let f = set_response c.args.max c.args.context.now c.args.request.now Pending in
    rw (c.in-Sets.is)
    (says_then (flat_map f c.in-Sets.sets) (bare_response c.args.max c.args.context.now c.args.request.now Success) _ _ _ _ _ _ tt _
    (subst (λ (l : List (List El)). SendsPdus {A = g.row.A.Denot} (flat_map f l) c.args.writer.now c.send_matches.new.writer (g.G.Gate.told c.args.gate.now) (g.G.Gate.told c.send_matches.new.gate) okay) c.as_slice.ensures c.in_ok-send_matches-in-Sets.ensures)
    c.send_status-in-Sets.ensures)

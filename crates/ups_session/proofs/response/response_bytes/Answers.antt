use Rattle.std.proofs.Common.{◌≡◌, ◌∙◌, ap, Some}
use Rattle.std.specs.Option.{unwrap_or}
use Rattle.ups_pdu.specs.declared.registered.RegisteredUid.TheVariants.{UpsPush}
use Rattle.ups_pdu.specs.Registered.{text_of}
use Rattle.ups_cycle.specs.Statuses.{code}
use Rattle.ups_session.specs.Responses.{response_command}
use Rattle.ups_session.proofs.Parts.{if_ok, own_class, written_answer}
use Rattle.ups_session.proofs.response.response_bytes.Goals as goal

pub returns : goal.returns
returns g c =
    let e = c.answered-response.ensures in
    let is : c.answered-response.result ≡ response_command c.args.request.now (code c.args.status) c.args.has_data_set =
    λ i. record {
      sop_class = (e.class ∙ ap (λ u. Some (unwrap_or c.args.request.now.sop_class u)) c.class_of-class.ensures ∙ ap (λ u. Some u) (own_class c.args.request.now.sop_class (text_of UpsPush))) i;
      responded_to = e.responded_to i;
      has_data_set = e.data_set i;
      status = (e.status ∙ c.code.ensures) i;
      result = e.operation i;
    } in
    if_ok c.write_command.result _ _ (λ v w. w ∙ written_answer c.args.request.now (code c.args.status) c.args.has_data_set c.answered-response.result is) c.write_command.ensures.written

-- Event reports as messages (PS3.4 CC.2.4, PS3.7 section 10.3.1).
use Rattle.std.specs.Prelude.{ℕ, true, List, Option, None, Some}
use Rattle.std.specs.Option.{option_map}
use Rattle.ups_pdu.specs.declared.pdu.Pdu.{Pdu}
use Rattle.ups_pdu.specs.declared.registered.RegisteredUid.TheVariants as registered
use Rattle.ups_pdu.specs.Registered.{text_of}
use Rattle.ups_dataset.specs.Written as sets
use Rattle.ups_dimse.specs.declared.command.Command.TheVariants.{Request}
use Rattle.ups_dimse.specs.declared.command.Operation.TheVariants as operations
use Rattle.ups_dimse.specs.declared.command.RequestCommand.{RequestCommand}
use Rattle.ups_dimse.specs.Written as commands
use Rattle.ups_assoc.specs.Cutting.{pieces}
use Rattle.ups_reports.specs.Payloads.{type_id}
use Rattle.ups_life.specs.declared.event.Event.{Event}
use Rattle.ups_life.specs.declared.event_reports.EventReport.{EventReport}
use Rattle.ups_session.specs.declared.delivery.Route.{Route}
use Rattle.ups_session.specs.Association.{EstablishedView}
use Rattle.ups_session.specs.Proposing.{proposed_id}
use Rattle.ups_session.specs.Sides.{context_at}

-- the proposed presentation context, if it was accepted, and the longest P-DATA-TF that the peer receives
abbrev pub route_of : {A : Type 0} → Option (EstablishedView A) → Option Route
route_of None = None
route_of (Some established) = option_map (λ context. record { context = context; max = established.parameters.max }) (context_at proposed_id established.parameters.contexts)

-- the command set of an event report: of the UPS Push SOP class, of which each step is an instance (PS3.4 CC.3.1)
abbrev pub report_command : {A : Type 0} → ℕ → Event → RequestCommand A
report_command message event = record {
  sop_class = Some (text_of registered.UpsPush);
  message_id = message;
  has_data_set = true;
  operation = operations.EventReport (Some event.step) (type_id event.kind);
}

-- the bytes of that command set
unfoldable pub report_bytes : Type 0 → ℕ → Event → List ℕ
report_bytes A message event = commands.written_command {A = A} (Request (report_command message event))

-- the PDUs of an event report with this message ID
unfoldable pub report_pdus : {A : Type 0} → Route → ℕ → EventReport A → List (Pdu A)
report_pdus {A} route message report =
    pieces route.context.id (report_bytes A message report.event) (Some (sets.written route.context.transfer_syntax report.information)) route.max

-- The PDUs that can be written.
use Rattle.std.specs.Prelude.{◌≡◌, ◌≢◌, ℕ, ◌<◌, ◌≤◌, ◌^◌, true, List, [], length, map}
use Rattle.std.specs.List.{AllByRecursion}
use Rattle.std.specs.Option.{option_to_list}
use Rattle.ups_pdu.specs.declared.associate.AsynchronousWindow.{AsynchronousWindow}
use Rattle.ups_pdu.specs.declared.associate.ContextAnswer.{ContextAnswer}
use Rattle.ups_pdu.specs.declared.associate.ContextAnswer.TheVariants.{Accepted, Refused}
use Rattle.ups_pdu.specs.declared.associate.ProposedContext.{ProposedContext}
use Rattle.ups_pdu.specs.declared.associate.UserInformation.{UserInformation}
use Rattle.ups_pdu.specs.declared.pdu.Pdu.{Pdu}
use Rattle.ups_pdu.specs.declared.pdu.Pdu.TheVariants.{AssociateRq, AssociateAc, Data}
use Rattle.ups_pdu.specs.Identifier.{IsUid}
use Rattle.ups_pdu.specs.Limits.{max_data_length, max_body_length}
use Rattle.ups_pdu.specs.Context.{are_context_ids}
use Rattle.ups_pdu.specs.Written.{proposed_content, user_content, written_body}

pub record FitsProposed {A : Type 0} (context : ProposedContext A) : Type 0 where
  pub abstract_syntax : IsUid context.abstract_syntax
  pub transfer_syntaxes : AllByRecursion IsUid context.transfer_syntaxes
  pub some : context.transfer_syntaxes ≢ []
  pub short : length (proposed_content context) < 2 ^ 16

abbrev pub FitsAnswer : ContextAnswer → Type 0
FitsAnswer (Accepted uid) = IsUid uid
FitsAnswer (Refused result) = result ≢ 0

abbrev pub FitsWindow : AsynchronousWindow → Type 0
FitsWindow window = (window.invoked < 2 ^ 16) × (window.performed < 2 ^ 16)

pub record FitsUser {A : Type 0} (info : UserInformation A) : Type 0 where
  pub maximum_length : info.maximum_length < 2 ^ 32
  pub implementation_class : AllByRecursion IsUid (option_to_list info.implementation_class)
  pub asynchronous_window : AllByRecursion FitsWindow (option_to_list info.asynchronous_window)
  pub roles : AllByRecursion (λ r. IsUid r.sop_class) info.roles
  pub implementation_version : AllByRecursion (λ v. length v < 2 ^ 16) (option_to_list info.implementation_version)
  pub short : length (user_content info) < 2 ^ 16

-- an association PDU that can be written: fields in their ranges, and at least one presentation context, with
-- different odd ids
pub record FitsAssociate {A X : Type 0} (FitsContext : X → Type 0) (version : ℕ) (called calling uid : List ℕ) (contexts : List X) (ids : List ℕ) (info : UserInformation A) : Type 0 where
  pub protocol_version : version < 2 ^ 16
  pub called_title : length called ≡ 16
  pub calling_title : length calling ≡ 16
  pub application_context : IsUid uid
  pub each_context : AllByRecursion FitsContext contexts
  pub some : contexts ≢ []
  pub odd_and_different : are_context_ids ids ≡ true
  pub user_information : FitsUser info

-- a PDU that can be written: its parts meet the demands of its type, and its body is within the limit
abbrev pub Fits : {A : Type 0} → Pdu A → Type 0
Fits (AssociateRq rq) =
    FitsAssociate FitsProposed rq.protocol_version rq.called rq.calling rq.application_context rq.contexts (map (λ c. c.id) rq.contexts) rq.user_information
    × (length (written_body (AssociateRq rq)) ≤ max_body_length)
Fits (AssociateAc ac) =
    FitsAssociate (λ c. FitsAnswer c.answer) ac.protocol_version ac.called ac.calling ac.application_context ac.contexts (map (λ c. c.id) ac.contexts) ac.user_information
    × (length (written_body (AssociateAc ac)) ≤ max_body_length)
Fits (Data pdvs) = (pdvs ≢ []) × (length (written_body (Data pdvs)) ≤ max_data_length)
Fits pdu = Unit {0}

-- as written, the contents of an association PDU fit their length fields, and its body the limit; no demand on other
-- PDUs
abbrev pub IsWithin : {A : Type 0} → Pdu A → Type 0
IsWithin (AssociateRq rq) =
    AllByRecursion (λ c. length (proposed_content c) < 2 ^ 16) rq.contexts
    × (length (user_content rq.user_information) < 2 ^ 16)
    × (length (written_body (AssociateRq rq)) ≤ max_body_length)
IsWithin (AssociateAc ac) = (length (user_content ac.user_information) < 2 ^ 16) × (length (written_body (AssociateAc ac)) ≤ max_body_length)
IsWithin pdu = Unit {0}

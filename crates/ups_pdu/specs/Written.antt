-- The encoding in which a PDU is written: reserved bytes are 0, and UIDs have no padding.
use Rattle.std.specs.Prelude.{ℕ, ◌+◌, List, [], ◌∷◌, ◌++◌, length, replicate, if◌then◌else◌}
use Rattle.std.specs.List.{flat_map}
use Rattle.std.specs.Option.{option_to_list}
use Rattle.std.specs.Int.{w16, w32, to_be_bytes}
use Rattle.ups_pdu.specs.declared.associate.AsynchronousWindow.{AsynchronousWindow}
use Rattle.ups_pdu.specs.declared.associate.Role.{Role}
use Rattle.ups_pdu.specs.declared.associate.ContextAnswer.{ContextAnswer}
use Rattle.ups_pdu.specs.declared.associate.ContextAnswer.TheVariants.{Accepted, Refused}
use Rattle.ups_pdu.specs.declared.associate.AnsweredContext.{AnsweredContext}
use Rattle.ups_pdu.specs.declared.associate.ProposedContext.{ProposedContext}
use Rattle.ups_pdu.specs.declared.associate.UserInformation.{UserInformation}
use Rattle.ups_pdu.specs.declared.pdv.Pdv.{Pdv}
use Rattle.ups_pdu.specs.declared.pdu.Pdu.{Pdu}
use Rattle.ups_pdu.specs.declared.pdu.Pdu.TheVariants.{AssociateRq, AssociateAc, AssociateRj, Data, ReleaseRq, ReleaseRp, Abort}
use Rattle.ups_pdu.specs.declared.kind.PduKind.{PduKind}
use Rattle.ups_pdu.specs.declared.kind.PduKind.TheVariants as kinds
use Rattle.ups_pdu.specs.declared.registered.RegisteredUid.TheVariants.{ImplicitVrLittleEndian}
use Rattle.ups_pdu.specs.Registered.{text_of}
use Rattle.ups_pdu.specs.Header.{type_code}

abbrev pub pdu_kind : {A : Type 0} → Pdu A → PduKind
pdu_kind (AssociateRq rq) = kinds.AssociateRq
pdu_kind (AssociateAc ac) = kinds.AssociateAc
pdu_kind (AssociateRj result source reason) = kinds.AssociateRj
pdu_kind (Data pdvs) = kinds.Data
pdu_kind ReleaseRq = kinds.ReleaseRq
pdu_kind ReleaseRp = kinds.ReleaseRp
pdu_kind (Abort source reason) = kinds.Abort

-- the message control header: bit 0 for a command, bit 1 for the last fragment (PS3.8 annex E.2)
abbrev pub control_of : {A : Type 0} → Pdv A → ℕ
control_of pdv = (if pdv.command then 1 else 0) + (if pdv.last then 2 else 0)

abbrev pub pdv_content : {A : Type 0} → Pdv A → List ℕ
pdv_content pdv = pdv.context ∷ control_of pdv ∷ pdv.bytes

abbrev pub written_pdv : {A : Type 0} → Pdv A → List ℕ
written_pdv pdv = to_be_bytes w32 (length (pdv_content pdv)) ++ pdv_content pdv

-- an item of type `kind` with this content (PS3.8 section 9.3.2)
unfoldable pub written_item : ℕ → List ℕ → List ℕ
written_item kind content = kind ∷ 0 ∷ to_be_bytes w16 (length content) ++ content

-- the content of a proposed presentation context: its abstract syntax, then its transfer syntaxes
unfoldable pub proposed_content : {A : Type 0} → ProposedContext A → List ℕ
proposed_content c = c.id ∷ 0 ∷ 0 ∷ 0 ∷ written_item 0x30 c.abstract_syntax ++ flat_map (written_item 0x40) c.transfer_syntaxes

abbrev pub context_result : ContextAnswer → ℕ
context_result (Accepted uid) = 0
context_result (Refused result) = result

-- a refused presentation context has a transfer syntax too, which is not significant (PS3.8 section 9.3.3.2)
abbrev pub syntax_of : ContextAnswer → List ℕ
syntax_of (Accepted uid) = uid
syntax_of (Refused result) = text_of ImplicitVrLittleEndian

unfoldable pub answered_content : AnsweredContext → List ℕ
answered_content c = c.id ∷ 0 ∷ context_result c.answer ∷ 0 ∷ written_item 0x40 (syntax_of c.answer)

unfoldable pub window_content : AsynchronousWindow → List ℕ
window_content w = to_be_bytes w16 w.invoked ++ to_be_bytes w16 w.performed

unfoldable pub role_content : Role → List ℕ
role_content r = to_be_bytes w16 (length r.sop_class) ++ (r.sop_class ++ r.scu ∷ r.scp ∷ [])

-- always the maximum length; then each of the other sub-items that is present
unfoldable pub user_content : {A : Type 0} → UserInformation A → List ℕ
user_content info =
    written_item 0x51 (to_be_bytes w32 info.maximum_length)
    ++ (flat_map (written_item 0x52) (option_to_list info.implementation_class)
    ++ (flat_map (λ w. written_item 0x53 (window_content w)) (option_to_list info.asynchronous_window)
    ++ (flat_map (λ r. written_item 0x54 (role_content r)) info.roles
    ++ flat_map (written_item 0x55) (option_to_list info.implementation_version))))

-- the fields before the items
unfoldable pub associate_head : ℕ → List ℕ → List ℕ → List ℕ
associate_head version called calling = to_be_bytes w16 version ++ ((0 ∷ 0 ∷ []) ++ (called ++ (calling ++ replicate 32 0)))

-- the application context, the presentation contexts and the user information
unfoldable pub associate_items : {A X : Type 0} → List ℕ → (X → List ℕ) → List X → UserInformation A → List ℕ
associate_items uid written_context contexts info = written_item 0x10 uid ++ (flat_map written_context contexts ++ written_item 0x50 (user_content info))

abbrev pub written_body : {A : Type 0} → Pdu A → List ℕ
written_body (AssociateRq rq) =
    associate_head rq.protocol_version rq.called rq.calling
    ++ associate_items rq.application_context (λ c. written_item 0x20 (proposed_content c)) rq.contexts rq.user_information
written_body (AssociateAc ac) =
    associate_head ac.protocol_version ac.called ac.calling
    ++ associate_items ac.application_context (λ c. written_item 0x21 (answered_content c)) ac.contexts ac.user_information
written_body (AssociateRj result source reason) = 0 ∷ result ∷ source ∷ reason ∷ []
written_body (Data pdvs) = flat_map written_pdv pdvs
written_body ReleaseRq = 0 ∷ 0 ∷ 0 ∷ 0 ∷ []
written_body ReleaseRp = 0 ∷ 0 ∷ 0 ∷ 0 ∷ []
written_body (Abort source reason) = 0 ∷ 0 ∷ source ∷ reason ∷ []

abbrev pub written_pdu : {A : Type 0} → Pdu A → List ℕ
written_pdu pdu = type_code (pdu_kind pdu) ∷ 0 ∷ to_be_bytes w32 (length (written_body pdu)) ++ written_body pdu

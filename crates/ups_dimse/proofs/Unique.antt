-- Bytes spell one command at most.
use Rattle.std.proofs.Common.{◌≡◌, ℕ, eqb, not, Bool, Option, None, Some, List, refl, sym, ap, subst, ◌∙◌, cond, arith}
use Rattle.std.specs.Int.{w16, to_le_bytes}
use Rattle.std.proofs.lemmas.Option.{same_Some, none-some}
use Rattle.ups_pdu.specs.Padding.{without_padding}
use Rattle.ups_pdu.proofs.Parts.{same_le_2}
use Rattle.ups_dimse.specs.declared.command.Command.{Command}
use Rattle.ups_dimse.specs.declared.command.Command.TheVariants.{Request, Response, Cancel}
use Rattle.ups_dimse.specs.declared.command.RequestCommand.{RequestCommand}
use Rattle.ups_dimse.specs.declared.command.ResponseCommand.{ResponseCommand}
use Rattle.ups_dimse.specs.declared.command.CancelCommand.{CancelCommand}
use Rattle.ups_dimse.specs.declared.command.Operation.{Operation}
use Rattle.ups_dimse.specs.declared.command.Operation.TheVariants as operations
use Rattle.ups_dimse.specs.declared.command.OperationResult.{OperationResult}
use Rattle.ups_dimse.specs.declared.command.OperationResult.TheVariants as results
use Rattle.ups_dimse.specs.declared.message.Message.{Message}
use Rattle.ups_dimse.specs.declared.message.Message.TheVariants.{EventReportRequest, EventReportResponse, GetRequest, GetResponse, SetRequest, SetResponse, ActionRequest, ActionResponse, CreateRequest, CreateResponse, EchoRequest, EchoResponse, FindRequest, FindResponse, CancelRequest}
use Rattle.ups_dimse.specs.Elements.{CommandElement}
use Rattle.ups_dimse.specs.Messages.{field_of}
use Rattle.ups_dimse.specs.Values.{HasUs, MayHaveUs, HasUid, HasDataSet}
use Rattle.ups_dimse.specs.Commands.{request_of, response_of, class_element, HasOperation, HasResult, IsRequest, IsResponse, IsCancel, IsCommand, SpellsCommand}
use Rattle.ups_dimse.proofs.AttributeTags.{one_tags}
use Rattle.ups_dimse.proofs.Walk.{one_list}

-- a message back from its field
abbrev message_at : ℕ → Option Message
message_at field = cond (eqb field 0x0100) (Some EventReportRequest) (cond (eqb field 0x8100) (Some EventReportResponse) (cond (eqb field 0x0110) (Some GetRequest) (cond (eqb field 0x8110) (Some GetResponse) (cond (eqb field 0x0120) (Some SetRequest) (cond (eqb field 0x8120) (Some SetResponse) (cond (eqb field 0x0130) (Some ActionRequest) (cond (eqb field 0x8130) (Some ActionResponse) (cond (eqb field 0x0140) (Some CreateRequest) (cond (eqb field 0x8140) (Some CreateResponse) (cond (eqb field 0x0030) (Some EchoRequest) (cond (eqb field 0x8030) (Some EchoResponse) (cond (eqb field 0x0020) (Some FindRequest) (cond (eqb field 0x8020) (Some FindResponse) (Some CancelRequest))))))))))))))

message_again : (m : Message) → message_at (field_of m) ≡ Some m
message_again EventReportRequest = refl
message_again EventReportResponse = refl
message_again GetRequest = refl
message_again GetResponse = refl
message_again SetRequest = refl
message_again SetResponse = refl
message_again ActionRequest = refl
message_again ActionResponse = refl
message_again CreateRequest = refl
message_again CreateResponse = refl
message_again EchoRequest = refl
message_again EchoResponse = refl
message_again FindRequest = refl
message_again FindResponse = refl
message_again CancelRequest = refl

pub one_message : (m n : Message) → field_of m ≡ field_of n → m ≡ n
one_message m n e = same_Some m n (sym (message_again m) ∙ ap message_at e ∙ message_again n)

pub one_us : (es : List CommandElement) (n v w : ℕ) → HasUs es n v → HasUs es n w → v ≡ w
one_us es n v w p q = same_le_2 v w p.fits q.fits (same_Some (to_le_bytes w16 v) (to_le_bytes w16 w) (sym p.is ∙ q.is))

one_optional_us : (es : List CommandElement) (n : ℕ) (o p : Option ℕ) → MayHaveUs es n o → MayHaveUs es n p → o ≡ p
one_optional_us es n None None h k = refl
one_optional_us es n None (Some v) h k = absurd (none-some (to_le_bytes w16 v) (sym h ∙ k.is))
one_optional_us es n (Some v) None h k = absurd (none-some (to_le_bytes w16 v) (sym k ∙ h.is))
one_optional_us es n (Some v) (Some w) h k = ap Some (one_us es n v w h k)

one_uid : (es : List CommandElement) (n : ℕ) (o p : Option (List ℕ)) → HasUid es n o → HasUid es n p → o ≡ p
one_uid es n None None h k = refl
one_uid es n None (Some v) h k = absurd (h k.0 k.1 v k.2)
one_uid es n (Some u) None h k = absurd (k h.0 h.1 u h.2)
one_uid es n (Some u) (Some v) h k =
    let values : h.0 ≡ k.0 = same_Some h.0 k.0 (sym h.1 ∙ k.1) in
    let texts : u ≡ v = h.2.parts ∙ ap without_padding values ∙ sym k.2.parts in
    λ i. Some (texts i)

one_data_set : (es : List CommandElement) (a b : Bool) → HasDataSet es a → HasDataSet es b → a ≡ b
one_data_set es a b h k = h.2 ∙ ap (λ (t : ℕ). not (eqb t 0x0101)) (one_us es 0x0800 h.0 k.0 h.1 k.1) ∙ sym k.2

one_operation : {A : Type 0} (es : List CommandElement) (o p : Operation A) → request_of o ≡ request_of p → HasOperation es o → HasOperation es p → o ≡ p
one_operation es (operations.EventReport i v) (operations.EventReport j w) e h k =
    let same = one_uid es 0x1000 i j h.0 k.0 in
    let event = one_us es 0x1002 v w h.1 k.1 in
    λ t. operations.EventReport (same t) (event t)
one_operation es (operations.Create i) (operations.Create j) e h k = let same = one_uid es 0x1000 i j h k in λ t. operations.Create (same t)
one_operation es (operations.Get i ts) (operations.Get j bs) e h k =
    let same = one_uid es 0x1001 i j h.0 k.0 in
    let tags = one_tags _ ts bs h.1 k.1 in
    λ t. operations.Get (same t) (tags t)
one_operation es (operations.Set i) (operations.Set j) e h k = let same = one_uid es 0x1001 i j h k in λ t. operations.Set (same t)
one_operation es (operations.Action i a) (operations.Action j b) e h k =
    let same = one_uid es 0x1001 i j h.0 k.0 in
    let action = one_us es 0x1008 a b h.1 k.1 in
    λ t. operations.Action (same t) (action t)
one_operation es operations.Echo operations.Echo e h k = refl
one_operation es (operations.Find m) (operations.Find n) e h k = let same = one_optional_us es 0x0700 m n h k in λ t. operations.Find (same t)
one_operation es (operations.Create i) (operations.Get j bs) e h k = cc
one_operation es (operations.Create i) (operations.Set j) e h k = cc
one_operation es (operations.Create i) (operations.Action j b) e h k = cc
one_operation es (operations.Create i) operations.Echo e h k = cc
one_operation es (operations.Create i) (operations.Find n) e h k = cc
one_operation es (operations.Get i ts) (operations.Create j) e h k = cc
one_operation es (operations.Get i ts) (operations.Set j) e h k = cc
one_operation es (operations.Get i ts) (operations.Action j b) e h k = cc
one_operation es (operations.Get i ts) operations.Echo e h k = cc
one_operation es (operations.Get i ts) (operations.Find n) e h k = cc
one_operation es (operations.Set i) (operations.Create j) e h k = cc
one_operation es (operations.Set i) (operations.Get j bs) e h k = cc
one_operation es (operations.Set i) (operations.Action j b) e h k = cc
one_operation es (operations.Set i) operations.Echo e h k = cc
one_operation es (operations.Set i) (operations.Find n) e h k = cc
one_operation es (operations.Action i a) (operations.Create j) e h k = cc
one_operation es (operations.Action i a) (operations.Get j bs) e h k = cc
one_operation es (operations.Action i a) (operations.Set j) e h k = cc
one_operation es (operations.Action i a) operations.Echo e h k = cc
one_operation es (operations.Action i a) (operations.Find n) e h k = cc
one_operation es operations.Echo (operations.Create j) e h k = cc
one_operation es operations.Echo (operations.Get j bs) e h k = cc
one_operation es operations.Echo (operations.Set j) e h k = cc
one_operation es operations.Echo (operations.Action j b) e h k = cc
one_operation es operations.Echo (operations.Find n) e h k = cc
one_operation es (operations.Find m) (operations.Create j) e h k = cc
one_operation es (operations.Find m) (operations.Get j bs) e h k = cc
one_operation es (operations.Find m) (operations.Set j) e h k = cc
one_operation es (operations.Find m) (operations.Action j b) e h k = cc
one_operation es (operations.Find m) operations.Echo e h k = cc
one_operation es (operations.EventReport i v) (operations.Create j) e h k = cc
one_operation es (operations.EventReport i v) (operations.Get j ts) e h k = cc
one_operation es (operations.EventReport i v) (operations.Set j) e h k = cc
one_operation es (operations.EventReport i v) (operations.Action j a) e h k = cc
one_operation es (operations.EventReport i v) operations.Echo e h k = cc
one_operation es (operations.EventReport i v) (operations.Find j) e h k = cc
one_operation es (operations.Create i) (operations.EventReport j w) e h k = cc
one_operation es (operations.Get i ts) (operations.EventReport j w) e h k = cc
one_operation es (operations.Set i) (operations.EventReport j w) e h k = cc
one_operation es (operations.Action i a) (operations.EventReport j w) e h k = cc
one_operation es operations.Echo (operations.EventReport j w) e h k = cc
one_operation es (operations.Find i) (operations.EventReport j w) e h k = cc

one_result : (es : List CommandElement) (o p : OperationResult) → response_of o ≡ response_of p → HasResult es o → HasResult es p → o ≡ p
one_result es (results.EventReport i v) (results.EventReport j w) e h k =
    let same = one_uid es 0x1000 i j h.0 k.0 in
    let event = one_optional_us es 0x1002 v w h.1 k.1 in
    λ t. results.EventReport (same t) (event t)
one_result es (results.Create i) (results.Create j) e h k = let same = one_uid es 0x1000 i j h k in λ t. results.Create (same t)
one_result es (results.Get i) (results.Get j) e h k = let same = one_uid es 0x1000 i j h k in λ t. results.Get (same t)
one_result es (results.Set i) (results.Set j) e h k = let same = one_uid es 0x1000 i j h k in λ t. results.Set (same t)
one_result es (results.Action i a) (results.Action j b) e h k =
    let same = one_uid es 0x1000 i j h.0 k.0 in
    let action = one_us es 0x1008 a b h.1 k.1 in
    λ t. results.Action (same t) (action t)
one_result es results.Echo results.Echo e h k = refl
one_result es results.Find results.Find e h k = refl
one_result es (results.Create i) (results.Get j) e h k = cc
one_result es (results.Create i) (results.Set j) e h k = cc
one_result es (results.Create i) (results.Action j b) e h k = cc
one_result es (results.Create i) results.Echo e h k = cc
one_result es (results.Create i) results.Find e h k = cc
one_result es (results.Get i) (results.Create j) e h k = cc
one_result es (results.Get i) (results.Set j) e h k = cc
one_result es (results.Get i) (results.Action j b) e h k = cc
one_result es (results.Get i) results.Echo e h k = cc
one_result es (results.Get i) results.Find e h k = cc
one_result es (results.Set i) (results.Create j) e h k = cc
one_result es (results.Set i) (results.Get j) e h k = cc
one_result es (results.Set i) (results.Action j b) e h k = cc
one_result es (results.Set i) results.Echo e h k = cc
one_result es (results.Set i) results.Find e h k = cc
one_result es (results.Action i a) (results.Create j) e h k = cc
one_result es (results.Action i a) (results.Get j) e h k = cc
one_result es (results.Action i a) (results.Set j) e h k = cc
one_result es (results.Action i a) results.Echo e h k = cc
one_result es (results.Action i a) results.Find e h k = cc
one_result es results.Echo (results.Create j) e h k = cc
one_result es results.Echo (results.Get j) e h k = cc
one_result es results.Echo (results.Set j) e h k = cc
one_result es results.Echo (results.Action j b) e h k = cc
one_result es results.Echo results.Find e h k = cc
one_result es results.Find (results.Create j) e h k = cc
one_result es results.Find (results.Get j) e h k = cc
one_result es results.Find (results.Set j) e h k = cc
one_result es results.Find (results.Action j b) e h k = cc
one_result es results.Find results.Echo e h k = cc
one_result es (results.EventReport i v) (results.Create j) e h k = cc
one_result es (results.EventReport i v) (results.Get j) e h k = cc
one_result es (results.EventReport i v) (results.Set j) e h k = cc
one_result es (results.EventReport i v) (results.Action j a) e h k = cc
one_result es (results.EventReport i v) results.Echo e h k = cc
one_result es (results.EventReport i v) results.Find e h k = cc
one_result es (results.Create i) (results.EventReport j w) e h k = cc
one_result es (results.Get i) (results.EventReport j w) e h k = cc
one_result es (results.Set i) (results.EventReport j w) e h k = cc
one_result es (results.Action i a) (results.EventReport j w) e h k = cc
one_result es results.Echo (results.EventReport j w) e h k = cc
one_result es results.Find (results.EventReport j w) e h k = cc

one_request : {A : Type 0} (es : List CommandElement) (r s : RequestCommand A) → IsRequest es r → IsRequest es s → r ≡ s
one_request es r s p q =
    let message = one_message (request_of r.operation) (request_of s.operation) (one_us es 0x0100 _ _ p.field q.field) in
    let operation = one_operation es r.operation s.operation message p.operation q.operation in
    let sop_class = one_uid es (class_element s.operation) r.sop_class s.sop_class (subst (λ o. HasUid es (class_element o) r.sop_class) operation p.sop_class) q.sop_class in
    let id = one_us es 0x0110 r.message_id s.message_id p.message_id q.message_id in
    let there = one_data_set es r.has_data_set s.has_data_set p.data_set q.data_set in
    λ i. record { sop_class = sop_class i; message_id = id i; has_data_set = there i; operation = operation i }

one_response : (es : List CommandElement) (r s : ResponseCommand) → IsResponse es r → IsResponse es s → r ≡ s
one_response es r s p q =
    let message = one_message (response_of r.result) (response_of s.result) (one_us es 0x0100 _ _ p.field q.field) in
    let outcome = one_result es r.result s.result message p.operation q.operation in
    let sop_class = one_uid es 0x0002 r.sop_class s.sop_class p.sop_class q.sop_class in
    let id = one_us es 0x0120 r.responded_to s.responded_to p.responded_to q.responded_to in
    let there = one_data_set es r.has_data_set s.has_data_set p.data_set q.data_set in
    let status = one_us es 0x0900 r.status s.status p.status q.status in
    λ i. record { sop_class = sop_class i; responded_to = id i; has_data_set = there i; status = status i; result = outcome i }

one_cancel : (es : List CommandElement) (c d : CancelCommand) → IsCancel es c → IsCancel es d → c ≡ d
one_cancel es c d p q =
    let responded_to = one_us es 0x0120 c.responded_to d.responded_to p.responded_to q.responded_to in
    let there = one_data_set es c.has_data_set d.has_data_set p.data_set q.data_set in
    λ i. record { responded_to = responded_to i; has_data_set = there i }

-- the message of a command
abbrev pub message_of : {A : Type 0} → Command A → Message
message_of (Request r) = request_of r.operation
message_of (Response r) = response_of r.result
message_of (Cancel c) = CancelRequest

pub command_field : {A : Type 0} (es : List CommandElement) (c : Command A) → IsCommand es c → HasUs es 0x0100 (field_of (message_of c))
command_field es (Request r) p = p.field
command_field es (Response r) p = p.field
command_field es (Cancel c) p = p.field

-- requests, responses and cancels, told apart
abbrev kind : Message → ℕ
kind EventReportRequest = 0
kind EventReportResponse = 1
kind GetRequest = 0
kind SetRequest = 0
kind ActionRequest = 0
kind CreateRequest = 0
kind EchoRequest = 0
kind FindRequest = 0
kind GetResponse = 1
kind SetResponse = 1
kind ActionResponse = 1
kind CreateResponse = 1
kind EchoResponse = 1
kind FindResponse = 1
kind CancelRequest = 2

request_kind : {A : Type 0} (o : Operation A) → kind (request_of o) ≡ 0
request_kind (operations.EventReport i v) = refl
request_kind (operations.Create i) = refl
request_kind (operations.Get i ts) = refl
request_kind (operations.Set i) = refl
request_kind (operations.Action i a) = refl
request_kind operations.Echo = refl
request_kind (operations.Find p) = refl

response_kind : (o : OperationResult) → kind (response_of o) ≡ 1
response_kind (results.EventReport i v) = refl
response_kind (results.Create i) = refl
response_kind (results.Get i) = refl
response_kind (results.Set i) = refl
response_kind (results.Action i a) = refl
response_kind results.Echo = refl
response_kind results.Find = refl

same_kind : {A : Type 0} (es : List CommandElement) (c d : Command A) → IsCommand es c → IsCommand es d → kind (message_of c) ≡ kind (message_of d)
same_kind es c d p q = ap kind (one_message (message_of c) (message_of d) (one_us es 0x0100 _ _ (command_field es c p) (command_field es d q)))

one_of_elements : {A : Type 0} (es : List CommandElement) (c d : Command A) → IsCommand es c → IsCommand es d → c ≡ d
one_of_elements es (Request r) (Request s) p q = let same = one_request es r s p q in λ i. Request (same i)
one_of_elements es (Response r) (Response s) p q = let same = one_response es r s p q in λ i. Response (same i)
one_of_elements es (Cancel c) (Cancel d) p q = let same = one_cancel es c d p q in λ i. Cancel (same i)
one_of_elements es (Request r) (Response s) p q = absurd (omega (arith, same_kind es (Request r) (Response s) p q, request_kind r.operation, response_kind s.result))
one_of_elements es (Response r) (Request s) p q = absurd (omega (arith, same_kind es (Response r) (Request s) p q, request_kind s.operation, response_kind r.result))
one_of_elements es (Request r) (Cancel d) p q = absurd (omega (arith, same_kind es (Request r) (Cancel d) p q, request_kind r.operation))
one_of_elements es (Cancel c) (Request s) p q = absurd (omega (arith, same_kind es (Cancel c) (Request s) p q, request_kind s.operation))
one_of_elements {A = A} es (Response r) (Cancel d) p q = absurd (omega (arith, same_kind {A = A} es (Response r) (Cancel d) p q, response_kind r.result))
one_of_elements {A = A} es (Cancel c) (Response s) p q = absurd (omega (arith, same_kind {A = A} es (Cancel c) (Response s) p q, response_kind s.result))

pub one_command : {A : Type 0} (bytes : List ℕ) (c d : Command A) → SpellsCommand bytes c → SpellsCommand bytes d → c ≡ d
one_command bytes c d p q =
    let es = one_list 0 bytes p.elements q.elements p.spelled q.spelled in
    one_of_elements q.elements c d (subst (λ (l : List CommandElement). IsCommand l c) es p.is) q.is

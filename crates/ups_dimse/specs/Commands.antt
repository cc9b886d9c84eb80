-- Which bytes encode which command (PS3.7 sections 9.3 and 10.3).
use Rattle.std.specs.Prelude.{ℕ, List, [], Some}
use Rattle.ups_dimse.specs.declared.command.Command.{Command}
use Rattle.ups_dimse.specs.declared.command.Command.TheVariants.{Request, Response, Cancel}
use Rattle.ups_dimse.specs.declared.command.RequestCommand.{RequestCommand}
use Rattle.ups_dimse.specs.declared.command.ResponseCommand.{ResponseCommand}
use Rattle.ups_dimse.specs.declared.command.CancelCommand.{CancelCommand}
use Rattle.ups_dimse.specs.declared.command.Operation.{Operation}
use Rattle.ups_dimse.specs.declared.command.Operation.TheVariants as operations
use Rattle.ups_dimse.specs.declared.command.OperationResult.{OperationResult}
use Rattle.ups_dimse.specs.declared.command.OperationResult.TheVariants as results
use Rattle.ups_dimse.specs.declared.message.Message.{Message}
use Rattle.ups_dimse.specs.declared.message.Message.TheVariants.{EventReportRequest, EventReportResponse, GetRequest, GetResponse, SetRequest, SetResponse, ActionRequest, ActionResponse, CreateRequest, CreateResponse, EchoRequest, EchoResponse, FindRequest, FindResponse, CancelRequest}
use Rattle.ups_dimse.specs.Elements.{CommandElement, SpellsCommandElements}
use Rattle.ups_dimse.specs.Messages.{field_of}
use Rattle.ups_dimse.specs.Values.{HasUs, MayHaveUs, HasUid, HasDataSet, HasTags}

-- the message that requests an operation
abbrev pub request_of : {A : Type 0} → Operation A → Message
request_of (operations.EventReport instance event) = EventReportRequest
request_of (operations.Create instance) = CreateRequest
request_of (operations.Get instance attributes) = GetRequest
request_of (operations.Set instance) = SetRequest
request_of (operations.Action instance action) = ActionRequest
request_of operations.Echo = EchoRequest
request_of (operations.Find priority) = FindRequest

-- the message that responds with a result
abbrev pub response_of : OperationResult → Message
response_of (results.EventReport instance event) = EventReportResponse
response_of (results.Create instance) = CreateResponse
response_of (results.Get instance) = GetResponse
response_of (results.Set instance) = SetResponse
response_of (results.Action instance action) = ActionResponse
response_of results.Echo = EchoResponse
response_of results.Find = FindResponse

-- the element that names the SOP class of a request: Affected (0002) or Requested (0003) SOP Class UID
abbrev pub class_element : {A : Type 0} → Operation A → ℕ
class_element (operations.EventReport instance event) = 0x0002
class_element (operations.Create instance) = 0x0002
class_element (operations.Get instance attributes) = 0x0003
class_element (operations.Set instance) = 0x0003
class_element (operations.Action instance action) = 0x0003
class_element operations.Echo = 0x0002
class_element (operations.Find priority) = 0x0002

-- the elements of a request that belong to its operation: Affected (1000) or Requested (1001) SOP Instance UID, Event
-- Type ID (1002), Attribute Identifier List (1005), Action Type ID (1008), Priority (0700). A C-ECHO has none (PS3.7
-- section 9.3.5.1).
abbrev pub HasOperation : {A : Type 0} → List CommandElement → Operation A → Type 0
HasOperation elements (operations.EventReport instance event) = HasUid elements 0x1000 instance × HasUs elements 0x1002 event
HasOperation elements (operations.Create instance) = HasUid elements 0x1000 instance
HasOperation elements (operations.Get instance attributes) = HasUid elements 0x1001 instance × HasTags elements 0x1005 attributes
HasOperation elements (operations.Set instance) = HasUid elements 0x1001 instance
HasOperation elements (operations.Action instance action) = HasUid elements 0x1001 instance × HasUs elements 0x1008 action
HasOperation elements operations.Echo = Unit {0}
HasOperation elements (operations.Find priority) = MayHaveUs elements 0x0700 priority

-- the elements of a response that belong to its operation: Affected SOP Instance UID (1000), Event Type ID (1002),
-- which may be absent, Action Type ID (1008). A C-ECHO and a C-FIND have none (PS3.7 sections 9.3.5.2 and 9.3.2.2).
abbrev pub HasResult : List CommandElement → OperationResult → Type 0
HasResult elements (results.EventReport instance event) = HasUid elements 0x1000 instance × MayHaveUs elements 0x1002 event
HasResult elements (results.Create instance) = HasUid elements 0x1000 instance
HasResult elements (results.Get instance) = HasUid elements 0x1000 instance
HasResult elements (results.Set instance) = HasUid elements 0x1000 instance
HasResult elements (results.Action instance action) = HasUid elements 0x1000 instance × HasUs elements 0x1008 action
HasResult elements results.Echo = Unit {0}
HasResult elements results.Find = Unit {0}

-- a request: its SOP class, Command Field (0100), Message ID (0110), Command Data Set Type (0800), and the elements of
-- its operation
pub record IsRequest {A : Type 0} (elements : List CommandElement) (request : RequestCommand A) : Type 0 where
  pub sop_class : HasUid elements (class_element request.operation) request.sop_class
  pub field : HasUs elements 0x0100 (field_of (request_of request.operation))
  pub message_id : HasUs elements 0x0110 request.message_id
  pub data_set : HasDataSet elements request.has_data_set
  pub operation : HasOperation elements request.operation

-- a response: Affected SOP Class UID (0002), Command Field (0100), Message ID Being Responded To (0120), Command Data
-- Set Type (0800), Status (0900), and the elements of its operation
pub record IsResponse (elements : List CommandElement) (response : ResponseCommand) : Type 0 where
  pub sop_class : HasUid elements 0x0002 response.sop_class
  pub field : HasUs elements 0x0100 (field_of (response_of response.result))
  pub responded_to : HasUs elements 0x0120 response.responded_to
  pub data_set : HasDataSet elements response.has_data_set
  pub status : HasUs elements 0x0900 response.status
  pub operation : HasResult elements response.result

-- a request to cancel an operation: Command Field (0100), Message ID Being Responded To (0120), which is the Message ID
-- of the operation, and Command Data Set Type (0800) (PS3.7 section 9.3.2.3)
pub record IsCancel (elements : List CommandElement) (cancel : CancelCommand) : Type 0 where
  pub field : HasUs elements 0x0100 (field_of CancelRequest)
  pub responded_to : HasUs elements 0x0120 cancel.responded_to
  pub data_set : HasDataSet elements cancel.has_data_set

-- the elements are those of this command; others may be among them
abbrev pub IsCommand : {A : Type 0} → List CommandElement → Command A → Type 0
IsCommand elements (Request request) = IsRequest elements request
IsCommand elements (Response response) = IsResponse elements response
IsCommand elements (Cancel cancel) = IsCancel elements cancel

-- The bytes are elements with ascending numbers, and those of this command are among them. Command Group Length (0000)
-- is not one of the command's: it may be absent, and its value is not checked.
pub record SpellsCommand {A : Type 0} (bytes : List ℕ) (command : Command A) : Type 0 where
  pub elements : List CommandElement
  pub spelled : SpellsCommandElements 0 bytes elements []
  pub is : IsCommand elements command

-- the result that a response to an operation has
abbrev pub result_of : {A : Type 0} → Operation A → OperationResult
result_of (operations.EventReport instance event) = results.EventReport instance (Some event)
result_of (operations.Create instance) = results.Create instance
result_of (operations.Get instance attributes) = results.Get instance
result_of (operations.Set instance) = results.Set instance
result_of (operations.Action instance action) = results.Action instance action
result_of operations.Echo = results.Echo
result_of (operations.Find priority) = results.Find

-- The one encoding of a command that is written.
use Rattle.std.specs.Prelude.{ℕ, ◌≤◌, ◌%◌, ◌==◌, Bool, if◌then◌else◌, List, [], ◌∷◌, ◌++◌, length, Option, None, Some}
use Rattle.std.specs.Int.{w16, w32, to_le_bytes}
use Rattle.std.specs.List.{flat_map}
use Rattle.ups_dataset.specs.declared.tag.Tag.{Tag}
use Rattle.ups_dataset.specs.Tag.{tag_bytes}
use Rattle.ups_dimse.specs.declared.command.Command.{Command}
use Rattle.ups_dimse.specs.declared.command.Command.TheVariants.{Request, Response, Cancel}
use Rattle.ups_dimse.specs.declared.command.RequestCommand.{RequestCommand}
use Rattle.ups_dimse.specs.declared.command.ResponseCommand.{ResponseCommand}
use Rattle.ups_dimse.specs.declared.command.CancelCommand.{CancelCommand}
use Rattle.ups_dimse.specs.declared.message.Message.TheVariants.{CancelRequest}
use Rattle.ups_dimse.specs.declared.command.Operation.{Operation}
use Rattle.ups_dimse.specs.declared.command.Operation.TheVariants as operations
use Rattle.ups_dimse.specs.declared.command.OperationResult.{OperationResult}
use Rattle.ups_dimse.specs.declared.command.OperationResult.TheVariants as results
use Rattle.ups_dimse.specs.Elements.{CommandElement, command_tag}
use Rattle.ups_dimse.specs.Limits.{max_attributes}
use Rattle.ups_dimse.specs.Messages.{field_of}
use Rattle.ups_dimse.specs.Commands.{request_of, response_of, class_element}

-- the tag of an element, the length of its value, and its value (PS3.5 section 7.1.3)
abbrev pub written_command_element : CommandElement → List ℕ
written_command_element e = tag_bytes (command_tag e.number) ++ (to_le_bytes w32 (length e.value) ++ e.value)

-- the element of a number in two bytes (PS3.5 section 6.2)
abbrev pub us_element : ℕ → ℕ → CommandElement
us_element number value = record { number = number; value = to_le_bytes w16 value }

-- the element of a number, if there is one
abbrev pub optional_us_element : ℕ → Option ℕ → List CommandElement
optional_us_element number None = []
optional_us_element number (Some value) = us_element number value ∷ []

-- a UID, followed by one NUL if its length is odd (PS3.5 section 9.1)
abbrev pub padded_uid : List ℕ → List ℕ
padded_uid uid = if length uid % 2 == 0 then uid else uid ++ 0 ∷ []

-- the element of a UID, if there is one
abbrev pub uid_element : ℕ → Option (List ℕ) → List CommandElement
uid_element number None = []
uid_element number (Some uid) = record { number = number; value = padded_uid uid } ∷ []

-- the element of a list of tags, if it has any
abbrev pub tags_element : ℕ → List Tag → List CommandElement
tags_element number [] = []
tags_element number (tag ∷ tags) = record { number = number; value = flat_map tag_bytes (tag ∷ tags) } ∷ []

-- Command Data Set Type: 0001H if a data set follows, 0101H if none does (PS3.7 annex E.1)
abbrev pub data_set_element : Bool → CommandElement
data_set_element there = us_element 0x0800 (if there then 0x0001 else 0x0101)

-- Priority (0000,0700), which only a C-FIND has (PS3.7 section 9.3.2.1)
abbrev pub priority_of : {A : Type 0} → Operation A → Option ℕ
priority_of (operations.EventReport instance event) = None
priority_of (operations.Create instance) = None
priority_of (operations.Get instance attributes) = None
priority_of (operations.Set instance) = None
priority_of (operations.Action instance action) = None
priority_of operations.Echo = None
priority_of (operations.Find priority) = priority

-- the other elements of an operation (PS3.7 sections 9.3.5.1, 10.3.1.1, 10.3.2.1, 10.3.3.1, 10.3.4.1 and 10.3.5.1)
abbrev pub operation_elements : {A : Type 0} → Operation A → List CommandElement
operation_elements (operations.EventReport instance event) = uid_element 0x1000 instance ++ us_element 0x1002 event ∷ []
operation_elements (operations.Create instance) = uid_element 0x1000 instance
operation_elements (operations.Get instance attributes) = uid_element 0x1001 instance ++ tags_element 0x1005 attributes
operation_elements (operations.Set instance) = uid_element 0x1001 instance
operation_elements (operations.Action instance action) = uid_element 0x1001 instance ++ us_element 0x1008 action ∷ []
operation_elements operations.Echo = []
operation_elements (operations.Find priority) = []

-- the elements of a result (PS3.7 sections 9.3.2.2, 9.3.5.2, 10.3.1.2, 10.3.2.2, 10.3.3.2, 10.3.4.2 and 10.3.5.2)
abbrev pub result_elements : OperationResult → List CommandElement
result_elements (results.EventReport instance event) = uid_element 0x1000 instance ++ optional_us_element 0x1002 event
result_elements (results.Create instance) = uid_element 0x1000 instance
result_elements (results.Get instance) = uid_element 0x1000 instance
result_elements (results.Set instance) = uid_element 0x1000 instance
result_elements (results.Action instance action) = uid_element 0x1000 instance ++ us_element 0x1008 action ∷ []
result_elements results.Echo = []
result_elements results.Find = []

-- the elements of a request, by ascending number
abbrev pub request_elements : {A : Type 0} → RequestCommand A → List CommandElement
request_elements r = uid_element (class_element r.operation) r.sop_class
    ++ (us_element 0x0100 (field_of (request_of r.operation)) ∷ us_element 0x0110 r.message_id ∷ (optional_us_element 0x0700 (priority_of r.operation) ++ (data_set_element r.has_data_set ∷ operation_elements r.operation)))

-- the elements of a response, by ascending number
abbrev pub response_elements : ResponseCommand → List CommandElement
response_elements r = uid_element 0x0002 r.sop_class
    ++ (us_element 0x0100 (field_of (response_of r.result)) ∷ us_element 0x0120 r.responded_to ∷ data_set_element r.has_data_set ∷ us_element 0x0900 r.status ∷ result_elements r.result)

-- the elements of a request to cancel an operation, by ascending number (PS3.7 section 9.3.2.3)
abbrev pub cancel_elements : CancelCommand → List CommandElement
cancel_elements c = us_element 0x0100 (field_of CancelRequest) ∷ us_element 0x0120 c.responded_to ∷ data_set_element c.has_data_set ∷ []

-- the elements after Command Group Length (0000,0000), by ascending number
abbrev pub command_elements : {A : Type 0} → Command A → List CommandElement
command_elements (Request request) = request_elements request
command_elements (Response response) = response_elements response
command_elements (Cancel cancel) = cancel_elements cancel

-- the elements, preceded by the length of them all (PS3.7 section 6.3.1)
abbrev pub grouped : List CommandElement → List CommandElement
grouped elements = record { number = 0x0000; value = to_le_bytes w32 (length (flat_map written_command_element elements)) } ∷ elements

-- the bytes of a command set
abbrev pub written_command : {A : Type 0} → Command A → List ℕ
written_command command = flat_map written_command_element (grouped (command_elements command))

-- the attributes that a request lists
abbrev pub tags_of : {A : Type 0} → Operation A → List Tag
tags_of (operations.EventReport instance event) = []
tags_of (operations.Create instance) = []
tags_of (operations.Get instance attributes) = attributes
tags_of (operations.Set instance) = []
tags_of (operations.Action instance action) = []
tags_of operations.Echo = []
tags_of (operations.Find priority) = []

-- Few enough attributes are listed for the length to fit in the four bytes of Command Group Length.
abbrev pub FitsCommand : {A : Type 0} → Command A → Type 0
FitsCommand (Request request) = length (tags_of request.operation) ≤ max_attributes
FitsCommand (Response response) = Unit {0}
FitsCommand (Cancel cancel) = Unit {0}

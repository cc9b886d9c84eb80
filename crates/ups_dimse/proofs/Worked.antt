-- Worked rows: what the definitions say of small commands, computed by the check.
use Rattle.std.proofs.Common.{◌≡◌, ℕ, ◌+◌, true, false, None, Some, inl, inr, List, [], ◌∷◌, ◌++◌, refl, arith}
use Rattle.std.specs.Prelude.{codes}
use Rattle.ups_dimse.specs.declared.fault.DimseFault.TheVariants.{Missing, BadValue}
use Rattle.ups_dimse.specs.declared.command.Command.{Command}
use Rattle.ups_dimse.specs.declared.command.Command.TheVariants.{Request, Response, Cancel}
use Rattle.ups_dimse.specs.declared.command.Operation.{Operation}
use Rattle.ups_dimse.specs.declared.command.Operation.TheVariants as operations
use Rattle.ups_dimse.specs.declared.command.OperationResult.{OperationResult}
use Rattle.ups_dimse.specs.declared.command.OperationResult.TheVariants as results
use Rattle.ups_dimse.specs.declared.message.Message.TheVariants.{ActionRequest, ActionResponse, FindRequest, CancelRequest}
use Rattle.ups_dimse.specs.Elements.{CommandElement, command_tag}
use Rattle.ups_dimse.specs.Messages.{field_of, needs}
use Rattle.ups_dimse.specs.Commands.{request_of, response_of, result_of}
use Rattle.ups_dimse.specs.Faults.{FirstFails}
use Rattle.ups_dimse.specs.Written.{us_element, command_elements, written_command}

abbrev element : ℕ → List ℕ → CommandElement
element number value = record { number = number; value = value }

abbrev class_uid : List ℕ
class_uid = codes "1.2"

abbrev step : List ℕ
step = codes "1.2.3.4"

abbrev padded_step : List ℕ
padded_step = codes "1.2.3.4" ++ 0x00 ∷ []

-- no allocator is looked at
abbrev request_for : ℕ → Operation (Unit {0}) → Command (Unit {0})
request_for id operation = Request (record { sop_class = Some class_uid; message_id = id; has_data_set = true; operation = operation })

abbrev answer_with : ℕ → ℕ → OperationResult → Command (Unit {0})
answer_with id status result = Response (record { sop_class = Some class_uid; responded_to = id; has_data_set = false; status = status; result = result })

-- the Command Field of a response is that of its request with the highest bit set (PS3.7 annex E.1)
answered_field : {A : Type 0} (o : Operation A) → field_of (response_of (result_of o)) ≡ field_of (request_of o) + 0x8000
answered_field (operations.EventReport instance event) = refl
answered_field (operations.Create instance) = refl
answered_field (operations.Get instance attributes) = refl
answered_field (operations.Set instance) = refl
answered_field (operations.Action instance action) = refl
answered_field operations.Echo = refl
answered_field (operations.Find priority) = refl

-- an N-SET names its class and its instance as requested ones (PS3.7 section 10.3.3.1)
set_request : command_elements (request_for 3 (operations.Set (Some step)))
    ≡ element 0x0003 (codes "1.2" ++ 0x00 ∷ []) ∷ element 0x0100 (0x20 ∷ 0x01 ∷ []) ∷ element 0x0110 (0x03 ∷ 0x00 ∷ []) ∷ element 0x0800 (0x01 ∷ 0x00 ∷ []) ∷ element 0x1001 padded_step ∷ []
set_request = refl

-- and its response as affected ones (PS3.7 section 10.3.3.2)
set_response : command_elements (answer_with 3 0x0000 (results.Set (Some step)))
    ≡ element 0x0002 (codes "1.2" ++ 0x00 ∷ []) ∷ element 0x0100 (0x20 ∷ 0x81 ∷ []) ∷ element 0x0120 (0x03 ∷ 0x00 ∷ []) ∷ element 0x0800 (0x01 ∷ 0x01 ∷ []) ∷ element 0x0900 (0x00 ∷ 0x00 ∷ []) ∷ element 0x1000 padded_step ∷ []
set_response = refl

-- an N-ACTION has its action type behind its instance (PS3.7 section 10.3.4.1)
action_request : command_elements (request_for 4 (operations.Action (Some step) 0x0103))
    ≡ element 0x0003 (codes "1.2" ++ 0x00 ∷ []) ∷ element 0x0100 (0x30 ∷ 0x01 ∷ []) ∷ element 0x0110 (0x04 ∷ 0x00 ∷ []) ∷ element 0x0800 (0x01 ∷ 0x00 ∷ []) ∷ element 0x1001 padded_step ∷ element 0x1008 (0x03 ∷ 0x01 ∷ []) ∷ []
action_request = refl

-- and so has its response (PS3.7 section 10.3.4.2)
action_response : command_elements (answer_with 4 0xC302 (results.Action (Some step) 0x0103))
    ≡ element 0x0002 (codes "1.2" ++ 0x00 ∷ []) ∷ element 0x0100 (0x30 ∷ 0x81 ∷ []) ∷ element 0x0120 (0x04 ∷ 0x00 ∷ []) ∷ element 0x0800 (0x01 ∷ 0x01 ∷ []) ∷ element 0x0900 (0x02 ∷ 0xc3 ∷ []) ∷ element 0x1000 padded_step ∷ element 0x1008 (0x03 ∷ 0x01 ∷ []) ∷ []
action_response = refl

-- an N-EVENT-REPORT names its class and its instance as affected ones, and has its event type behind them (PS3.7
-- section 10.3.1.1)
event_report_request : command_elements (request_for 1 (operations.EventReport (Some step) 0x0001))
    ≡ element 0x0002 (codes "1.2" ++ 0x00 ∷ []) ∷ element 0x0100 (0x00 ∷ 0x01 ∷ []) ∷ element 0x0110 (0x01 ∷ 0x00 ∷ []) ∷ element 0x0800 (0x01 ∷ 0x00 ∷ []) ∷ element 0x1000 padded_step ∷ element 0x1002 (0x01 ∷ 0x00 ∷ []) ∷ []
event_report_request = refl

-- and so has its response, where it has an event type (PS3.7 section 10.3.1.2)
event_report_response : command_elements (answer_with 1 0x0000 (results.EventReport (Some step) (Some 0x0001)))
    ≡ element 0x0002 (codes "1.2" ++ 0x00 ∷ []) ∷ element 0x0100 (0x00 ∷ 0x81 ∷ []) ∷ element 0x0120 (0x01 ∷ 0x00 ∷ []) ∷ element 0x0800 (0x01 ∷ 0x01 ∷ []) ∷ element 0x0900 (0x00 ∷ 0x00 ∷ []) ∷ element 0x1000 padded_step ∷ element 0x1002 (0x01 ∷ 0x00 ∷ []) ∷ []
event_report_response = refl

event_report_response_bare : command_elements (answer_with 1 0x0000 (results.EventReport None None))
    ≡ element 0x0002 (codes "1.2" ++ 0x00 ∷ []) ∷ element 0x0100 (0x00 ∷ 0x81 ∷ []) ∷ element 0x0120 (0x01 ∷ 0x00 ∷ []) ∷ element 0x0800 (0x01 ∷ 0x01 ∷ []) ∷ element 0x0900 (0x00 ∷ 0x00 ∷ []) ∷ []
event_report_response_bare = refl

-- an N-ACTION without a class and an instance, in bytes
bare_action : written_command {A = Unit {0}} (Request (record { sop_class = None; message_id = 4; has_data_set = false; operation = operations.Action None 5 }))
    ≡ (0x00 ∷ 0x00 ∷ 0x00 ∷ 0x00 ∷ 0x04 ∷ 0x00 ∷ 0x00 ∷ 0x00 ∷ 0x28 ∷ 0x00 ∷ 0x00 ∷ 0x00 ∷ [])
    ++ ((0x00 ∷ 0x00 ∷ 0x00 ∷ 0x01 ∷ 0x02 ∷ 0x00 ∷ 0x00 ∷ 0x00 ∷ 0x30 ∷ 0x01 ∷ [])
    ++ ((0x00 ∷ 0x00 ∷ 0x10 ∷ 0x01 ∷ 0x02 ∷ 0x00 ∷ 0x00 ∷ 0x00 ∷ 0x04 ∷ 0x00 ∷ [])
    ++ ((0x00 ∷ 0x00 ∷ 0x00 ∷ 0x08 ∷ 0x02 ∷ 0x00 ∷ 0x00 ∷ 0x00 ∷ 0x01 ∷ 0x01 ∷ [])
    ++ (0x00 ∷ 0x00 ∷ 0x08 ∷ 0x10 ∷ 0x02 ∷ 0x00 ∷ 0x00 ∷ 0x00 ∷ 0x05 ∷ 0x00 ∷ []))))
bare_action = refl

-- an N-ACTION without a message ID and without an action type fails by the first of the two
no_message_id : FirstFails (us_element 0x0100 0x0130 ∷ us_element 0x0800 0x0101 ∷ []) (needs ActionRequest) (Missing (command_tag 0x0110))
no_message_id = inl (refl, refl)

-- one with a message ID and an announcement that no data set follows
abbrev head : List CommandElement
head = us_element 0x0100 0x0130 ∷ us_element 0x0110 4 ∷ us_element 0x0800 0x0101 ∷ []

-- fails where the action type is missing
no_action_type : FirstFails head (needs ActionRequest) (Missing (command_tag 0x1008))
no_action_type = inr ((4, record { fits = omega arith; is = refl }), inr ((0x0101, record { fits = omega arith; is = refl }), inl (refl, refl)))

-- and where it has four bytes
long_action_type : FirstFails (head ++ element 0x1008 (0x05 ∷ 0x00 ∷ 0x00 ∷ 0x00 ∷ []) ∷ []) (needs ActionRequest) (BadValue (command_tag 0x1008))
long_action_type = inr ((4, record { fits = omega arith; is = refl }), inr ((0x0101, record { fits = omega arith; is = refl }), inl (refl, 0x05 ∷ 0x00 ∷ 0x00 ∷ 0x00 ∷ [], refl, λ e. omega (arith, e))))

-- a response to an N-ACTION whose status is missing, and its action type too, fails by the status
no_status : FirstFails (us_element 0x0100 0x8130 ∷ us_element 0x0120 4 ∷ us_element 0x0800 0x0101 ∷ []) (needs ActionResponse) (Missing (command_tag 0x0900))
no_status = inr ((4, record { fits = omega arith; is = refl }), inr ((0x0101, record { fits = omega arith; is = refl }), inl (refl, refl)))

-- a C-FIND has its priority before its announcement of a data set (PS3.7 section 9.3.2.1)
find_request : command_elements (request_for 5 (operations.Find (Some 0x0001)))
    ≡ element 0x0002 (codes "1.2" ++ 0x00 ∷ []) ∷ element 0x0100 (0x20 ∷ 0x00 ∷ []) ∷ element 0x0110 (0x05 ∷ 0x00 ∷ []) ∷ element 0x0700 (0x01 ∷ 0x00 ∷ []) ∷ element 0x0800 (0x01 ∷ 0x00 ∷ []) ∷ []
find_request = refl

-- or has none
find_request_bare : command_elements (request_for 5 (operations.Find None))
    ≡ element 0x0002 (codes "1.2" ++ 0x00 ∷ []) ∷ element 0x0100 (0x20 ∷ 0x00 ∷ []) ∷ element 0x0110 (0x05 ∷ 0x00 ∷ []) ∷ element 0x0800 (0x01 ∷ 0x00 ∷ []) ∷ []
find_request_bare = refl

-- its response has no instance (PS3.7 section 9.3.2.2)
find_response : command_elements (answer_with 5 0x0000 results.Find)
    ≡ element 0x0002 (codes "1.2" ++ 0x00 ∷ []) ∷ element 0x0100 (0x20 ∷ 0x80 ∷ []) ∷ element 0x0120 (0x05 ∷ 0x00 ∷ []) ∷ element 0x0800 (0x01 ∷ 0x01 ∷ []) ∷ element 0x0900 (0x00 ∷ 0x00 ∷ []) ∷ []
find_response = refl

-- a C-CANCEL, in bytes (PS3.7 section 9.3.2.3)
cancel : written_command {A = Unit {0}} (Cancel (record { responded_to = 5; has_data_set = false }))
    ≡ (0x00 ∷ 0x00 ∷ 0x00 ∷ 0x00 ∷ 0x04 ∷ 0x00 ∷ 0x00 ∷ 0x00 ∷ 0x1e ∷ 0x00 ∷ 0x00 ∷ 0x00 ∷ [])
    ++ ((0x00 ∷ 0x00 ∷ 0x00 ∷ 0x01 ∷ 0x02 ∷ 0x00 ∷ 0x00 ∷ 0x00 ∷ 0xff ∷ 0x0f ∷ [])
    ++ ((0x00 ∷ 0x00 ∷ 0x20 ∷ 0x01 ∷ 0x02 ∷ 0x00 ∷ 0x00 ∷ 0x00 ∷ 0x05 ∷ 0x00 ∷ [])
    ++ (0x00 ∷ 0x00 ∷ 0x00 ∷ 0x08 ∷ 0x02 ∷ 0x00 ∷ 0x00 ∷ 0x00 ∷ 0x01 ∷ 0x01 ∷ [])))
cancel = refl

-- a C-FIND whose priority has four bytes fails by it, though its announcement is missing too
long_priority : FirstFails (us_element 0x0100 0x0020 ∷ us_element 0x0110 5 ∷ element 0x0700 (0x00 ∷ 0x00 ∷ 0x00 ∷ 0x00 ∷ []) ∷ []) (needs FindRequest) (BadValue (command_tag 0x0700))
long_priority = inr ((5, record { fits = omega arith; is = refl }), inl (refl, 0x00 ∷ 0x00 ∷ 0x00 ∷ 0x00 ∷ [], refl, λ e. omega (arith, e)))

-- and one without a priority by its announcement
no_priority : FirstFails (us_element 0x0100 0x0020 ∷ us_element 0x0110 5 ∷ []) (needs FindRequest) (Missing (command_tag 0x0800))
no_priority = inr ((5, record { fits = omega arith; is = refl }), inr ((None, refl), inl (refl, refl)))

-- a C-CANCEL that names no message fails
no_cancelled : FirstFails (us_element 0x0100 0x0fff ∷ us_element 0x0110 5 ∷ us_element 0x0800 0x0101 ∷ []) (needs CancelRequest) (Missing (command_tag 0x0120))
no_cancelled = inl (refl, refl)

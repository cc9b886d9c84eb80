-- The messages: their command fields (PS3.7 annex E.1), and the elements that they have (PS3.7 sections 9.3 and 10.3).
use Rattle.std.specs.Prelude.{ℕ, List, [], ◌∷◌}
use Rattle.ups_dimse.specs.declared.message.Message.{Message}
use Rattle.ups_dimse.specs.declared.message.Message.TheVariants.{EventReportRequest, EventReportResponse, GetRequest, GetResponse, SetRequest, SetResponse, ActionRequest, ActionResponse, CreateRequest, CreateResponse, EchoRequest, EchoResponse, FindRequest, FindResponse, CancelRequest}

-- Command Field (0000,0100). That of a response has its highest bit set. A C-CANCEL has no response.
abbrev pub field_of : Message → ℕ
field_of EventReportRequest = 0x0100
field_of EventReportResponse = 0x8100
field_of GetRequest = 0x0110
field_of GetResponse = 0x8110
field_of SetRequest = 0x0120
field_of SetResponse = 0x8120
field_of ActionRequest = 0x0130
field_of ActionResponse = 0x8130
field_of CreateRequest = 0x0140
field_of CreateResponse = 0x8140
field_of EchoRequest = 0x0030
field_of EchoResponse = 0x8030
field_of FindRequest = 0x0020
field_of FindResponse = 0x8020
field_of CancelRequest = 0x0fff

-- an element whose value must have a certain length: a US, which must be present or may be absent, or an AT, which may
-- be absent
pub data Need : Type 0 where
  has_us : ℕ → Need
  may_have_us : ℕ → Need
  may_have_at : ℕ → Need

-- the elements of a message that can be at fault, by ascending number: Message ID (0110), Message ID Being Responded To
-- (0120), Priority (0700), Command Data Set Type (0800), Status (0900), Event Type ID (1002), Attribute Identifier List
-- (1005), Action Type ID (1008)
abbrev pub needs : Message → List Need
needs EventReportRequest = has_us 0x0110 ∷ has_us 0x0800 ∷ has_us 0x1002 ∷ []
needs EventReportResponse = has_us 0x0120 ∷ has_us 0x0800 ∷ has_us 0x0900 ∷ may_have_us 0x1002 ∷ []
needs GetRequest = has_us 0x0110 ∷ has_us 0x0800 ∷ may_have_at 0x1005 ∷ []
needs GetResponse = has_us 0x0120 ∷ has_us 0x0800 ∷ has_us 0x0900 ∷ []
needs SetRequest = has_us 0x0110 ∷ has_us 0x0800 ∷ []
needs SetResponse = has_us 0x0120 ∷ has_us 0x0800 ∷ has_us 0x0900 ∷ []
needs ActionRequest = has_us 0x0110 ∷ has_us 0x0800 ∷ has_us 0x1008 ∷ []
needs ActionResponse = has_us 0x0120 ∷ has_us 0x0800 ∷ has_us 0x0900 ∷ has_us 0x1008 ∷ []
needs CreateRequest = has_us 0x0110 ∷ has_us 0x0800 ∷ []
needs CreateResponse = has_us 0x0120 ∷ has_us 0x0800 ∷ has_us 0x0900 ∷ []
needs EchoRequest = has_us 0x0110 ∷ has_us 0x0800 ∷ []
needs EchoResponse = has_us 0x0120 ∷ has_us 0x0800 ∷ has_us 0x0900 ∷ []
needs FindRequest = has_us 0x0110 ∷ may_have_us 0x0700 ∷ has_us 0x0800 ∷ []
needs FindResponse = has_us 0x0120 ∷ has_us 0x0800 ∷ has_us 0x0900 ∷ []
needs CancelRequest = has_us 0x0120 ∷ has_us 0x0800 ∷ []

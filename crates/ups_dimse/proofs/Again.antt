-- What is written is read again.
use Rattle.std.proofs.Common.{◌≡◌, ℕ, suc, ◌+◌, ◌^◌, ◌<◌, ◌≤◌, ◌%◌, eqb, cond, Bool, true, false, Option, None, Some, IfSome, List, [], ◌∷◌, ◌++◌, length, refl, sym, ap, subst, ◌∙◌, append_assoc, arith}
use Rattle.std.specs.Int.{w16, to_le_bytes}
use Rattle.std.specs.List.{flat_map}
use Rattle.std.specs.Option.{option_map, unwrap_or}
use Rattle.std.proofs.lemmas.Bool.{ne_eqb}
use Rattle.std.proofs.lemmas.Option.{none-some}
use Rattle.ups_pdu.specs.Each.{Each}
use Rattle.ups_pdu.specs.Identifier.{IsUid}
use Rattle.ups_dataset.specs.declared.tag.Tag.{Tag}
use Rattle.ups_dataset.specs.Limits.{undefined_length}
use Rattle.ups_dataset.specs.Tag.{tag_bytes}
use Rattle.ups_dimse.specs.declared.command.Command.{Command}
use Rattle.ups_dimse.specs.declared.command.Command.TheVariants.{Request, Response, Cancel}
use Rattle.ups_dimse.specs.declared.command.RequestCommand.{RequestCommand}
use Rattle.ups_dimse.specs.declared.command.ResponseCommand.{ResponseCommand}
use Rattle.ups_dimse.specs.declared.command.CancelCommand.{CancelCommand}
use Rattle.ups_dimse.specs.declared.command.Operation.{Operation}
use Rattle.ups_dimse.specs.declared.command.Operation.TheVariants as operations
use Rattle.ups_dimse.specs.declared.command.OperationResult.{OperationResult}
use Rattle.ups_dimse.specs.declared.command.OperationResult.TheVariants as results
use Rattle.ups_dimse.specs.declared.message.Message.{Message}
use Rattle.ups_dimse.specs.declared.message.Message.TheVariants.{EventReportRequest, EventReportResponse, GetRequest, GetResponse, SetRequest, SetResponse, ActionRequest, ActionResponse, CreateRequest, CreateResponse, EchoRequest, EchoResponse, FindRequest, FindResponse, CancelRequest}
use Rattle.ups_dimse.specs.Elements.{CommandElement, IsCommandElement, SpellsCommandElements, value_in}
use Rattle.ups_dimse.specs.Limits.{max_attributes}
use Rattle.ups_dimse.specs.Messages.{field_of}
use Rattle.ups_dimse.specs.Values.{MayHaveUs, HasUid, HasDataSet, IsTagAt}
use Rattle.ups_dimse.specs.Commands.{request_of, response_of, class_element, HasOperation, HasResult, IsRequest, IsResponse, IsCancel, IsCommand, SpellsCommand}
use Rattle.ups_dimse.specs.Held.{AreHeldTags, IsHeldOperation, IsHeldResult, IsHeldRequest, IsHeldResponse, IsHeldCancel, IsHeld}
use Rattle.ups_dimse.specs.Written.{written_command_element, us_element, optional_us_element, priority_of, padded_uid, uid_element, tags_element, data_set_element, operation_elements, result_elements, request_elements, response_elements, cancel_elements, command_elements, grouped, written_command, tags_of, FitsCommand}
use Rattle.ups_dimse.proofs.UidText.{padded_even, padded_short, padded_spells}
use Rattle.ups_dimse.proofs.Sizes.{length-tags}

-- elements that can stand in a command set, from a number on
pub record IsGood (e : CommandElement) : Type 0 where
  pub in_group : e.number < 2 ^ 16
  pub defined : length e.value < undefined_length
  pub even : length e.value % 2 ≡ 0

abbrev pub AreGood : ℕ → List CommandElement → Type 0
AreGood from [] = Unit {0}
AreGood from (e ∷ es) = IsGood e × (from ≤ e.number) × AreGood (e.number + 1) es

element_again : (e : CommandElement) (rest : List ℕ) → IsGood e → IsCommandElement (written_command_element e ++ rest) e rest
element_again e rest g = record { in_group = g.in_group; defined = g.defined; even = g.even; parts = simp append_assoc }

elements_again : (from : ℕ) (es : List CommandElement) → AreGood from es → SpellsCommandElements from (flat_map written_command_element es) es []
elements_again from [] g = refl
elements_again from (e ∷ es) g = (flat_map written_command_element es, element_again e (flat_map written_command_element es) g.0, g.1, elements_again (e.number + 1) es g.2)

lower : (low from : ℕ) (es : List CommandElement) → low ≤ from → AreGood from es → AreGood low es
lower low from [] l g = tt
lower low from (e ∷ es) l g = (g.0, omega (arith, l, g.1), g.2)

good_us : (from n v : ℕ) (es : List CommandElement) → n < 2 ^ 16 → from ≤ n → AreGood (n + 1) es → AreGood from (us_element n v ∷ es)
good_us from n v es small l g = (record { in_group = small; defined = omega arith; even = refl }, l, g)

good_optional_us : (from n : ℕ) (o : Option ℕ) (es : List CommandElement) → n < 2 ^ 16 → from ≤ n → AreGood (n + 1) es → AreGood from (optional_us_element n o ++ es)
good_optional_us from n None es small l g = lower from (n + 1) es (omega (arith, l)) g
good_optional_us from n (Some v) es small l g = good_us from n v es small l g

good_uid : (from n : ℕ) (o : Option (List ℕ)) (es : List CommandElement) → n < 2 ^ 16 → from ≤ n → IfSome o IsUid → AreGood (n + 1) es → AreGood from (uid_element n o ++ es)
good_uid from n None es small l h g = lower from (n + 1) es (omega (arith, l)) g
good_uid from n (Some u) es small l h g = (record { in_group = small; defined = omega (arith, padded_short u h); even = padded_even u h }, l, g)

good_tags : (from n : ℕ) (ts : List Tag) → n < 2 ^ 16 → from ≤ n → length ts ≤ max_attributes → AreGood from (tags_element n ts)
good_tags from n [] small l short = tt
good_tags from n (t ∷ ts) small l short = (record { in_group = small; defined = omega (arith, short, length-tags (t ∷ ts)); even = omega (arith, length-tags (t ∷ ts)) }, l, tt)

good_only_uid : (from n : ℕ) (o : Option (List ℕ)) → n < 2 ^ 16 → from ≤ n → IfSome o IsUid → AreGood from (uid_element n o)
good_only_uid from n None small l h = tt
good_only_uid from n (Some u) small l h = (record { in_group = small; defined = omega (arith, padded_short u h); even = padded_even u h }, l, tt)

good_only_us : (from n : ℕ) (o : Option ℕ) → n < 2 ^ 16 → from ≤ n → AreGood from (optional_us_element n o)
good_only_us from n None small l = tt
good_only_us from n (Some v) small l = good_us from n v [] small l tt

good_operation : {A : Type 0} (o : Operation A) → length (tags_of o) ≤ max_attributes → IsHeldOperation o → AreGood 0x0801 (operation_elements o)
good_operation (operations.EventReport i v) short h = good_uid 0x0801 0x1000 i (us_element 0x1002 v ∷ []) (omega arith) (omega arith) h.0 (good_us 0x1001 0x1002 v [] (omega arith) (omega arith) tt)
good_operation (operations.Create i) short h = good_only_uid 0x0801 0x1000 i (omega arith) (omega arith) h
good_operation (operations.Get i ts) short h = good_uid 0x0801 0x1001 i (tags_element 0x1005 ts) (omega arith) (omega arith) h.0 (good_tags 0x1002 0x1005 ts (omega arith) (omega arith) short)
good_operation (operations.Set i) short h = good_only_uid 0x0801 0x1001 i (omega arith) (omega arith) h
good_operation (operations.Action i a) short h = good_uid 0x0801 0x1001 i (us_element 0x1008 a ∷ []) (omega arith) (omega arith) h.0 (good_us 0x1002 0x1008 a [] (omega arith) (omega arith) tt)
good_operation operations.Echo short h = tt
good_operation (operations.Find p) short h = tt

good_result : (o : OperationResult) → IsHeldResult o → AreGood 0x0901 (result_elements o)
good_result (results.EventReport i v) h = good_uid 0x0901 0x1000 i (optional_us_element 0x1002 v) (omega arith) (omega arith) h.0 (good_only_us 0x1001 0x1002 v (omega arith) (omega arith))
good_result (results.Create i) h = good_only_uid 0x0901 0x1000 i (omega arith) (omega arith) h
good_result (results.Get i) h = good_only_uid 0x0901 0x1000 i (omega arith) (omega arith) h
good_result (results.Set i) h = good_only_uid 0x0901 0x1000 i (omega arith) (omega arith) h
good_result (results.Action i a) h = good_uid 0x0901 0x1000 i (us_element 0x1008 a ∷ []) (omega arith) (omega arith) h.0 (good_us 0x1001 0x1008 a [] (omega arith) (omega arith) tt)
good_result results.Echo h = tt
good_result results.Find h = tt

class_low : {A : Type 0} (o : Operation A) → (1 ≤ class_element o) × (class_element o + 1 ≤ 0x0100)
class_low (operations.EventReport i v) = (omega arith, omega arith)
class_low (operations.Create i) = (omega arith, omega arith)
class_low (operations.Get i ts) = (omega arith, omega arith)
class_low (operations.Set i) = (omega arith, omega arith)
class_low (operations.Action i a) = (omega arith, omega arith)
class_low operations.Echo = (omega arith, omega arith)
class_low (operations.Find p) = (omega arith, omega arith)

good_command : {A : Type 0} (c : Command A) → FitsCommand c → IsHeld c → AreGood 1 (command_elements c)
good_command (Request r) fits h =
    let low = class_low r.operation in
    let own = operation_elements r.operation in
    let there = data_set_element r.has_data_set in
    let id = us_element 0x0110 r.message_id in
    let field = us_element 0x0100 (field_of (request_of r.operation)) in
    let priority = optional_us_element 0x0700 (priority_of r.operation) in
    good_uid 1 (class_element r.operation) r.sop_class (field ∷ id ∷ (priority ++ (there ∷ own))) (omega (arith, low.1)) low.0 h.sop_class
    (good_us (class_element r.operation + 1) 0x0100 (field_of (request_of r.operation)) (id ∷ (priority ++ (there ∷ own))) (omega arith) low.1
    (good_us 0x0101 0x0110 r.message_id (priority ++ (there ∷ own)) (omega arith) (omega arith)
    (good_optional_us 0x0111 0x0700 (priority_of r.operation) (there ∷ own) (omega arith) (omega arith)
    (good_us 0x0701 0x0800 (cond r.has_data_set 0x0001 0x0101) own (omega arith) (omega arith) (good_operation r.operation fits h.operation)))))
good_command (Response r) fits h =
    let own = result_elements r.result in
    let status = us_element 0x0900 r.status in
    let there = data_set_element r.has_data_set in
    let id = us_element 0x0120 r.responded_to in
    let field = us_element 0x0100 (field_of (response_of r.result)) in
    good_uid 1 0x0002 r.sop_class (field ∷ id ∷ there ∷ status ∷ own) (omega arith) (omega arith) h.sop_class
    (good_us 0x0003 0x0100 (field_of (response_of r.result)) (id ∷ there ∷ status ∷ own) (omega arith) (omega arith)
    (good_us 0x0101 0x0120 r.responded_to (there ∷ status ∷ own) (omega arith) (omega arith)
    (good_us 0x0121 0x0800 (cond r.has_data_set 0x0001 0x0101) (status ∷ own) (omega arith) (omega arith)
    (good_us 0x0801 0x0900 r.status own (omega arith) (omega arith) (good_result r.result h.operation)))))
good_command (Cancel c) fits h =
    let there = data_set_element c.has_data_set in
    let id = us_element 0x0120 c.responded_to in
    good_us 1 0x0100 (field_of CancelRequest) (id ∷ there ∷ []) (omega arith) (omega arith)
    (good_us 0x0101 0x0120 c.responded_to (there ∷ []) (omega arith) (omega arith)
    (good_us 0x0121 0x0800 (cond c.has_data_set 0x0001 0x0101) [] (omega arith) (omega arith) tt))

good_grouped : (es : List CommandElement) → AreGood 1 es → AreGood 0 (grouped es)
good_grouped es g = (record { in_group = omega arith; defined = omega arith; even = refl }, omega arith, g)

-- a UID and tags, by the value that is written
uid_by : (es : List CommandElement) (n : ℕ) (o : Option (List ℕ)) → IfSome o IsUid → value_in n es ≡ option_map padded_uid o → HasUid es n o
uid_by es n None h e = λ v is u s. none-some v (sym e ∙ is)
uid_by es n (Some u) h e = (padded_uid u, e, padded_spells u h)

tags_again : (ts : List Tag) → AreHeldTags ts → Each IsTagAt (flat_map tag_bytes ts) ts
tags_again [] h = refl
tags_again (t ∷ ts) h =
    let front = h 0 t (omega arith) in
    (flat_map tag_bytes ts, record { group_fits = front.group_fits; element_fits = front.element_fits; parts = refl }, tags_again ts (λ k d l. h (suc k) d (omega (arith, l))))

-- a UID that is absent or stands before does not hide an element of another number
past : (n k : ℕ) (o : Option (List ℕ)) (es : List CommandElement) → eqb k n ≡ false → value_in n (uid_element k o ++ es) ≡ value_in n es
past n k None es e = refl
past n k (Some u) es e = ap (λ (b : Bool). cond b (Some (padded_uid u)) (value_in n es)) e

here : (n : ℕ) (o : Option (List ℕ)) (es : List CommandElement) → eqb n n ≡ true → value_in n es ≡ None → value_in n (uid_element n o ++ es) ≡ option_map padded_uid o
here n None es e none = none
here n (Some u) es e none = ap (λ (b : Bool). cond b (Some (padded_uid u)) (value_in n es)) e

only_here : (n : ℕ) (o : Option (List ℕ)) → eqb n n ≡ true → value_in n (uid_element n o) ≡ option_map padded_uid o
only_here n None e = refl
only_here n (Some u) e = ap (λ (b : Bool). cond b (Some (padded_uid u)) None) e

not_uid : (n k : ℕ) (o : Option (List ℕ)) → eqb k n ≡ false → value_in n (uid_element k o) ≡ None
not_uid n k None e = refl
not_uid n k (Some u) e = ap (λ (b : Bool). cond b (Some (padded_uid u)) None) e

not_tags : (n k : ℕ) (ts : List Tag) → eqb k n ≡ false → value_in n (tags_element k ts) ≡ None
not_tags n k [] e = refl
not_tags n k (t ∷ ts) e = ap (λ (b : Bool). cond b (Some (flat_map tag_bytes (t ∷ ts))) None) e

tags_value : (n : ℕ) (ts : List Tag) → eqb n n ≡ true → unwrap_or (value_in n (tags_element n ts)) [] ≡ flat_map tag_bytes ts
tags_value n [] e = refl
tags_value n (t ∷ ts) e = ap (λ (b : Bool). unwrap_or (cond b (Some (flat_map tag_bytes (t ∷ ts))) None) []) e

data_set_again : (es : List CommandElement) (there : Bool) → value_in 0x0800 es ≡ Some (to_le_bytes w16 (cond there 0x0001 0x0101)) → HasDataSet es there
data_set_again es true e = (0x0001, record { fits = omega arith; is = e }, refl)
data_set_again es false e = (0x0101, record { fits = omega arith; is = e }, refl)

field_small : (m : Message) → field_of m < 2 ^ 16
field_small EventReportRequest = omega arith
field_small EventReportResponse = omega arith
field_small GetRequest = omega arith
field_small GetResponse = omega arith
field_small SetRequest = omega arith
field_small SetResponse = omega arith
field_small ActionRequest = omega arith
field_small ActionResponse = omega arith
field_small CreateRequest = omega arith
field_small CreateResponse = omega arith
field_small EchoRequest = omega arith
field_small EchoResponse = omega arith
field_small FindRequest = omega arith
field_small FindResponse = omega arith
field_small CancelRequest = omega arith

-- an element does not hide one of another number behind it
skip : (n k : ℕ) (v : List ℕ) (es : List CommandElement) → eqb k n ≡ false → value_in n (record { number = k; value = v } ∷ es) ≡ value_in n es
skip n k v es e = ap (λ (b : Bool). cond b (Some v) (value_in n es)) e

-- nor does a number that may be absent
past_us : (n k : ℕ) (o : Option ℕ) (es : List CommandElement) → eqb k n ≡ false → value_in n (optional_us_element k o ++ es) ≡ value_in n es
past_us n k None es e = refl
past_us n k (Some v) es e = skip n k (to_le_bytes w16 v) es e

not_us : (n k : ℕ) (o : Option ℕ) → eqb k n ≡ false → value_in n (optional_us_element k o) ≡ None
not_us n k None e = refl
not_us n k (Some v) e = skip n k (to_le_bytes w16 v) [] e

only_us : (n : ℕ) (o : Option ℕ) → eqb n n ≡ true → value_in n (optional_us_element n o) ≡ option_map (to_le_bytes w16) o
only_us n None same = refl
only_us n (Some v) same = ap (λ b. cond b (Some (to_le_bytes w16 v)) None) same

-- the elements that are an operation's own, by a number that they may have
own_none : {A : Type 0} (n : ℕ) (o : Operation A) → n < 0x1000 → value_in n (operation_elements o) ≡ None
own_none n (operations.EventReport i v) l =
    past n 0x1000 i (us_element 0x1002 v ∷ []) (ne_eqb 0x1000 n (λ e. omega (arith, l, e))) ∙ skip n 0x1002 (to_le_bytes w16 v) [] (ne_eqb 0x1002 n (λ e. omega (arith, l, e)))
own_none n (operations.Create i) l = not_uid n 0x1000 i (ne_eqb 0x1000 n (λ e. omega (arith, l, e)))
own_none n (operations.Get i ts) l =
    past n 0x1001 i (tags_element 0x1005 ts) (ne_eqb 0x1001 n (λ e. omega (arith, l, e))) ∙ not_tags n 0x1005 ts (ne_eqb 0x1005 n (λ e. omega (arith, l, e)))
own_none n (operations.Set i) l = not_uid n 0x1001 i (ne_eqb 0x1001 n (λ e. omega (arith, l, e)))
own_none n (operations.Action i a) l =
    past n 0x1001 i (us_element 0x1008 a ∷ []) (ne_eqb 0x1001 n (λ e. omega (arith, l, e))) ∙ skip n 0x1008 (to_le_bytes w16 a) [] (ne_eqb 0x1008 n (λ e. omega (arith, l, e)))
own_none n operations.Echo l = refl
own_none n (operations.Find p) l = refl

own_result_none : (n : ℕ) (o : OperationResult) → n < 0x1000 → value_in n (result_elements o) ≡ None
own_result_none n (results.EventReport i v) l =
    past n 0x1000 i (optional_us_element 0x1002 v) (ne_eqb 0x1000 n (λ e. omega (arith, l, e))) ∙ not_us n 0x1002 v (ne_eqb 0x1002 n (λ e. omega (arith, l, e)))
own_result_none n (results.Create i) l = not_uid n 0x1000 i (ne_eqb 0x1000 n (λ e. omega (arith, l, e)))
own_result_none n (results.Get i) l = not_uid n 0x1000 i (ne_eqb 0x1000 n (λ e. omega (arith, l, e)))
own_result_none n (results.Set i) l = not_uid n 0x1000 i (ne_eqb 0x1000 n (λ e. omega (arith, l, e)))
own_result_none n (results.Action i a) l =
    past n 0x1000 i (us_element 0x1008 a ∷ []) (ne_eqb 0x1000 n (λ e. omega (arith, l, e))) ∙ skip n 0x1008 (to_le_bytes w16 a) [] (ne_eqb 0x1008 n (λ e. omega (arith, l, e)))
own_result_none n results.Echo l = refl
own_result_none n results.Find l = refl

-- the numbers behind the class
after_class : {A : Type 0} (r : RequestCommand A) (n : ℕ) → 0x0100 ≤ n → value_in n (grouped (request_elements r)) ≡ value_in n (us_element 0x0100 (field_of (request_of r.operation)) ∷ us_element 0x0110 r.message_id ∷ (optional_us_element 0x0700 (priority_of r.operation) ++ (data_set_element r.has_data_set ∷ operation_elements r.operation)))
after_class r n l =
    skip n 0x0000 _ (request_elements r) (ne_eqb 0x0000 n (λ e. omega (arith, l, e)))
    ∙ past n (class_element r.operation) r.sop_class _ (ne_eqb (class_element r.operation) n (λ e. omega (arith, l, e, class_low r.operation)))

-- the numbers behind the message ID
after_id : {A : Type 0} (r : RequestCommand A) (n : ℕ) → 0x0111 ≤ n → value_in n (grouped (request_elements r)) ≡ value_in n (optional_us_element 0x0700 (priority_of r.operation) ++ (data_set_element r.has_data_set ∷ operation_elements r.operation))
after_id r n l =
    let behind = optional_us_element 0x0700 (priority_of r.operation) ++ (data_set_element r.has_data_set ∷ operation_elements r.operation) in
    let id = us_element 0x0110 r.message_id in
    let field = us_element 0x0100 (field_of (request_of r.operation)) in
    after_class r n (omega (arith, l))
    ∙ skip n 0x0100 field.value (id ∷ behind) (ne_eqb 0x0100 n (λ e. omega (arith, l, e)))
    ∙ skip n 0x0110 id.value behind (ne_eqb 0x0110 n (λ e. omega (arith, l, e)))

-- the numbers behind the priority
after_priority : {A : Type 0} (r : RequestCommand A) (n : ℕ) → 0x0701 ≤ n → value_in n (grouped (request_elements r)) ≡ value_in n (data_set_element r.has_data_set ∷ operation_elements r.operation)
after_priority r n l =
    after_id r n (omega (arith, l))
    ∙ past_us n 0x0700 (priority_of r.operation) (data_set_element r.has_data_set ∷ operation_elements r.operation) (ne_eqb 0x0700 n (λ e. omega (arith, l, e)))

own_in_request : {A : Type 0} (r : RequestCommand A) (n : ℕ) → 0x1000 ≤ n → value_in n (grouped (request_elements r)) ≡ value_in n (operation_elements r.operation)
own_in_request r n l =
    after_priority r n (omega (arith, l))
    ∙ skip n 0x0800 (data_set_element r.has_data_set).value (operation_elements r.operation) (ne_eqb 0x0800 n (λ e. omega (arith, l, e)))

after_affected : (r : ResponseCommand) (n : ℕ) → 0x0100 ≤ n → value_in n (grouped (response_elements r)) ≡ value_in n (us_element 0x0100 (field_of (response_of r.result)) ∷ us_element 0x0120 r.responded_to ∷ data_set_element r.has_data_set ∷ us_element 0x0900 r.status ∷ result_elements r.result)
after_affected r n l =
    skip n 0x0000 _ (response_elements r) (ne_eqb 0x0000 n (λ e. omega (arith, l, e)))
    ∙ past n 0x0002 r.sop_class _ (ne_eqb 0x0002 n (λ e. omega (arith, l, e)))

own_in_response : (r : ResponseCommand) (n : ℕ) → 0x1000 ≤ n → value_in n (grouped (response_elements r)) ≡ value_in n (result_elements r.result)
own_in_response r n l =
    let own = result_elements r.result in
    let status = us_element 0x0900 r.status in
    let there = data_set_element r.has_data_set in
    let id = us_element 0x0120 r.responded_to in
    let field = us_element 0x0100 (field_of (response_of r.result)) in
    after_affected r n (omega (arith, l))
    ∙ skip n 0x0100 field.value (id ∷ there ∷ status ∷ own) (ne_eqb 0x0100 n (λ e. omega (arith, l, e)))
    ∙ skip n 0x0120 id.value (there ∷ status ∷ own) (ne_eqb 0x0120 n (λ e. omega (arith, l, e)))
    ∙ skip n 0x0800 there.value (status ∷ own) (ne_eqb 0x0800 n (λ e. omega (arith, l, e)))
    ∙ skip n 0x0900 status.value own (ne_eqb 0x0900 n (λ e. omega (arith, l, e)))

-- a number that may be absent, by the value that is written
us_by : (es : List CommandElement) (n : ℕ) (o : Option ℕ) → IfSome o (λ v. v < 2 ^ 16) → value_in n es ≡ option_map (to_le_bytes w16) o → MayHaveUs es n o
us_by es n None h e = e
us_by es n (Some v) h e = record { fits = h; is = e }

operation_again : {A : Type 0} (es : List CommandElement) (o : Operation A) → ((n : ℕ) → 0x1000 ≤ n → value_in n es ≡ value_in n (operation_elements o)) → MayHaveUs es 0x0700 (priority_of o) → IsHeldOperation o → HasOperation es o
operation_again es (operations.EventReport i v) same u h = (
  uid_by es 0x1000 i h.0 (same 0x1000 (omega arith) ∙ here 0x1000 i (us_element 0x1002 v ∷ []) refl refl),
  record { fits = h.1; is = same 0x1002 (omega arith) ∙ past 0x1002 0x1000 i (us_element 0x1002 v ∷ []) refl },
)
operation_again es (operations.Create i) same u h = uid_by es 0x1000 i h (same 0x1000 (omega arith) ∙ only_here 0x1000 i refl)
operation_again es (operations.Get i ts) same u h = (
  uid_by es 0x1001 i h.0 (same 0x1001 (omega arith) ∙ here 0x1001 i (tags_element 0x1005 ts) refl (not_tags 0x1001 0x1005 ts refl)),
  subst (λ (l : List ℕ). Each IsTagAt l ts) (sym (ap (λ (o : Option (List ℕ)). unwrap_or o []) (same 0x1005 (omega arith) ∙ past 0x1005 0x1001 i (tags_element 0x1005 ts) refl) ∙ tags_value 0x1005 ts refl)) (tags_again ts h.1),
)
operation_again es (operations.Set i) same u h = uid_by es 0x1001 i h (same 0x1001 (omega arith) ∙ only_here 0x1001 i refl)
operation_again es (operations.Action i a) same u h = (
  uid_by es 0x1001 i h.0 (same 0x1001 (omega arith) ∙ here 0x1001 i (us_element 0x1008 a ∷ []) refl refl),
  record { fits = h.1; is = same 0x1008 (omega arith) ∙ past 0x1008 0x1001 i (us_element 0x1008 a ∷ []) refl },
)
operation_again es operations.Echo same u h = tt
operation_again es (operations.Find p) same u h = u

result_again : (es : List CommandElement) (o : OperationResult) → ((n : ℕ) → 0x1000 ≤ n → value_in n es ≡ value_in n (result_elements o)) → IsHeldResult o → HasResult es o
result_again es (results.EventReport i v) same h = (
  uid_by es 0x1000 i h.0 (same 0x1000 (omega arith) ∙ here 0x1000 i (optional_us_element 0x1002 v) refl (not_us 0x1000 0x1002 v refl)),
  us_by es 0x1002 v h.1 (same 0x1002 (omega arith) ∙ past 0x1002 0x1000 i (optional_us_element 0x1002 v) refl ∙ only_us 0x1002 v refl),
)
result_again es (results.Create i) same h = uid_by es 0x1000 i h (same 0x1000 (omega arith) ∙ only_here 0x1000 i refl)
result_again es (results.Get i) same h = uid_by es 0x1000 i h (same 0x1000 (omega arith) ∙ only_here 0x1000 i refl)
result_again es (results.Set i) same h = uid_by es 0x1000 i h (same 0x1000 (omega arith) ∙ only_here 0x1000 i refl)
result_again es (results.Action i a) same h = (
  uid_by es 0x1000 i h.0 (same 0x1000 (omega arith) ∙ here 0x1000 i (us_element 0x1008 a ∷ []) refl refl),
  record { fits = h.1; is = same 0x1008 (omega arith) ∙ past 0x1008 0x1000 i (us_element 0x1008 a ∷ []) refl },
)
result_again es results.Echo same h = tt
result_again es results.Find same h = tt

-- the priority as it is written
us_value : {A : Type 0} (p : Option ℕ) (there : Bool) (o : Operation A) → value_in 0x0700 (optional_us_element 0x0700 p ++ (data_set_element there ∷ operation_elements o)) ≡ option_map (to_le_bytes w16) p
us_value None there o = own_none 0x0700 o (omega arith)
us_value (Some v) there o = refl

-- the class of a request stands first, and nowhere else
class_by_operation : {A : Type 0} (sop_class : Option (List ℕ)) (id : ℕ) (there : Bool) (o : Operation A)
    → value_in (class_element o) (grouped (uid_element (class_element o) sop_class ++ (us_element 0x0100 (field_of (request_of o)) ∷ us_element 0x0110 id ∷ (optional_us_element 0x0700 (priority_of o) ++ (data_set_element there ∷ operation_elements o))))) ≡ option_map padded_uid sop_class
class_by_operation sop_class id there (operations.EventReport i v) =
    here 0x0002 sop_class (us_element 0x0100 0x0100 ∷ us_element 0x0110 id ∷ data_set_element there ∷ (uid_element 0x1000 i ++ us_element 0x1002 v ∷ [])) refl (own_none {A = ℕ} 0x0002 (operations.EventReport i v) (omega arith))
class_by_operation sop_class id there (operations.Create i) =
    here 0x0002 sop_class (us_element 0x0100 0x0140 ∷ us_element 0x0110 id ∷ data_set_element there ∷ uid_element 0x1000 i) refl (own_none {A = ℕ} 0x0002 (operations.Create i) (omega arith))
class_by_operation sop_class id there (operations.Get i ts) =
    here 0x0003 sop_class (us_element 0x0100 0x0110 ∷ us_element 0x0110 id ∷ data_set_element there ∷ (uid_element 0x1001 i ++ tags_element 0x1005 ts)) refl (own_none {A = ℕ} 0x0003 (operations.Get i ts) (omega arith))
class_by_operation sop_class id there (operations.Set i) =
    here 0x0003 sop_class (us_element 0x0100 0x0120 ∷ us_element 0x0110 id ∷ data_set_element there ∷ uid_element 0x1001 i) refl (own_none {A = ℕ} 0x0003 (operations.Set i) (omega arith))
class_by_operation sop_class id there (operations.Action i a) =
    here 0x0003 sop_class (us_element 0x0100 0x0130 ∷ us_element 0x0110 id ∷ data_set_element there ∷ (uid_element 0x1001 i ++ us_element 0x1008 a ∷ [])) refl (own_none {A = ℕ} 0x0003 (operations.Action i a) (omega arith))
class_by_operation sop_class id there operations.Echo =
    here 0x0002 sop_class (us_element 0x0100 0x0030 ∷ us_element 0x0110 id ∷ data_set_element there ∷ []) refl (own_none {A = ℕ} 0x0002 operations.Echo (omega arith))
class_by_operation sop_class id there (operations.Find p) =
    here 0x0002 sop_class (us_element 0x0100 0x0020 ∷ us_element 0x0110 id ∷ (optional_us_element 0x0700 p ++ (data_set_element there ∷ []))) refl (past_us 0x0002 0x0700 p (data_set_element there ∷ []) refl)

class_in_request : {A : Type 0} (r : RequestCommand A) → value_in (class_element r.operation) (grouped (request_elements r)) ≡ option_map padded_uid r.sop_class
class_in_request r = class_by_operation r.sop_class r.message_id r.has_data_set r.operation

request_again : {A : Type 0} (r : RequestCommand A) → IsHeldRequest r → IsRequest (grouped (request_elements r)) r
request_again r h = record {
  sop_class = uid_by (grouped (request_elements r)) (class_element r.operation) r.sop_class h.sop_class (class_in_request r);
  field = record { fits = field_small (request_of r.operation); is = after_class r 0x0100 (omega arith) };
  message_id = record { fits = h.message_id; is = after_class r 0x0110 (omega arith) };
  data_set = data_set_again (grouped (request_elements r)) r.has_data_set (after_priority r 0x0800 (omega arith));
  operation = operation_again (grouped (request_elements r)) r.operation (own_in_request r) (us_by (grouped (request_elements r)) 0x0700 (priority_of r.operation) h.priority (after_id r 0x0700 (omega arith) ∙ us_value (priority_of r.operation) r.has_data_set r.operation)) h.operation;
}

response_again : (r : ResponseCommand) → IsHeldResponse r → IsResponse (grouped (response_elements r)) r
response_again r h = record {
  sop_class = uid_by (grouped (response_elements r)) 0x0002 r.sop_class h.sop_class (here 0x0002 r.sop_class (us_element 0x0100 (field_of (response_of r.result)) ∷ us_element 0x0120 r.responded_to ∷ data_set_element r.has_data_set ∷ us_element 0x0900 r.status ∷ result_elements r.result) refl (own_result_none 0x0002 r.result (omega arith)));
  field = record { fits = field_small (response_of r.result); is = after_affected r 0x0100 (omega arith) };
  responded_to = record { fits = h.responded_to; is = after_affected r 0x0120 (omega arith) };
  data_set = data_set_again (grouped (response_elements r)) r.has_data_set (after_affected r 0x0800 (omega arith));
  status = record { fits = h.status; is = after_affected r 0x0900 (omega arith) };
  operation = result_again (grouped (response_elements r)) r.result (own_in_response r) h.operation;
}

cancel_again : (c : CancelCommand) → IsHeldCancel c → IsCancel (grouped (cancel_elements c)) c
cancel_again c h = record {
  field = record { fits = omega arith; is = refl };
  responded_to = record { fits = h.responded_to; is = refl };
  data_set = data_set_again (grouped (cancel_elements c)) c.has_data_set refl;
}

command_again : {A : Type 0} (c : Command A) → IsHeld c → IsCommand (grouped (command_elements c)) c
command_again (Request r) h = request_again r h
command_again (Response r) h = response_again r h
command_again (Cancel c) h = cancel_again c h

-- what is written is read as the same command
pub again : {A : Type 0} (bytes : List ℕ) (c : Command A) → FitsCommand c → IsHeld c → bytes ≡ written_command c → SpellsCommand bytes c
again bytes c fits h e = record {
  elements = grouped (command_elements c);
  spelled = subst (λ (b : List ℕ). SpellsCommandElements 0 b (grouped (command_elements c)) []) (sym e) (elements_again 0 (grouped (command_elements c)) (good_grouped (command_elements c) (good_command c fits h)));
  is = command_again c h;
}

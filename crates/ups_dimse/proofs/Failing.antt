-- What is spelled has no fault.
use Rattle.std.proofs.Common.{◌≡◌, ◌≢◌, ℕ, inl, inr, ◌⊎◌, Option, None, Some, List, [], ◌∷◌, Result, Ok, Err, length, refl, sym, ap, subst, ◌∙◌, arith, MatchResult, IfErr}
use Rattle.std.specs.Int.{w16, to_le_bytes}
use Rattle.std.specs.Option.{unwrap_or}
use Rattle.std.proofs.lemmas.Option.{same_Some, none-some}
use Rattle.ups_dataset.specs.declared.tag.Tag.{Tag}
use Rattle.ups_dimse.specs.declared.fault.DimseFault.{DimseFault}
use Rattle.ups_dimse.specs.declared.fault.DimseFault.TheVariants.{Missing, BadValue, UnknownField, Memory}
use Rattle.ups_dimse.specs.declared.command.Command.{Command}
use Rattle.ups_dimse.specs.declared.command.Command.TheVariants.{Request, Response, Cancel}
use Rattle.ups_dimse.specs.declared.command.Operation.{Operation}
use Rattle.ups_dimse.specs.declared.command.Operation.TheVariants as operations
use Rattle.ups_dimse.specs.declared.command.OperationResult.{OperationResult}
use Rattle.ups_dimse.specs.declared.command.OperationResult.TheVariants as results
use Rattle.ups_dimse.specs.declared.message.Message.{Message}
use Rattle.ups_dimse.specs.declared.message.Message.TheVariants.{GetRequest}
use Rattle.ups_dimse.specs.Elements.{CommandElement, SpellsCommandElements}
use Rattle.ups_dimse.specs.Messages.{Need, has_us, may_have_us, may_have_at, field_of, needs}
use Rattle.ups_dimse.specs.Values.{HasUs, UsFails, MayHaveUs, PresentUsFails, HasUid, HasDataSet, HasTags, TagsFail}
use Rattle.ups_dimse.specs.Commands.{request_of, response_of, IsCommand, SpellsCommand, HasOperation, HasResult}
use Rattle.ups_dimse.specs.Faults.{MeetsNeed, Fails, FirstFails, CommandElementsFail, IsCommandFault, ReadsOrFails}
use Rattle.ups_dimse.proofs.AttributeTags.{tags_fours}
use Rattle.ups_dimse.proofs.Unique.{one_us, one_message, one_command, message_of, command_field}
use Rattle.ups_dimse.proofs.Walk.{one_list}

us_no : (es : List CommandElement) (n v : ℕ) (f : DimseFault) → HasUs es n v → UsFails es n f → ⊥
us_no es n v (Missing tag) h k = let e : Some (to_le_bytes w16 v) ≡ None = sym h.is ∙ k.1 in cc
us_no es n v (BadValue tag) h k = k.3 (ap length (same_Some k.1 (to_le_bytes w16 v) (sym k.2 ∙ h.is)))
us_no es n v UnknownField h k = absurd k
us_no es n v Memory h k = absurd k

present_us_no : (es : List CommandElement) (n : ℕ) (o : Option ℕ) (f : DimseFault) → MayHaveUs es n o → PresentUsFails es n f → ⊥
present_us_no es n (Some v) f h k = k.3 (ap length (same_Some k.1 (to_le_bytes w16 v) (sym k.2 ∙ h.is)))
present_us_no es n None f h k = none-some k.1 (sym h ∙ k.2)

need_no : (es : List CommandElement) (need : Need) (f : DimseFault) → MeetsNeed es need → Fails es need f → ⊥
need_no es (has_us n) f h k = us_no es n h.0 f h.1 k
need_no es (may_have_us n) f h k = present_us_no es n h.0 f h.1 k
need_no es (may_have_at n) f h k = k.3 (tags_fours k.1 h.0 (subst (λ (o : Option (List ℕ)). Rattle.ups_pdu.specs.Each.Each Rattle.ups_dimse.specs.Values.IsTagAt (unwrap_or o []) h.0) k.2 h.1))

-- all the elements are as the message needs them
abbrev pub AllHold : List CommandElement → List Need → Type 0
AllHold es [] = Unit {0}
AllHold es (need ∷ more) = MeetsNeed es need × AllHold es more

all_no : (es : List CommandElement) (ns : List Need) (f : DimseFault) → AllHold es ns → FirstFails es ns f → ⊥
all_no es [] f h k = k
all_no es (need ∷ more) f h (inl k) = need_no es need f h.0 k
all_no es (need ∷ more) f h (inr k) = all_no es more f h.1 k.1

operation_holds : {A : Type 0} (es : List CommandElement) (o : Operation A) (id : ℕ) (there : Rattle.std.proofs.Common.Bool) → HasUs es 0x0110 id → HasDataSet es there → HasOperation es o → AllHold es (needs (request_of o))
operation_holds es (operations.EventReport i v) id there h d k = ((id, h), ((d.0, d.1), ((v, k.1), tt)))
operation_holds es (operations.Create i) id there h d k = ((id, h), ((d.0, d.1), tt))
operation_holds es (operations.Get i ts) id there h d k = ((id, h), ((d.0, d.1), ((ts, k.1), tt)))
operation_holds es (operations.Set i) id there h d k = ((id, h), ((d.0, d.1), tt))
operation_holds es (operations.Action i a) id there h d k = ((id, h), ((d.0, d.1), ((a, k.1), tt)))
operation_holds es operations.Echo id there h d k = ((id, h), ((d.0, d.1), tt))
operation_holds es (operations.Find p) id there h d k = ((id, h), ((p, k), ((d.0, d.1), tt)))

result_holds : (es : List CommandElement) (o : OperationResult) (id status : ℕ) (there : Rattle.std.proofs.Common.Bool) → HasUs es 0x0120 id → HasDataSet es there → HasUs es 0x0900 status → HasResult es o → AllHold es (needs (response_of o))
result_holds es (results.EventReport i v) id status there h d s k = ((id, h), ((d.0, d.1), ((status, s), ((v, k.1), tt))))
result_holds es (results.Create i) id status there h d s k = ((id, h), ((d.0, d.1), ((status, s), tt)))
result_holds es (results.Get i) id status there h d s k = ((id, h), ((d.0, d.1), ((status, s), tt)))
result_holds es (results.Set i) id status there h d s k = ((id, h), ((d.0, d.1), ((status, s), tt)))
result_holds es (results.Action i a) id status there h d s k = ((id, h), ((d.0, d.1), ((status, s), ((a, k.1), tt))))
result_holds es results.Echo id status there h d s k = ((id, h), ((d.0, d.1), ((status, s), tt)))
result_holds es results.Find id status there h d s k = ((id, h), ((d.0, d.1), ((status, s), tt)))

command_holds : {A : Type 0} (es : List CommandElement) (c : Command A) → IsCommand es c → AllHold es (needs (message_of c))
command_holds es (Request r) p = operation_holds es r.operation r.message_id r.has_data_set p.message_id p.data_set p.operation
command_holds es (Response r) p = result_holds es r.result r.responded_to r.status r.has_data_set p.responded_to p.data_set p.status p.operation
command_holds es (Cancel c) p = ((c.responded_to, p.responded_to), ((p.data_set.0, p.data_set.1), tt))

elements_no : {A : Type 0} (es : List CommandElement) (c : Command A) (f : DimseFault) → IsCommand es c → CommandElementsFail es f → ⊥
elements_no es c f p (inl k) = us_no es 0x0100 _ f (command_field es c p) k
elements_no es c f p (inr (inl k)) = k.2 (message_of c) (one_us es 0x0100 _ k.0 (command_field es c p) k.1)
elements_no es c f p (inr (inr k)) =
    let same = one_message k.0 (message_of c) (one_us es 0x0100 _ _ k.1 (command_field es c p)) in
    all_no es (needs (message_of c)) f (command_holds es c p) (subst (λ (m : Message). FirstFails es (needs m) f) same k.2)

-- the elements of bytes that spell a command are not at fault
pub spelled_no : {A : Type 0} (bytes : List ℕ) (c : Command A) (es : List CommandElement) (f : DimseFault) → SpellsCommand bytes c → SpellsCommandElements 0 bytes es [] → CommandElementsFail es f → ⊥
spelled_no bytes c es f p s k = elements_no p.elements c f p.is (subst (λ (l : List CommandElement). CommandElementsFail l f) (one_list 0 bytes es p.elements s p.spelled) k)

-- the last step of reading
pub only_command : {A : Type 0} (bytes : List ℕ) (m : Message) (es : List CommandElement) → SpellsCommandElements 0 bytes es [] → HasUs es 0x0100 (field_of m)
    → (r : Result (Command A) DimseFault) → ReadsOrFails (IsCommand es) (FirstFails es (needs m)) r → (c : Command A) → SpellsCommand bytes c → MatchResult r (λ x. x ≡ c) (λ e. e ≡ Memory)
only_command bytes m es s h (Ok x) g c p = one_command bytes x c (record { elements = es; spelled = s; is = g }) p
only_command bytes m es s h (Err e) (inl g) c p = g.0
only_command bytes m es s h (Err e) (inr g) c p = absurd (spelled_no bytes c es e p s (inr (inr (m, h, g))))

pub fault_command : {A : Type 0} (bytes : List ℕ) (m : Message) (es : List CommandElement) → SpellsCommandElements 0 bytes es [] → HasUs es 0x0100 (field_of m)
    → (r : Result (Command A) DimseFault) → ReadsOrFails (IsCommand es) (FirstFails es (needs m)) r → IfErr r (IsCommandFault A bytes)
fault_command bytes m es s h (Ok x) g = tt
fault_command bytes m es s h (Err e) (inl g) = inl (g.0, g.1, record { elements = es; spelled = s; is = g.2 })
fault_command bytes m es s h (Err e) (inr g) = inr (inr (es, s, inr (inr (m, h, g))))

-- what a request for attributes fails by, once the elements before the list hold
pub get_fails : {A : Type 0} (es : List CommandElement) (sop_class instance : Option (List ℕ)) (id : ℕ) (there : Rattle.std.proofs.Common.Bool) (e : DimseFault)
    → HasUid es 0x0003 sop_class → HasUs es 0x0100 (field_of GetRequest) → HasUs es 0x0110 id → HasDataSet es there → HasUid es 0x1001 instance
    → ((e ≡ Memory) × (tags : List Tag) × HasTags es 0x1005 tags) ⊎ TagsFail es 0x1005 e
    → ReadsOrFails {X = Command A} (IsCommand es) (FirstFails es (needs GetRequest)) (Err e)
get_fails es sop_class instance id there e u h i d v (inl g) =
    inl (g.0, Request (record { sop_class = sop_class; message_id = id; has_data_set = there; operation = operations.Get instance g.1 }), record { sop_class = u; field = h; message_id = i; data_set = d; operation = (v, g.2) })
get_fails es sop_class instance id there e u h i d v (inr g) = inr (inr ((id, i), inr ((d.0, d.1), inl g)))

-- one fault of each need, and so one that is the first
one_us_fault : (es : List CommandElement) (n : ℕ) (f g : DimseFault) → UsFails es n f → UsFails es n g → f ≡ g
one_us_fault es n (Missing t) (Missing u) h k = let same : t ≡ u = h.0 ∙ sym k.0 in ap Missing same
one_us_fault es n (BadValue t) (BadValue u) h k = let same : t ≡ u = h.0 ∙ sym k.0 in ap BadValue same
one_us_fault es n (Missing t) (BadValue u) h k = absurd (none-some k.1 (sym h.1 ∙ k.2))
one_us_fault es n (BadValue t) (Missing u) h k = absurd (none-some h.1 (sym k.1 ∙ h.2))
one_us_fault es n UnknownField g h k = absurd h
one_us_fault es n Memory g h k = absurd h
one_us_fault es n (Missing t) UnknownField h k = absurd k
one_us_fault es n (Missing t) Memory h k = absurd k
one_us_fault es n (BadValue t) UnknownField h k = absurd k
one_us_fault es n (BadValue t) Memory h k = absurd k

one_need_fault : (es : List CommandElement) (need : Need) (f g : DimseFault) → Fails es need f → Fails es need g → f ≡ g
one_need_fault es (has_us n) f g h k = one_us_fault es n f g h k
one_need_fault es (may_have_us n) f g h k = h.0 ∙ sym k.0
one_need_fault es (may_have_at n) f g h k = h.0 ∙ sym k.0

one_first : (es : List CommandElement) (ns : List Need) (f g : DimseFault) → FirstFails es ns f → FirstFails es ns g → f ≡ g
one_first es [] f g h k = absurd h
one_first es (need ∷ more) f g (inl h) (inl k) = one_need_fault es need f g h k
one_first es (need ∷ more) f g (inr h) (inr k) = one_first es more f g h.1 k.1
one_first es (need ∷ more) f g (inl h) (inr k) = absurd (need_no es need f k.0 h)
one_first es (need ∷ more) f g (inr h) (inl k) = absurd (need_no es need g h.0 k)

one_elements_fault : (es : List CommandElement) (f g : DimseFault) → CommandElementsFail es f → CommandElementsFail es g → f ≡ g
one_elements_fault es f g (inl h) (inl k) = one_us_fault es 0x0100 f g h k
one_elements_fault es f g (inl h) (inr (inl k)) = absurd (us_no es 0x0100 k.0 f k.1 h)
one_elements_fault es f g (inl h) (inr (inr k)) = absurd (us_no es 0x0100 (field_of k.0) f k.1 h)
one_elements_fault es f g (inr (inl h)) (inl k) = absurd (us_no es 0x0100 h.0 g h.1 k)
one_elements_fault es f g (inr (inr h)) (inl k) = absurd (us_no es 0x0100 (field_of h.0) g h.1 k)
one_elements_fault es f g (inr (inl h)) (inr (inl k)) = h.3 ∙ sym k.3
one_elements_fault es f g (inr (inl h)) (inr (inr k)) = absurd (h.2 k.0 (one_us es 0x0100 (field_of k.0) h.0 k.1 h.1))
one_elements_fault es f g (inr (inr h)) (inr (inl k)) = absurd (k.2 h.0 (one_us es 0x0100 (field_of h.0) k.0 h.1 k.1))
one_elements_fault es f g (inr (inr h)) (inr (inr k)) =
    let same = one_message h.0 k.0 (one_us es 0x0100 (field_of h.0) (field_of k.0) h.1 k.1) in
    one_first es (needs k.0) f g (subst (λ (m : Message). FirstFails es (needs m) f) same h.2) k.2

pub one_fault : {A : Type 0} (bytes : List ℕ) (f g : DimseFault) → IsCommandFault A bytes f → IsCommandFault A bytes g → f ≡ g
one_fault bytes f g (inl h) (inl k) = h.0 ∙ sym k.0
one_fault bytes f g (inl h) (inr (inl k)) = absurd (k.0 (h.2.elements, h.2.spelled))
one_fault bytes f g (inl h) (inr (inr k)) = absurd (spelled_no bytes h.1 k.0 g h.2 k.1 k.2)
one_fault bytes f g (inr (inl h)) (inl k) = absurd (h.0 (k.2.elements, k.2.spelled))
one_fault bytes f g (inr (inr h)) (inl k) = absurd (spelled_no bytes k.1 h.0 f k.2 h.1 h.2)
one_fault bytes f g (inr (inl h)) (inr (inl k)) = h.1 ∙ sym k.1
one_fault bytes f g (inr (inl h)) (inr (inr k)) = absurd (h.0 (k.0, k.1))
one_fault bytes f g (inr (inr h)) (inr (inl k)) = absurd (k.0 (h.0, h.1))
one_fault bytes f g (inr (inr h)) (inr (inr k)) =
    one_elements_fault k.0 f g (subst (λ (l : List CommandElement). CommandElementsFail l f) (one_list 0 bytes h.0 k.0 h.1 k.1) h.2) k.2

-- How long what is written is.
use Rattle.std.proofs.Common.{◌≡◌, ◌≢◌, ℕ, eqb, true, false, ◌+◌, ◌-◌, ◌*◌, ◌^◌, ◌<◌, ◌≤◌, Option, None, Some, IfSome, List, [], ◌∷◌, ◌++◌, length, take, drop, get_or, ◌⊎◌, inl, inr, refl, sym, ap, subst, ◌∙◌, append_assoc, arith}
use Rattle.std.specs.List.{flat_map}
use Rattle.std.specs.Int.{w32, to_le_bytes}
use Rattle.std.proofs.Math.Seq.{take-append-add, drop-append-add}
use Rattle.std.proofs.lemmas.List.{append-nil, length-append, flat_map_more, take_more, take_all, get_or_default}
use Rattle.std.proofs.lemmas.Bool.Decides.{eqb_tells}
use Rattle.std.proofs.lemmas.Grind.{flat_map-append}
use Rattle.ups_pdu.specs.Identifier.{IsUid}
use Rattle.ups_dataset.specs.declared.tag.Tag.{Tag}
use Rattle.ups_dataset.specs.Tag.{tag_bytes}
use Rattle.ups_dimse.specs.declared.command.Command.{Command}
use Rattle.ups_dimse.specs.declared.command.Command.TheVariants.{Request, Response, Cancel}
use Rattle.ups_dimse.specs.declared.command.Operation.{Operation}
use Rattle.ups_dimse.specs.declared.command.Operation.TheVariants as operations
use Rattle.ups_dimse.specs.declared.command.OperationResult.{OperationResult}
use Rattle.ups_dimse.specs.declared.command.OperationResult.TheVariants as results
use Rattle.ups_dimse.specs.Elements.{CommandElement, command_tag}
use Rattle.ups_dimse.specs.Commands.{class_element}
use Rattle.ups_dimse.specs.Held.{IsHeldTag, IsHeldOperation, IsHeldResult, IsHeld}
use Rattle.ups_dimse.specs.Written.{written_command_element, us_element, optional_us_element, priority_of, uid_element, tags_element, operation_elements, result_elements, command_elements, grouped, tags_of, FitsCommand}
use Rattle.ups_dimse.proofs.UidText.{padded_short}

pub length-tags : (ts : List Tag) → length (flat_map tag_bytes ts) ≡ 4 * length ts
length-tags [] = refl
length-tags (t ∷ ts) = omega (arith, length-tags ts)

-- the elements of a request and of a response, one after the other
pub request_joined : (old a1 a2 a3 a4 a5 out : List ℕ) (c ps os : List CommandElement) (f i d : CommandElement)
    → a1 ≡ old ++ flat_map written_command_element c → a2 ≡ a1 ++ written_command_element f → a3 ≡ a2 ++ written_command_element i → a4 ≡ a3 ++ flat_map written_command_element ps → a5 ≡ a4 ++ written_command_element d → out ≡ a5 ++ flat_map written_command_element os
    → out ≡ old ++ flat_map written_command_element (c ++ (f ∷ i ∷ (ps ++ (d ∷ os))))
request_joined old a1 a2 a3 a4 a5 out c ps os f i d e1 e2 e3 e4 e5 e6 = rw (e6, e5, e4, e3, e2, e1) (simp (flat_map-append, append_assoc))

pub response_joined : (old a1 a2 a3 a4 a5 out : List ℕ) (c os : List CommandElement) (f i d s : CommandElement)
    → a1 ≡ old ++ flat_map written_command_element c → a2 ≡ a1 ++ written_command_element f → a3 ≡ a2 ++ written_command_element i → a4 ≡ a3 ++ written_command_element d → a5 ≡ a4 ++ written_command_element s → out ≡ a5 ++ flat_map written_command_element os
    → out ≡ old ++ flat_map written_command_element (c ++ (f ∷ i ∷ d ∷ s ∷ os))
response_joined old a1 a2 a3 a4 a5 out c os f i d s e1 e2 e3 e4 e5 e6 = rw (e6, e5, e4, e3, e2, e1) (simp (flat_map-append, append_assoc))

-- one tag more
pub tags_more : (front out after : List ℕ) (ts : List Tag) (i : ℕ) (d : Tag) → i < length ts → out ≡ front ++ flat_map tag_bytes (take i ts) → after ≡ out ++ tag_bytes (get_or ts i d)
    → after ≡ front ++ flat_map tag_bytes (take (i + 1) ts)
tags_more front out after ts i d l e f =
    f ∙ ap (λ (x : List ℕ). x ++ tag_bytes (get_or ts i d)) e ∙ flat_map_more tag_bytes front (take i ts) (get_or ts i d) ∙ ap (λ (x : List Tag). front ++ flat_map tag_bytes x) (sym (take_more ts i d l))

pub held_more : (ts : List Tag) (i : ℕ) (e : Tag) → i < length ts → ((k : ℕ) → (d : Tag) → k < i → IsHeldTag (get_or ts k d)) → IsHeldTag (get_or ts i e) → (k : ℕ) → (d : Tag) → k < i + 1 → IsHeldTag (get_or ts k d)
held_more ts i e l below this k d m = by_place (eqb_tells k i)
  where
    by_place : ((eqb k i ≡ true) × (k ≡ i)) ⊎ ((eqb k i ≡ false) × (k ≢ i)) → IsHeldTag (get_or ts k d)
    by_place (inl same) = subst (λ (n : ℕ). IsHeldTag (get_or ts n d)) (sym same.1) (subst (λ (t : Tag). IsHeldTag t) (get_or_default ts i e d l) this)
    by_place (inr other) = below k d (omega (arith, m, other.1))

pub tags_written : (n : ℕ) (ts : List Tag) (old head out : List ℕ) (i : ℕ) → (ts ≡ [] → ⊥) → length ts ≤ i → head ≡ old ++ (tag_bytes (command_tag n) ++ to_le_bytes w32 (4 * length ts)) → out ≡ head ++ flat_map tag_bytes (take i ts)
    → out ≡ old ++ flat_map written_command_element (tags_element n ts)
tags_written n [] old head out i some l e f = absurd (some refl)
tags_written n (t ∷ ts) old head out i some l e f =
    let whole : out ≡ head ++ flat_map tag_bytes (t ∷ ts) = f ∙ ap (λ (x : List Tag). head ++ flat_map tag_bytes x) (take_all i (t ∷ ts) l) in
    let front : head ≡ old ++ (tag_bytes (command_tag n) ++ to_le_bytes w32 (length (flat_map tag_bytes (t ∷ ts)))) = e ∙ ap (λ (m : ℕ). old ++ (tag_bytes (command_tag n) ++ to_le_bytes w32 m)) (sym (length-tags (t ∷ ts))) in
    rw (whole, front) (simp (append_assoc, append-nil))

uid_size : (n : ℕ) (o : Option (List ℕ)) → IfSome o IsUid → length (flat_map written_command_element (uid_element n o)) ≤ 73
uid_size n None h = omega arith
uid_size n (Some u) h = omega (arith, padded_short u h, length-append (written_command_element (record { number = n; value = Rattle.ups_dimse.specs.Written.padded_uid u })) [])

tags_size : (n : ℕ) (ts : List Tag) → length (flat_map written_command_element (tags_element n ts)) ≤ 8 + 4 * length ts
tags_size n [] = omega arith
tags_size n (t ∷ ts) = omega (arith, length-tags (t ∷ ts), length-append (written_command_element (record { number = n; value = flat_map tag_bytes (t ∷ ts) })) [])

optional_us_size : (n : ℕ) (o : Option ℕ) → length (flat_map written_command_element (optional_us_element n o)) ≤ 10
optional_us_size n None = omega arith
optional_us_size n (Some v) = omega arith

uid_us_size : (n m : ℕ) (o : Option (List ℕ)) (v : ℕ) → IfSome o IsUid → length (flat_map written_command_element (uid_element n o ++ us_element m v ∷ [])) ≤ 83
uid_us_size n m o v h = rw (flat_map-append written_command_element (uid_element n o) (us_element m v ∷ [])) (omega (arith, uid_size n o h, length-append (flat_map written_command_element (uid_element n o)) (flat_map written_command_element (us_element m v ∷ []))))

operation_size : {A : Type 0} (o : Operation A) → IsHeldOperation o → length (flat_map written_command_element (operation_elements o)) ≤ 83 + 4 * length (tags_of o)
operation_size (operations.EventReport i v) h = uid_us_size 0x1000 0x1002 i v h.0
operation_size (operations.Create i) h = omega (arith, uid_size 0x1000 i h)
operation_size (operations.Get i ts) h = rw (flat_map-append written_command_element (uid_element 0x1001 i) (tags_element 0x1005 ts)) (omega (arith, uid_size 0x1001 i h.0, tags_size 0x1005 ts, length-append (flat_map written_command_element (uid_element 0x1001 i)) (flat_map written_command_element (tags_element 0x1005 ts))))
operation_size (operations.Set i) h = omega (arith, uid_size 0x1001 i h)
operation_size (operations.Action i a) h = uid_us_size 0x1001 0x1008 i a h.0
operation_size operations.Echo h = omega arith
operation_size (operations.Find p) h = omega arith

result_size : (o : OperationResult) → IsHeldResult o → length (flat_map written_command_element (result_elements o)) ≤ 83
result_size (results.EventReport i v) h =
    rw (flat_map-append written_command_element (uid_element 0x1000 i) (optional_us_element 0x1002 v))
    (omega (arith, uid_size 0x1000 i h.0, optional_us_size 0x1002 v, length-append (flat_map written_command_element (uid_element 0x1000 i)) (flat_map written_command_element (optional_us_element 0x1002 v))))
result_size (results.Create i) h = omega (arith, uid_size 0x1000 i h)
result_size (results.Get i) h = omega (arith, uid_size 0x1000 i h)
result_size (results.Set i) h = omega (arith, uid_size 0x1000 i h)
result_size (results.Action i a) h = uid_us_size 0x1000 0x1008 i a h.0
result_size results.Echo h = omega arith
result_size results.Find h = omega arith

pub command_short : {A : Type 0} (c : Command A) → FitsCommand c → IsHeld c → length (flat_map written_command_element (command_elements c)) < 2 ^ 32
command_short (Request r) fits h =
    rw (flat_map-append written_command_element (uid_element (class_element r.operation) r.sop_class) _)
    (rw (flat_map-append written_command_element (optional_us_element 0x0700 (priority_of r.operation)) _)
    (omega (arith, fits, uid_size (class_element r.operation) r.sop_class h.sop_class, optional_us_size 0x0700 (priority_of r.operation), operation_size r.operation h.operation, length-append {A = ℕ})))
command_short (Response r) fits h =
    rw (flat_map-append written_command_element (uid_element 0x0002 r.sop_class) _)
    (omega (arith, uid_size 0x0002 r.sop_class h.sop_class, result_size r.result h.operation, length-append {A = ℕ}))
command_short (Cancel c) fits h = omega arith

-- the length of the elements, written over the four bytes before them
pub grouped_over : (old head room whole out : List ℕ) (es : List CommandElement) (at len : ℕ)
    → head ≡ old ++ (tag_bytes (command_tag 0x0000) ++ to_le_bytes w32 4) → at ≡ length head → room ≡ head ++ 0 ∷ 0 ∷ 0 ∷ 0 ∷ [] → whole ≡ room ++ flat_map written_command_element es
    → len ≡ length whole - length room → out ≡ take at whole ++ (to_le_bytes w32 len ++ drop (at + 4) whole)
    → out ≡ old ++ flat_map written_command_element (grouped es)
grouped_over old head room whole out es at len h a r w l o =
    let body = flat_map written_command_element es in
    let parts : whole ≡ head ++ (0 ∷ 0 ∷ 0 ∷ 0 ∷ body) = w ∙ ap (λ (x : List ℕ). x ++ body) r ∙ append_assoc head (0 ∷ 0 ∷ 0 ∷ 0 ∷ []) body in
    let size : len ≡ length body = omega (arith, l, ap length w, length-append room body) in
    let front : take at whole ≡ head = ap (λ (n : ℕ). take n whole) (a ∙ omega arith) ∙ ap (take (length head + 0)) parts ∙ take-append-add head (0 ∷ 0 ∷ 0 ∷ 0 ∷ body) 0 ∙ append-nil head in
    let back : drop (at + 4) whole ≡ body = ap (λ (n : ℕ). drop (n + 4) whole) a ∙ ap (drop (length head + 4)) parts ∙ drop-append-add head (0 ∷ 0 ∷ 0 ∷ 0 ∷ body) 4 in
    rw (o, front, back, size, h) (append_assoc old (tag_bytes (command_tag 0x0000) ++ to_le_bytes w32 4) (to_le_bytes w32 (length body) ++ body))

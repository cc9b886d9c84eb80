-- A message in pieces.
use Rattle.std.proofs.Common.{◌≡◌, ℕ, zero, suc, ◌+◌, ◌-◌, ◌*◌, ◌/◌, ◌<◌, ◌≤◌, ◌⊎◌, inl, inr, Bool, true, false, cond, List, [], ◌∷◌, ◌++◌, length, take, drop, Option, None, Some, is_some, refl, sym, ap, subst, ◌∙◌, arith, append-nil, append_assoc, length-drop, length-take-le}
use Rattle.std.specs.Prelude.{nat_le, unwrap_or}
use Rattle.std.specs.List.{flat_map, AllByRecursion}
use Rattle.std.specs.Int.{w32, to_be_bytes}
use Rattle.std.proofs.lemmas.Bool.{leb-true, leb-false, le-leb, lt-leb, cond_both}
use Rattle.std.proofs.lemmas.List.{length-append, take-append-drop}
use Rattle.std.proofs.lemmas.Grind.{flat_map-append}
use Rattle.ups_pdu.specs.declared.pdu.Pdu.{Pdu}
use Rattle.ups_pdu.specs.declared.pdv.Pdv.{Pdv}
use Rattle.ups_pdu.specs.Written.{written_pdv, pdv_content, written_pdu}
use Rattle.ups_pdu.specs.Fits.{Fits}
use Rattle.ups_assoc.specs.declared.message.RawMessage.{RawMessage}
use Rattle.ups_assoc.specs.declared.assembling.Begun.TheVariants.{Nothing}
use Rattle.ups_assoc.specs.Announcing.{data_follows}
use Rattle.ups_assoc.specs.Limits.{longest_message}
use Rattle.ups_assoc.specs.Messages.{is_accepted, bytes_of, IsPart, IsRun, IsDataSetOfMessage, IsMessage}
use Rattle.ups_assoc.specs.Feeding.{feeds}
use Rattle.ups_assoc.specs.Cutting.{room, fragment, fragments, run, body_run, pieces, pdvs_in}
use Rattle.ups_assoc.specs.Negotiation.{counted}
use Rattle.ups_assoc.proofs.Cuts.{every_cut}

-- the bytes of a fragment in a PDU of its own
pub written_fragment : (A : Type 0) (context : ℕ) (command last : Bool) (bytes : List ℕ)
    → written_pdu {A = A} (fragment context command last bytes)
    ≡ (4 ∷ 0 ∷ []) ++ (to_be_bytes w32 (length bytes + 6) ++ (to_be_bytes w32 (length bytes + 2) ++ ((context ∷ (cond command 1 0 + cond last 2 0) ∷ []) ++ bytes)))
written_fragment A context command last bytes =
    let pdv : Pdv A = record { context = context; command = command; last = last; bytes = bytes } in
    let whole : length (written_pdv pdv) ≡ length bytes + 6 = omega arith in
    let content : length (pdv_content pdv) ≡ length bytes + 2 = omega arith in
    ap (λ (w : List ℕ). (4 ∷ 0 ∷ []) ++ (to_be_bytes w32 (length w) ++ w)) (append-nil (written_pdv pdv))
    ∙ ap (λ (n : ℕ). (4 ∷ 0 ∷ []) ++ (to_be_bytes w32 n ++ written_pdv pdv)) whole
    ∙ ap (λ (n : ℕ). (4 ∷ 0 ∷ []) ++ (to_be_bytes w32 (length bytes + 6) ++ (to_be_bytes w32 n ++ pdv_content pdv))) content

-- a head of four parts, and what follows it
pub headed : (old first new head a b c d e : List ℕ) → head ≡ a ++ (b ++ (c ++ d)) → first ≡ old ++ head → new ≡ first ++ e → new ≡ old ++ (a ++ (b ++ (c ++ (d ++ e))))
headed old first new head a b c d e parts p q =
    q ∙ ap (λ (l : List ℕ). l ++ e) p ∙ append_assoc old head e
    ∙ ap (λ (l : List ℕ). old ++ (l ++ e)) parts
    ∙ ap (λ (l : List ℕ). old ++ l) (append_assoc a (b ++ (c ++ d)) e)
    ∙ ap (λ (l : List ℕ). old ++ (a ++ l)) (append_assoc b (c ++ d) e)
    ∙ ap (λ (l : List ℕ). old ++ (a ++ (b ++ l))) (append_assoc c d e)

-- the last fragment
pub fragments-last : (A : Type 0) (most size context : ℕ) (command : Bool) (bytes : List ℕ) → length bytes ≤ size → fragments {A = A} most size context command bytes ≡ fragment context command true bytes ∷ []
fragments-last A zero size context command bytes h = refl
fragments-last A (suc most) size context command bytes h =
    ap (λ (b : Bool). cond b (fragment {A = A} context command true bytes ∷ []) (fragment context command false (take size bytes) ∷ fragments most size context command (drop size bytes))) (le-leb (length bytes) size h)

-- a fragment that isn't the last
pub fragments-more : (A : Type 0) (most size context : ℕ) (command : Bool) (bytes : List ℕ) → 0 < size → length bytes ≤ most → size < length bytes
    → (n : ℕ) × (length (drop size bytes) ≤ n) × (fragments {A = A} most size context command bytes ≡ fragment context command false (take size bytes) ∷ fragments n size context command (drop size bytes))
fragments-more A zero size context command bytes some h long = absurd (omega (arith, h, long))
fragments-more A (suc most) size context command bytes some h long = (
  most,
  omega (arith, some, h, long, length-drop size bytes),
  ap (λ (b : Bool). cond b (fragment {A = A} context command true bytes ∷ []) (fragment context command false (take size bytes) ∷ fragments most size context command (drop size bytes))) (lt-leb (length bytes) size long),
)

-- one fragment more
pub pushed-more : (A : Type 0) (all out new : List (Pdu A)) (piece : Pdu A) (most size context : ℕ) (command : Bool) (bytes front back : List ℕ) → 0 < size → length bytes ≤ most → size < length bytes
    → all ≡ out ++ fragments most size context command bytes → front ≡ take size bytes → back ≡ drop size bytes → piece ≡ fragment context command false front → new ≡ out ++ piece ∷ []
    → (n : ℕ) × (length back ≤ n) × (all ≡ new ++ fragments n size context command back)
pushed-more A all out new piece most size context command bytes front back some enough long parts f b p pushed =
    let (n, fits, split) = fragments-more A most size context command bytes some enough long in
    let first : Pdu A = fragment context command false (take size bytes) in
    let same : piece ≡ first = p ∙ ap (λ (l : List ℕ). fragment {A = A} context command false l) f in
    let then : new ≡ out ++ first ∷ [] = pushed ∙ ap (λ (q : Pdu A). out ++ q ∷ []) same in
    rw b (n, fits, parts ∙ ap (λ (l : List (Pdu A)). out ++ l) split ∙ sym (append_assoc out (first ∷ []) (fragments n size context command (drop size bytes))) ∙ ap (λ (l : List (Pdu A)). l ++ fragments n size context command (drop size bytes)) (sym then))

-- the last fragment
pub pushed-last : (A : Type 0) (all out new : List (Pdu A)) (piece : Pdu A) (most size context : ℕ) (command : Bool) (bytes : List ℕ) → length bytes ≤ size
    → all ≡ out ++ fragments most size context command bytes → piece ≡ fragment context command true bytes → new ≡ out ++ piece ∷ [] → new ≡ all
pushed-last A all out new piece most size context command bytes short parts p pushed =
    pushed ∙ ap (λ (q : Pdu A). out ++ q ∷ []) p ∙ ap (λ (l : List (Pdu A)). out ++ l) (sym (fragments-last A most size context command bytes short)) ∙ sym parts

-- the fragments are a run of these bytes
abbrev RunOf : {A : Type 0} → ℕ → Bool → List ℕ → List (Pdv A) → Type 0
RunOf context command bytes pdvs = IsRun context command pdvs × (bytes_of pdvs ≡ bytes)

run_before : (A : Type 0) (context : ℕ) (command : Bool) (p : Pdv A) (ps : List (Pdv A)) → IsPart context command false p → IsRun context command ps → IsRun context command (p ∷ ps)
run_before A context command p [] i r = absurd r
run_before A context command p (q ∷ ps) i r = (i, r)

one_run : (A : Type 0) (context : ℕ) (command : Bool) (bytes : List ℕ) → RunOf {A = A} context command bytes (flat_map pdvs_in (fragment {A = A} context command true bytes ∷ []))
one_run A context command bytes = (record { on_context = refl; of_command = refl; is_last = refl }, append-nil bytes)

more_run : (A : Type 0) (size context : ℕ) (command : Bool) (bytes : List ℕ) (rest : List (Pdu A)) → RunOf context command (drop size bytes) (flat_map pdvs_in rest) → RunOf context command bytes (flat_map pdvs_in (fragment context command false (take size bytes) ∷ rest))
more_run A size context command bytes rest r = (
  run_before A context command (record { context = context; command = command; last = false; bytes = take size bytes }) (flat_map pdvs_in rest) (record { on_context = refl; of_command = refl; is_last = refl }) r.0,
  ap (λ (w : List ℕ). take size bytes ++ w) r.1 ∙ take-append-drop size bytes,
)

fragments_at : (A : Type 0) (most size context : ℕ) (command : Bool) (bytes : List ℕ) (b : Bool) → nat_le (length bytes) size ≡ b → (size < length bytes → RunOf {A = A} context command (drop size bytes) (flat_map pdvs_in (fragments {A = A} most size context command (drop size bytes))))
    → RunOf {A = A} context command bytes (flat_map pdvs_in (cond b (fragment {A = A} context command true bytes ∷ []) (fragment context command false (take size bytes) ∷ fragments most size context command (drop size bytes))))
fragments_at A most size context command bytes true e more = one_run A context command bytes
fragments_at A most size context command bytes false e more = more_run A size context command bytes (fragments most size context command (drop size bytes)) (more (leb-false (length bytes) size e))

fragments_run : (A : Type 0) (most size context : ℕ) (command : Bool) (bytes : List ℕ) → 0 < size → length bytes ≤ most → RunOf {A = A} context command bytes (flat_map pdvs_in (fragments {A = A} most size context command bytes))
fragments_run A zero size context command bytes some h = one_run A context command bytes
fragments_run A (suc most) size context command bytes some h =
    fragments_at A most size context command bytes (nat_le (length bytes) size) refl (λ long. fragments_run A most size context command (drop size bytes) some (omega (arith, some, h, long, length-drop size bytes)))

is_run : (A : Type 0) (size context : ℕ) (command : Bool) (bytes : List ℕ) → 0 < size → RunOf {A = A} context command bytes (flat_map pdvs_in (run {A = A} size context command bytes))
unfolding run
is_run A size context command bytes some = fragments_run A (length bytes) size context command bytes some (omega arith)

body_runs : (A : Type 0) (size context : ℕ) (command : List ℕ) (body : Option (List ℕ)) → 0 < size → is_some body ≡ data_follows command
    → IsDataSetOfMessage context command (flat_map pdvs_in (body_run {A = A} size context body)) body × (bytes_of (flat_map pdvs_in (body_run {A = A} size context body)) ≡ unwrap_or body [])
body_runs A size context command None some e = ((sym e, refl), refl)
body_runs A size context command (Some body) some e = let r = is_run A size context false body some in ((sym e, r.0, r.1), r.1)

room_at : (n : ℕ) → 8 ≤ n → 2 ≤ (n - 6) / 2 * 2
room_at n h = omega arith

pub room_some : (max : ℕ) → (max ≡ 0) ⊎ (8 ≤ max) → 2 ≤ room max
room_some max (inl e) = subst (λ (n : ℕ). 2 ≤ room n) (sym e) (omega arith)
room_some max (inr h) = room_at (counted max) (cond_both _ 16384 max (λ (n : ℕ). 8 ≤ n) (λ e. omega arith) (λ e. h))

pub whole_again : (A : Type 0) (ids : List ℕ) (max : ℕ) (m : RawMessage A) → (max ≡ 0) ⊎ (8 ≤ max) → is_accepted ids m.context ≡ true → is_some m.body ≡ data_follows m.command → length m.command + length (unwrap_or m.body []) ≤ longest_message
    → feeds ids (flat_map pdvs_in (pieces {A = A} m.context m.command m.body max)) Nothing ≡ Some (m ∷ [], Nothing)
whole_again A ids max m enough a e le =
    let size = room max in
    let some : 0 < size = omega (arith, room_some max enough) in
    let commands = flat_map pdvs_in (run {A = A} size m.context true m.command) in
    let datas = flat_map pdvs_in (body_run {A = A} size m.context m.body) in
    let all = flat_map pdvs_in (pieces {A = A} m.context m.command m.body max) in
    let first = is_run A size m.context true m.command some in
    let second = body_runs A size m.context m.command m.body some e in
    let parts : all ≡ commands ++ datas = flat_map-append (pdvs_in {A = A}) (run {A = A} size m.context true m.command) (body_run {A = A} size m.context m.body) in
    let lengths : length (bytes_of all) ≡ length m.command + length (unwrap_or m.body []) =
    ap (λ (w : List (Pdv A)). length (bytes_of w)) parts ∙ ap length (flat_map-append (λ (p : Pdv A). p.bytes) commands datas)
    ∙ length-append (bytes_of commands) (bytes_of datas) ∙ ap (λ (w : List ℕ). length w + length (bytes_of datas)) first.1 ∙ ap (λ (w : List ℕ). length m.command + length w) second.1 in
    let is : IsMessage ids all m = record {
      commands = commands;
      datas = datas;
      parts = parts;
      accepted = a;
      command_run = first.0;
      command_is = first.1;
      body_is = second.0;
      within = omega (arith, lengths, le);
    } in
    every_cut A ids all (m ∷ []) Nothing (all, [], sym (append-nil all), (all, [], sym (append-nil all), is, refl), refl)

abbrev FitEach : {A : Type 0} → List (Pdu A) → Type 0
FitEach said = AllByRecursion (λ p. Fits p) said

fits-append : (A : Type 0) (xs ys : List (Pdu A)) → FitEach xs → FitEach ys → FitEach (xs ++ ys)
fits-append A [] ys h k = k
fits-append A (x ∷ xs) ys (p, h) k = (p, fits-append A xs ys h k)

content_length : (A : Type 0) (pdv : Pdv A) → length (pdv_content pdv) ≡ 2 + length pdv.bytes
content_length A pdv = omega (arith)

four : (n : ℕ) → length (to_be_bytes w32 n) ≡ 4
four n = refl

fits_fragment : (A : Type 0) (context : ℕ) (command last : Bool) (bytes : List ℕ) → length bytes ≤ 16378 → Fits {A = A} (fragment context command last bytes)
fits_fragment A context command last bytes h =
    let pdv : Pdv A = record { context = context; command = command; last = last; bytes = bytes } in (
      λ e. absurd cc,
      omega (arith, h, ap length (append-nil (written_pdv pdv)), length-append (to_be_bytes w32 (length (pdv_content pdv))) (pdv_content pdv), four (length (pdv_content pdv)), content_length A pdv),
    )

fits_at : (A : Type 0) (b : Bool) (size context : ℕ) (command : Bool) (bytes : List ℕ) (rest : List (Pdu A)) → size ≤ 16378 → nat_le (length bytes) size ≡ b → (size < length bytes → FitEach rest)
    → FitEach (cond b (fragment context command true bytes ∷ []) (fragment context command false (take size bytes) ∷ rest))
fits_at A true size context command bytes rest most e later = (fits_fragment A context command true bytes (omega (arith, most, leb-true (length bytes) size e)), tt)
fits_at A false size context command bytes rest most e later =
    let long : size < length bytes = leb-false (length bytes) size e in
    (fits_fragment A context command false (take size bytes) (omega (arith, most, long, length-take-le size bytes (omega (arith, long)))), later long)

fits_fragments : (A : Type 0) (most size context : ℕ) (command : Bool) (bytes : List ℕ) → 0 < size → size ≤ 16378 → length bytes ≤ most → FitEach {A = A} (fragments most size context command bytes)
fits_fragments A zero size context command bytes some le h = (fits_fragment A context command true bytes (omega (arith, h)), tt)
fits_fragments A (suc most) size context command bytes some le h =
    fits_at A (nat_le (length bytes) size) size context command bytes (fragments most size context command (drop size bytes)) le refl
    (λ long. fits_fragments A most size context command (drop size bytes) some le (omega (arith, some, h, long, length-drop size bytes)))

fits_run : (A : Type 0) (size context : ℕ) (command : Bool) (bytes : List ℕ) → 0 < size → size ≤ 16378 → FitEach {A = A} (run size context command bytes)
unfolding run
fits_run A size context command bytes some le = fits_fragments A (length bytes) size context command bytes some le (omega (arith))

fits_body : (A : Type 0) (size context : ℕ) (body : Option (List ℕ)) → 0 < size → size ≤ 16378 → FitEach {A = A} (body_run size context body)
fits_body A size context None some le = tt
fits_body A size context (Some body) some le = fits_run A size context false body some le

pub fits_pieces : (A : Type 0) (context : ℕ) (command : List ℕ) (body : Option (List ℕ)) (max : ℕ) → 0 < room max → room max ≤ 16378 → FitEach {A = A} (pieces context command body max)
fits_pieces A context command body max some le =
    fits-append A (run (room max) context true command) (body_run (room max) context body) (fits_run A (room max) context true command some le) (fits_body A (room max) context body some le)

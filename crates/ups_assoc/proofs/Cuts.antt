-- However messages are cut, they are put together again.
use Rattle.std.proofs.Common.{◌≡◌, ◌≢◌, ℕ, ◌+◌, ◌≤◌, Bool, true, false, List, [], ◌∷◌, ◌++◌, length, Option, None, Some, refl, sym, ap, subst, ◌∙◌, arith, rules, append_assoc, append-nil, ◌==◌}
use Rattle.std.proofs.lemmas.List.{length-append}
use Rattle.std.proofs.lemmas.Grind.{flat_map-append}
use Rattle.std.specs.Option.{option_map}
use Rattle.ups_pdu.specs.declared.pdv.Pdv.{Pdv}
use Rattle.ups_assoc.specs.declared.message.RawMessage.{RawMessage}
use Rattle.ups_assoc.specs.declared.assembling.Begun.{Begun}
use Rattle.ups_assoc.specs.declared.assembling.Begun.TheVariants.{Nothing, Command, Body, Failed}
use Rattle.ups_assoc.specs.Limits.{longest_message}
use Rattle.ups_assoc.specs.Messages.{is_accepted, bytes_of, IsPart, IsRun, IsDataSetOfMessage, IsMessage, AreMessages, IsUnfinished, IsBegun, AreFragments}
use Rattle.ups_assoc.specs.Feeding.{whole, command_end, body_end, with_command, with_data, fed_fragment, fed, onward, feeds}
use Rattle.ups_assoc.proofs.Steps.{sized_within, taken_on}

fed_command : (A : Type 0) (ids : List ℕ) (context : ℕ) (bytes : List ℕ) (last : Bool) (p : Pdv A) → is_accepted ids context ≡ true → IsPart context true last p → length (bytes ++ p.bytes) ≤ longest_message
    → fed ids (Command context bytes) p ≡ command_end context (bytes ++ p.bytes) last
unfolding with_command
fed_command A ids context bytes last p a i le =
    let same : (p.context == context) ≡ true = let e = i.on_context in search rules in
    let on : is_accepted ids p.context ≡ true = ap (is_accepted ids) i.on_context ∙ a in
    taken_on A ids (Command context bytes) p refl on
    ∙ rw (same, i.of_command) (sized_within A (length (bytes ++ p.bytes)) (command_end context (bytes ++ p.bytes) p.last) le)
    ∙ ap (λ (b : Bool). command_end {A = A} context (bytes ++ p.bytes) b) i.is_last

fed_body : (A : Type 0) (ids : List ℕ) (context : ℕ) (c bytes : List ℕ) (last : Bool) (p : Pdv A) → is_accepted ids context ≡ true → IsPart context false last p → length c + length (bytes ++ p.bytes) ≤ longest_message
    → fed ids (Body context c bytes) p ≡ body_end context c (bytes ++ p.bytes) last
unfolding with_data
fed_body A ids context c bytes last p a i le =
    let same : (p.context == context) ≡ true = let e = i.on_context in search rules in
    let on : is_accepted ids p.context ≡ true = ap (is_accepted ids) i.on_context ∙ a in
    taken_on A ids (Body context c bytes) p refl on
    ∙ rw (same, i.of_command) (sized_within A (length c + length (bytes ++ p.bytes)) (body_end context c (bytes ++ p.bytes) p.last) le)
    ∙ ap (λ (b : Bool). body_end {A = A} context c (bytes ++ p.bytes) b) i.is_last

-- a first fragment of a command is one after none of its bytes
fed_first : (A : Type 0) (ids : List ℕ) (context : ℕ) (last : Bool) (p : Pdv A) → is_accepted ids context ≡ true → IsPart context true last p → fed ids Nothing p ≡ fed ids (Command context []) p
fed_first A ids context last p a i =
    let same : (p.context == context) ≡ true = let e = i.on_context in search rules in
    let on : is_accepted ids p.context ≡ true = ap (is_accepted ids) i.on_context ∙ a in
    let first : fed_fragment Nothing p ≡ with_command p.context [] p = rw i.of_command refl in
    let second : fed_fragment (Command context []) p ≡ with_command context [] p = rw (same, i.of_command) refl in
    taken_on A ids Nothing p refl on ∙ first ∙ ap (λ (n : ℕ). with_command n [] p) i.on_context ∙ sym (taken_on A ids (Command context []) p refl on ∙ second)

one_bytes : (A : Type 0) (bytes : List ℕ) (p : Pdv A) → bytes ++ bytes_of (p ∷ []) ≡ bytes ++ p.bytes
one_bytes A bytes p = ap (λ (w : List ℕ). bytes ++ w) (append-nil p.bytes)

commands_on : (A : Type 0) (ids : List ℕ) (context : ℕ) (bytes : List ℕ) (ps rest : List (Pdv A)) → is_accepted ids context ≡ true → IsRun context true ps → length (bytes ++ bytes_of ps) ≤ longest_message
    → feeds ids (ps ++ rest) (Command context bytes) ≡ onward (feeds ids rest) (command_end context (bytes ++ bytes_of ps) true)
commands_on A ids context bytes [] rest a r le = absurd r
commands_on A ids context bytes (p ∷ []) rest a r le =
    ap (onward (feeds ids rest)) (fed_command A ids context bytes true p a r (subst (λ (w : List ℕ). length w ≤ longest_message) (one_bytes A bytes p) le) ∙ ap (λ (w : List ℕ). command_end {A = A} context w true) (sym (one_bytes A bytes p)))
commands_on A ids context bytes (p ∷ q ∷ ps) rest a (i, r) le =
    let next = bytes ++ p.bytes in
    let same : next ++ bytes_of (q ∷ ps) ≡ bytes ++ bytes_of (p ∷ q ∷ ps) = append_assoc bytes p.bytes (bytes_of (q ∷ ps)) in
    let short : length next ≤ longest_message = omega (arith, length-append next (bytes_of (q ∷ ps)), ap length same, le) in
    ap (onward (feeds ids (q ∷ ps ++ rest))) (fed_command A ids context bytes false p a i short)
    ∙ commands_on A ids context next (q ∷ ps) rest a r (subst (λ (w : List ℕ). length w ≤ longest_message) (sym same) le)
    ∙ ap (λ (w : List ℕ). onward (feeds ids rest) (command_end {A = A} context w true)) same

bodies_on : (A : Type 0) (ids : List ℕ) (context : ℕ) (c bytes : List ℕ) (ps rest : List (Pdv A)) → is_accepted ids context ≡ true → IsRun context false ps → length c + length (bytes ++ bytes_of ps) ≤ longest_message
    → feeds ids (ps ++ rest) (Body context c bytes) ≡ onward (feeds ids rest) (body_end context c (bytes ++ bytes_of ps) true)
bodies_on A ids context c bytes [] rest a r le = absurd r
bodies_on A ids context c bytes (p ∷ []) rest a r le =
    ap (onward (feeds ids rest)) (fed_body A ids context c bytes true p a r (subst (λ (w : List ℕ). length c + length w ≤ longest_message) (one_bytes A bytes p) le) ∙ ap (λ (w : List ℕ). body_end {A = A} context c w true) (sym (one_bytes A bytes p)))
bodies_on A ids context c bytes (p ∷ q ∷ ps) rest a (i, r) le =
    let next = bytes ++ p.bytes in
    let same : next ++ bytes_of (q ∷ ps) ≡ bytes ++ bytes_of (p ∷ q ∷ ps) = append_assoc bytes p.bytes (bytes_of (q ∷ ps)) in
    let short : length c + length next ≤ longest_message = omega (arith, length-append next (bytes_of (q ∷ ps)), ap length same, le) in
    ap (onward (feeds ids (q ∷ ps ++ rest))) (fed_body A ids context c bytes false p a i short)
    ∙ bodies_on A ids context c next (q ∷ ps) rest a r (subst (λ (w : List ℕ). length c + length w ≤ longest_message) (sym same) le)
    ∙ ap (λ (w : List ℕ). onward (feeds ids rest) (body_end {A = A} context c w true)) same

-- a run of commands, from its beginning
first_on : (A : Type 0) (ids : List ℕ) (context : ℕ) (ps rest : List (Pdv A)) → is_accepted ids context ≡ true → IsRun context true ps → feeds ids (ps ++ rest) Nothing ≡ feeds ids (ps ++ rest) (Command context [])
first_on A ids context [] rest a r = absurd r
first_on A ids context (p ∷ []) rest a r = ap (onward (feeds ids rest)) (fed_first A ids context true p a r)
first_on A ids context (p ∷ q ∷ ps) rest a r = ap (onward (feeds ids (q ∷ ps ++ rest))) (fed_first A ids context false p a r.0)

body_on : (A : Type 0) (ids : List ℕ) (context : ℕ) (c : List ℕ) (ps rest : List (Pdv A)) (b : Option (List ℕ)) → is_accepted ids context ≡ true → IsDataSetOfMessage context c ps b → length c + length (bytes_of ps) ≤ longest_message
    → onward (feeds ids (ps ++ rest)) (command_end context c true) ≡ onward (feeds ids rest) (whole (record { context = context; command = c; body = b }))
body_on A ids context c ps rest None a (h, e) le = rw (h, e) refl
body_on A ids context c ps rest (Some b) a (h, r, e) le = rw h (bodies_on A ids context c [] ps rest a r le ∙ ap (λ (w : List ℕ). onward (feeds ids rest) (body_end {A = A} context c w true)) e)

-- the bytes of a command and of what follows
both_lengths : (A : Type 0) (ps commands datas : List (Pdv A)) (c : List ℕ) → ps ≡ commands ++ datas → bytes_of commands ≡ c → length (bytes_of ps) ≡ length c + length (bytes_of datas)
both_lengths A ps commands datas c e f =
    ap (λ (w : List (Pdv A)). length (bytes_of w)) e ∙ ap length (flat_map-append (λ (p : Pdv A). p.bytes) commands datas)
    ∙ length-append (bytes_of commands) (bytes_of datas) ∙ ap (λ (w : List ℕ). length w + length (bytes_of datas)) f

-- a whole command, from nothing
command_on : (A : Type 0) (ids : List ℕ) (context : ℕ) (c : List ℕ) (commands rest : List (Pdv A)) → is_accepted ids context ≡ true → IsRun context true commands → bytes_of commands ≡ c → length c ≤ longest_message
    → feeds ids (commands ++ rest) Nothing ≡ onward (feeds ids rest) (command_end context c true)
command_on A ids context c commands rest a r e le =
    first_on A ids context commands rest a r
    ∙ commands_on A ids context [] commands rest a r (subst (λ (w : List ℕ). length w ≤ longest_message) (sym e) le)
    ∙ ap (λ (w : List ℕ). onward (feeds ids rest) (command_end {A = A} context w true)) e

message_on : (A : Type 0) (ids : List ℕ) (ps rest : List (Pdv A)) (m : RawMessage A) → IsMessage ids ps m → feeds ids (ps ++ rest) Nothing ≡ onward (feeds ids rest) (whole m)
message_on A ids ps rest m i =
    let split : ps ++ rest ≡ i.commands ++ (i.datas ++ rest) = ap (λ (w : List (Pdv A)). w ++ rest) i.parts ∙ append_assoc i.commands i.datas rest in
    let both = both_lengths A ps i.commands i.datas m.command i.parts i.command_is in
    ap (λ (w : List (Pdv A)). feeds ids w Nothing) split
    ∙ command_on A ids m.context m.command i.commands (i.datas ++ rest) i.accepted i.command_run i.command_is (omega (arith, i.within, both))
    ∙ body_on A ids m.context m.command i.datas rest m.body i.accepted i.body_is (omega (arith, i.within, both))

open_commands : (A : Type 0) (ids : List ℕ) (context : ℕ) (bytes : List ℕ) (ps : List (Pdv A)) → is_accepted ids context ≡ true → IsUnfinished context true ps → length (bytes ++ bytes_of ps) ≤ longest_message
    → feeds ids ps (Command context bytes) ≡ Some ([], Command context (bytes ++ bytes_of ps))
open_commands A ids context bytes [] a o le = ap (λ (w : List ℕ). Some ([], Command context w)) (sym (append-nil bytes))
open_commands A ids context bytes (p ∷ ps) a (i, o) le =
    let next = bytes ++ p.bytes in
    let same : next ++ bytes_of ps ≡ bytes ++ bytes_of (p ∷ ps) = append_assoc bytes p.bytes (bytes_of ps) in
    let short : length next ≤ longest_message = omega (arith, length-append next (bytes_of ps), ap length same, le) in
    ap (onward (feeds ids ps)) (fed_command A ids context bytes false p a i short)
    ∙ open_commands A ids context next ps a o (subst (λ (w : List ℕ). length w ≤ longest_message) (sym same) le)
    ∙ ap (λ (w : List ℕ). Some ([], Command context w)) same

open_bodies : (A : Type 0) (ids : List ℕ) (context : ℕ) (c bytes : List ℕ) (ps : List (Pdv A)) → is_accepted ids context ≡ true → IsUnfinished context false ps → length c + length (bytes ++ bytes_of ps) ≤ longest_message
    → feeds ids ps (Body context c bytes) ≡ Some ([], Body context c (bytes ++ bytes_of ps))
open_bodies A ids context c bytes [] a o le = ap (λ (w : List ℕ). Some ([], Body context c w)) (sym (append-nil bytes))
open_bodies A ids context c bytes (p ∷ ps) a (i, o) le =
    let next = bytes ++ p.bytes in
    let same : next ++ bytes_of ps ≡ bytes ++ bytes_of (p ∷ ps) = append_assoc bytes p.bytes (bytes_of ps) in
    let short : length c + length next ≤ longest_message = omega (arith, length-append next (bytes_of ps), ap length same, le) in
    ap (onward (feeds ids ps)) (fed_body A ids context c bytes false p a i short)
    ∙ open_bodies A ids context c next ps a o (subst (λ (w : List ℕ). length c + length w ≤ longest_message) (sym same) le)
    ∙ ap (λ (w : List ℕ). Some ([], Body context c w)) same

open_first : (A : Type 0) (ids : List ℕ) (context : ℕ) (ps : List (Pdv A)) → ps ≢ [] → is_accepted ids context ≡ true → IsUnfinished context true ps → feeds ids ps Nothing ≡ feeds ids ps (Command context [])
open_first A ids context [] s a o = absurd (s refl)
open_first A ids context (p ∷ ps) s a o = ap (onward (feeds ids ps)) (fed_first A ids context false p a o.0)

-- the beginning of a message
begun_on : (A : Type 0) (ids : List ℕ) (b : Begun A) (ps : List (Pdv A)) → IsBegun ids b ps → feeds ids ps Nothing ≡ Some ([], b)
begun_on A ids Nothing ps e = rw e refl
begun_on A ids (Command context bytes) ps i =
    open_first A ids context ps i.some i.accepted i.command_open
    ∙ open_commands A ids context [] ps i.accepted i.command_open (subst (λ (w : List ℕ). length w ≤ longest_message) (sym i.bytes_are) i.within)
    ∙ ap (λ (w : List ℕ). Some ([], Command context w)) i.bytes_are
begun_on A ids (Body context c bytes) ps i =
    let both = both_lengths A ps i.commands i.datas c i.parts i.command_is in
    ap (λ (w : List (Pdv A)). feeds ids w Nothing) i.parts
    ∙ command_on A ids context c i.commands i.datas i.accepted i.command_run i.command_is (omega (arith, i.within, both))
    ∙ rw i.announces (open_bodies A ids context c [] i.datas i.accepted i.data_open (omega (arith, i.within, both)))
    ∙ ap (λ (w : List ℕ). Some ([], Body context c w)) i.bytes_are
begun_on A ids Failed ps e = absurd e

messages_on : (A : Type 0) (ids : List ℕ) (front rest : List (Pdv A)) (ms : List (RawMessage A)) (b : Begun A) → AreMessages ids front ms → feeds ids rest Nothing ≡ Some ([], b) → feeds ids (front ++ rest) Nothing ≡ Some (ms, b)
messages_on A ids front rest [] b e h = rw e h
messages_on A ids front rest (m ∷ ms) b (first, others, e, i, are) h =
    ap (λ (w : List (Pdv A)). feeds ids w Nothing) (ap (λ (w : List (Pdv A)). w ++ rest) e ∙ append_assoc first others rest)
    ∙ message_on A ids first (others ++ rest) m i
    ∙ ap (option_map (λ r. (m ∷ r.0, r.1))) (messages_on A ids others rest ms b are h)

pub every_cut : (A : Type 0) (ids : List ℕ) (ps : List (Pdv A)) (ms : List (RawMessage A)) (b : Begun A) → AreFragments ids ps ms b → feeds ids ps Nothing ≡ Some (ms, b)
every_cut A ids ps ms b (front, rest, e, are, begun) =
    ap (λ (w : List (Pdv A)). feeds ids w Nothing) e ∙ messages_on A ids front rest ms b are (begun_on A ids b rest begun)

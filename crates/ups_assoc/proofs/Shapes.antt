-- The messages that come of fragments are those of which they are the fragments.
use Rattle.std.proofs.Common.{◌≡◌, ◌≢◌, ℕ, ◌+◌, ◌≤◌, Bool, true, false, not, ◌||◌, cond, List, [], ◌∷◌, ◌++◌, length, Option, None, Some, refl, sym, ap, subst, ◌∙◌, arith, append_assoc, append-nil, ◌==◌, nat_le}
use Rattle.std.proofs.lemmas.Bool.{leb-true, eqb-true, not-false, or_parts}
use Rattle.std.proofs.lemmas.List.{length-append}
use Rattle.std.proofs.lemmas.Grind.{flat_map-append}
use Rattle.std.proofs.lemmas.Option.{some_pair_parts}
use Rattle.std.specs.Option.{option_map}
use Rattle.ups_pdu.specs.declared.pdv.Pdv.{Pdv}
use Rattle.ups_assoc.specs.declared.fault.AssocFault.{AssocFault}
use Rattle.ups_assoc.specs.declared.fault.AssocFault.TheVariants as faults
use Rattle.ups_assoc.specs.declared.message.RawMessage.{RawMessage}
use Rattle.ups_assoc.specs.declared.assembling.Begun.{Begun}
use Rattle.ups_assoc.specs.declared.assembling.Begun.TheVariants.{Nothing, Command, Body, Failed}
use Rattle.ups_assoc.specs.Announcing.{data_follows}
use Rattle.ups_assoc.specs.Limits.{longest_message}
use Rattle.ups_assoc.specs.Messages.{is_accepted, bytes_of, IsPart, IsRun, IsMessage, AreMessages, IsUnfinished, IsBegunBody, IsBegun, AreFragments}
use Rattle.ups_assoc.specs.Feeding.{Fed, more, whole, fault, command_end, body_end, with_command, with_data, fed_fragment, fed, onward, feeds}

-- what a fragment makes of a message, by shape
abbrev After : {A : Type 0} → List ℕ → List (Pdv A) → Fed A → Type 0
After ids ps (more b) = IsBegun ids b ps
After ids ps (whole m) = IsMessage ids ps m
After ids ps (fault e) = Unit {0}

past : (A : Type 0) (ids : List ℕ) (ps : List (Pdv A)) (b : Bool) (e : AssocFault) (f : Fed A) → (b ≡ false → After ids ps f) → After ids ps (cond b (fault e) f)
past A ids ps true e f h = tt
past A ids ps false e f h = h refl

within : (A : Type 0) (ids : List ℕ) (ps : List (Pdv A)) (n : ℕ) (f : Fed A) (b : Bool) → nat_le n longest_message ≡ b → (n ≤ longest_message → After ids ps f) → After ids ps (cond b f (fault faults.TooLong))
within A ids ps n f true e h = h (leb-true n longest_message e)
within A ids ps n f false e h = tt

open_push : (A : Type 0) (context : ℕ) (command : Bool) (ps : List (Pdv A)) (p : Pdv A) → IsUnfinished context command ps → IsPart context command false p → IsUnfinished context command (ps ++ p ∷ [])
open_push A context command [] p o i = (i, tt)
open_push A context command (q ∷ ps) p o i = (o.0, open_push A context command ps p o.1 i)

run_push : (A : Type 0) (context : ℕ) (command : Bool) (ps : List (Pdv A)) (p : Pdv A) → IsUnfinished context command ps → IsPart context command true p → IsRun context command (ps ++ p ∷ [])
run_push A context command [] p o i = i
run_push A context command (q ∷ []) p o i = (o.0, i)
run_push A context command (q ∷ r ∷ ps) p o i = (o.0, run_push A context command (r ∷ ps) p o.1 i)

some_push : (A : Type 0) (ps : List (Pdv A)) (p : Pdv A) → ps ++ p ∷ [] ≢ []
some_push A [] p = λ e. absurd cc
some_push A (q ∷ ps) p = λ e. absurd cc

bytes_push : (A : Type 0) (ps : List (Pdv A)) (p : Pdv A) (bytes : List ℕ) → bytes_of ps ≡ bytes → bytes_of (ps ++ p ∷ []) ≡ bytes ++ p.bytes
bytes_push A ps p bytes e = flat_map-append (λ (q : Pdv A). q.bytes) ps (p ∷ []) ∙ ap (λ (w : List ℕ). bytes_of ps ++ w) (append-nil p.bytes) ∙ ap (λ (w : List ℕ). w ++ p.bytes) e

-- fragments of a command and one more
command_shape : (A : Type 0) (ids : List ℕ) (context : ℕ) (done : List (Pdv A)) (bytes : List ℕ) (p : Pdv A) (last d : Bool) → is_accepted ids context ≡ true → IsUnfinished context true done → IsPart context true last p → bytes_of (done ++ p ∷ []) ≡ bytes → length bytes ≤ longest_message → data_follows bytes ≡ d
    → After ids (done ++ p ∷ []) (cond last (cond d (more (Body context bytes [])) (whole (record { context = context; command = bytes; body = None }))) (more (Command context bytes)))
command_shape A ids context done bytes p false d a o i e le f = record { some = some_push A done p; accepted = a; command_open = open_push A context true done p o i; bytes_are = e; within = le }
command_shape A ids context done bytes p true true a o i e le f = record {
  commands = done ++ p ∷ [];
  datas = [];
  parts = sym (append-nil (done ++ p ∷ []));
  accepted = a;
  command_run = run_push A context true done p o i;
  command_is = e;
  announces = f;
  data_open = tt;
  bytes_are = refl;
  within = subst (λ (w : List ℕ). length w ≤ longest_message) (sym e) le;
}
command_shape A ids context done bytes p true false a o i e le f = record {
  commands = done ++ p ∷ [];
  datas = [];
  parts = sym (append-nil (done ++ p ∷ []));
  accepted = a;
  command_run = run_push A context true done p o i;
  command_is = e;
  body_is = (f, refl);
  within = subst (λ (w : List ℕ). length w ≤ longest_message) (sym e) le;
}

-- a fragment of a command
command_taken : (A : Type 0) (ids : List ℕ) (context : ℕ) (done : List (Pdv A)) (bytes : List ℕ) (p : Pdv A) → is_accepted ids context ≡ true → IsUnfinished context true done → bytes_of done ≡ bytes → p.context ≡ context → p.command ≡ true
    → After ids (done ++ p ∷ []) (with_command context bytes p)
unfolding with_command
command_taken A ids context done bytes p a o e on k =
    within A ids (done ++ p ∷ []) (length (bytes ++ p.bytes)) (command_end context (bytes ++ p.bytes) p.last) (nat_le (length (bytes ++ p.bytes)) longest_message) refl
    (λ le. command_shape A ids context done (bytes ++ p.bytes) p p.last (data_follows (bytes ++ p.bytes)) a o (record { on_context = on; of_command = k; is_last = refl }) (bytes_push A done p bytes e) le refl)

body_shape_at : (A : Type 0) (ids : List ℕ) (context : ℕ) (c bytes : List ℕ) (done : List (Pdv A)) (p : Pdv A) (last : Bool) → (i : IsBegunBody ids context c bytes done) → IsPart context false last p → done ++ p ∷ [] ≡ i.commands ++ (i.datas ++ p ∷ [])
    → bytes_of (i.datas ++ p ∷ []) ≡ bytes ++ p.bytes → length (bytes_of (done ++ p ∷ [])) ≤ longest_message → After ids (done ++ p ∷ []) (body_end context c (bytes ++ p.bytes) last)
body_shape_at A ids context c bytes done p false i part parts are le = record {
  commands = i.commands;
  datas = i.datas ++ p ∷ [];
  parts = parts;
  accepted = i.accepted;
  command_run = i.command_run;
  command_is = i.command_is;
  announces = i.announces;
  data_open = open_push A context false i.datas p i.data_open part;
  bytes_are = are;
  within = le;
}
body_shape_at A ids context c bytes done p true i part parts are le = record {
  commands = i.commands;
  datas = i.datas ++ p ∷ [];
  parts = parts;
  accepted = i.accepted;
  command_run = i.command_run;
  command_is = i.command_is;
  body_is = (i.announces, run_push A context false i.datas p i.data_open part, are);
  within = le;
}

-- fragments of a data set and one more
body_shape : (A : Type 0) (ids : List ℕ) (context : ℕ) (c bytes : List ℕ) (done : List (Pdv A)) (p : Pdv A) (last : Bool) → (i : IsBegunBody ids context c bytes done) → IsPart context false last p → length c + length (bytes ++ p.bytes) ≤ longest_message
    → After ids (done ++ p ∷ []) (body_end context c (bytes ++ p.bytes) last)
body_shape A ids context c bytes done p last i part le =
    let parts : done ++ p ∷ [] ≡ i.commands ++ (i.datas ++ p ∷ []) = ap (λ (w : List (Pdv A)). w ++ p ∷ []) i.parts ∙ append_assoc i.commands i.datas (p ∷ []) in
    let are = bytes_push A i.datas p bytes i.bytes_are in
    let all : length (bytes_of (done ++ p ∷ [])) ≡ length c + length (bytes ++ p.bytes) =
    ap (λ (w : List (Pdv A)). length (bytes_of w)) parts ∙ ap length (flat_map-append (λ (q : Pdv A). q.bytes) i.commands (i.datas ++ p ∷ []))
    ∙ length-append (bytes_of i.commands) (bytes_of (i.datas ++ p ∷ [])) ∙ ap (λ (w : List ℕ). length w + length (bytes_of (i.datas ++ p ∷ []))) i.command_is ∙ ap (λ (w : List ℕ). length c + length w) are in
    body_shape_at A ids context c bytes done p last i part parts are (omega (arith, all, le))

body_taken : (A : Type 0) (ids : List ℕ) (context : ℕ) (c bytes : List ℕ) (done : List (Pdv A)) (p : Pdv A) → IsBegunBody ids context c bytes done → p.context ≡ context → p.command ≡ false
    → After ids (done ++ p ∷ []) (with_data context c bytes p)
unfolding with_data
body_taken A ids context c bytes done p i on k =
    within A ids (done ++ p ∷ []) (length c + length (bytes ++ p.bytes)) (body_end context c (bytes ++ p.bytes) p.last) (nat_le (length c + length (bytes ++ p.bytes)) longest_message) refl
    (λ le. body_shape A ids context c bytes done p p.last i (record { on_context = on; of_command = k; is_last = refl }) le)

taken_shape : (A : Type 0) (ids : List ℕ) (b : Begun A) (done : List (Pdv A)) (p : Pdv A) → IsBegun ids b done → is_accepted ids p.context ≡ true → After ids (done ++ p ∷ []) (fed_fragment b p)
taken_shape A ids Nothing done p e a =
    let none : bytes_of done ≡ [] = ap bytes_of e in
    past A ids (done ++ p ∷ []) (not p.command) faults.DataWithoutCommand (with_command p.context [] p)
    (λ k. command_taken A ids p.context done [] p a (subst (λ (w : List (Pdv A)). IsUnfinished p.context true w) (sym e) tt) none refl (not-false p.command k))
taken_shape A ids (Command context bytes) done p i a =
    past A ids (done ++ p ∷ []) (not (p.context == context)) faults.MixedContext (cond (not p.command) (fault faults.DataWithoutCommand) (with_command context bytes p))
    (λ on. past A ids (done ++ p ∷ []) (not p.command) faults.DataWithoutCommand (with_command context bytes p)
    (λ k. command_taken A ids context done bytes p i.accepted i.command_open i.bytes_are (eqb-true p.context context (not-false (p.context == context) on)) (not-false p.command k)))
taken_shape A ids (Body context c bytes) done p i a =
    past A ids (done ++ p ∷ []) (not (p.context == context) || p.command) faults.MixedContext (with_data context c bytes p)
    (λ both. let q = or_parts (not (p.context == context)) p.command both in body_taken A ids context c bytes done p i (eqb-true p.context context (not-false (p.context == context) q.0)) q.1)
taken_shape A ids Failed done p i a = tt

fed_shape : (A : Type 0) (ids : List ℕ) (b : Begun A) (done : List (Pdv A)) (p : Pdv A) → IsBegun ids b done → After ids (done ++ p ∷ []) (fed ids b p)
unfolding fed
fed_shape A ids Nothing done p i = past A ids (done ++ p ∷ []) (not (is_accepted ids p.context)) faults.UnknownContext (fed_fragment Nothing p) (λ a. taken_shape A ids Nothing done p i (not-false (is_accepted ids p.context) a))
fed_shape A ids (Command context bytes) done p i =
    past A ids (done ++ p ∷ []) (not (is_accepted ids p.context)) faults.UnknownContext (fed_fragment (Command context bytes) p) (λ a. taken_shape A ids (Command context bytes) done p i (not-false (is_accepted ids p.context) a))
fed_shape A ids (Body context c bytes) done p i =
    past A ids (done ++ p ∷ []) (not (is_accepted ids p.context)) faults.UnknownContext (fed_fragment (Body context c bytes) p) (λ a. taken_shape A ids (Body context c bytes) done p i (not-false (is_accepted ids p.context) a))
fed_shape A ids Failed done p i = absurd i

-- the rest of the fragments, after one that made a message whole
whole_shape : (A : Type 0) (ids : List ℕ) (front ps : List (Pdv A)) (m : RawMessage A) (ms : List (RawMessage A)) (b : Begun A) (r : Option (List (RawMessage A) × Begun A)) → feeds ids ps Nothing ≡ r → IsMessage ids front m
    → ((ns : List (RawMessage A)) (n : Begun A) → feeds ids ps Nothing ≡ Some (ns, n) → AreFragments ids ps ns n) → option_map {U = List (RawMessage A) × Begun A} (λ r. (m ∷ r.0, r.1)) r ≡ Some (ms, b) → AreFragments ids (front ++ ps) ms b
whole_shape A ids front ps m ms b None e i on h = absurd cc
whole_shape A ids front ps m ms b (Some r) e i on h =
    let found = on r.0 r.1 e in
    let same = some_pair_parts (m ∷ r.0) ms r.1 b h in
    let messages = same.0 in
    let begun = same.1 in
    let parts : front ++ ps ≡ (front ++ found.0) ++ found.1 = ap (λ (w : List (Pdv A)). front ++ w) found.2 ∙ sym (append_assoc front found.0 found.1) in
    (front ++ found.0, found.1, parts, subst (λ (l : List (RawMessage A)). AreMessages ids (front ++ found.0) l) messages (front, found.0, refl, i, found.3), subst (λ (x : Begun A). IsBegun ids x found.1) begun found.4)

next_shape : (A : Type 0) (ids : List ℕ) (done ps : List (Pdv A)) (p : Pdv A) (ms : List (RawMessage A)) (b : Begun A) (f : Fed A) → After ids (done ++ p ∷ []) f
    → ((n : Begun A) (front : List (Pdv A)) (ns : List (RawMessage A)) (l : Begun A) → IsBegun ids n front → feeds ids ps n ≡ Some (ns, l) → AreFragments ids (front ++ ps) ns l) → onward (feeds ids ps) f ≡ Some (ms, b) → AreFragments ids ((done ++ p ∷ []) ++ ps) ms b
next_shape A ids done ps p ms b (more n) after on h = on n (done ++ p ∷ []) ms b after h
next_shape A ids done ps p ms b (whole m) after on h = whole_shape A ids (done ++ p ∷ []) ps m ms b (feeds ids ps Nothing) refl after (λ ns n e. on Nothing [] ns n refl e) h
next_shape A ids done ps p ms b (fault e) after on h = absurd cc

shape_from : (A : Type 0) (ids : List ℕ) (ps : List (Pdv A)) (n : Begun A) (done : List (Pdv A)) (ms : List (RawMessage A)) (b : Begun A) → IsBegun ids n done → feeds ids ps n ≡ Some (ms, b) → AreFragments ids (done ++ ps) ms b
shape_from A ids [] n done ms b i h =
    let same = some_pair_parts [] ms n b h in
    let messages = same.0 in
    let begun = same.1 in
    ([], done, append-nil done, subst (λ (l : List (RawMessage A)). AreMessages ids [] l) messages refl, subst (λ (x : Begun A). IsBegun ids x done) begun i)
shape_from A ids (p ∷ ps) n done ms b i h =
    subst (λ (w : List (Pdv A)). AreFragments ids w ms b) (append_assoc done (p ∷ []) ps)
    (next_shape A ids done ps p ms b (fed ids n p) (fed_shape A ids n done p i) (λ m front ns l j e. shape_from A ids ps m front ns l j e) h)

pub every_message : (A : Type 0) (ids : List ℕ) (ps : List (Pdv A)) (ms : List (RawMessage A)) (b : Begun A) → feeds ids ps Nothing ≡ Some (ms, b) → AreFragments ids ps ms b
every_message A ids ps ms b h = shape_from A ids ps Nothing [] ms b refl h

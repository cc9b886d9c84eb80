-- One fragment.
use Rattle.std.proofs.Common.{◌≡◌, ℕ, ◌+◌, ◌<◌, ◌≤◌, Bool, true, false, cond, List, [], ◌++◌, length, Option, None, Some, Result, Ok, Err, inl, inr, refl, sym, ap, subst, arith}
use Rattle.std.proofs.lemmas.Bool.{le-leb, lt-leb}
use Rattle.ups_pdu.specs.declared.pdv.Pdv.{Pdv}
use Rattle.ups_assoc.specs.declared.fault.AssocFault.{AssocFault}
use Rattle.ups_assoc.specs.declared.fault.AssocFault.TheVariants as faults
use Rattle.ups_assoc.specs.declared.message.RawMessage.{RawMessage}
use Rattle.ups_assoc.specs.declared.assembling.Begun.{Begun}
use Rattle.ups_assoc.specs.declared.assembling.Begun.TheVariants.{Nothing, Command, Body, Failed}
use Rattle.ups_assoc.specs.declared.assembling.Taken.{Taken}
use Rattle.ups_assoc.specs.declared.assembling.Taken.TheVariants.{More, Whole}
use Rattle.ups_assoc.specs.Announcing.{data_follows}
use Rattle.ups_assoc.specs.Limits.{longest_message}
use Rattle.ups_assoc.specs.Messages.{is_accepted}
use Rattle.ups_assoc.specs.Feeding.{Fed, more, whole, fault, if_short, command_end, body_end, with_command, with_data, fed_fragment, has_failed, fed, ReturnsFed, Takes, IsRefusedFragment, Feeds}

pub sized_within : (A : Type 0) (n : ℕ) (f : Fed A) → n ≤ longest_message → if_short n f ≡ f
sized_within A n f le = ap (λ (b : Bool). cond b f (fault faults.TooLong)) (le-leb n longest_message le)

sized_past : (A : Type 0) (n : ℕ) (f : Fed A) → longest_message < n → if_short n f ≡ fault faults.TooLong
sized_past A n f lt = ap (λ (b : Bool). cond b f (fault faults.TooLong)) (lt-leb n longest_message lt)

abbrev failing : {A : Type 0} → AssocFault → Result (Taken A) AssocFault
failing e = Err e

abbrev IsNoFault : {A : Type 0} → Fed A → Type 0
IsNoFault (more b) = Unit {0}
IsNoFault (whole m) = Unit {0}
IsNoFault (fault f) = ⊥

refused_at : (A : Type 0) (f : Fed A) (e : AssocFault) → IsNoFault f → e ≡ faults.Memory → Takes f (failing e)
refused_at A (more b) e n m = m
refused_at A (whole w) e n m = m
refused_at A (fault f) e n m = absurd n

-- too long, or lack of memory
refused : (A : Type 0) (n : ℕ) (f : Fed A) (e : AssocFault) → IsNoFault f → IsRefusedFragment e n → Takes (if_short n f) (failing e)
refused A n f e none (inl (t, long)) = subst (λ (x : Fed A). Takes x (failing e)) (sym (sized_past A n f long)) t
refused A n f e none (inr (m, within)) = subst (λ (x : Fed A). Takes x (failing e)) (sym (sized_within A n f within)) (refused_at A f e none m)

command_no_fault : (A : Type 0) (context : ℕ) (bytes : List ℕ) (last d : Bool) → IsNoFault {A = A} (cond last (cond d (more (Body context bytes [])) (whole (record { context = context; command = bytes; body = None }))) (more (Command context bytes)))
command_no_fault A context bytes false d = tt
command_no_fault A context bytes true true = tt
command_no_fault A context bytes true false = tt

body_no_fault : (A : Type 0) (context : ℕ) (command bytes : List ℕ) (last : Bool) → IsNoFault {A = A} (body_end context command bytes last)
body_no_fault A context command bytes true = tt
body_no_fault A context command bytes false = tt

pub with_command_err : (A : Type 0) (context : ℕ) (bytes : List ℕ) (p : Pdv A) (e : AssocFault) → IsRefusedFragment e (0 + length (bytes ++ p.bytes)) → Takes (with_command context bytes p) (failing e)
unfolding with_command
with_command_err A context bytes p e r =
    let same : 0 + length (bytes ++ p.bytes) ≡ length (bytes ++ p.bytes) = omega arith in
    refused A (length (bytes ++ p.bytes)) (command_end context (bytes ++ p.bytes) p.last) e (command_no_fault A context (bytes ++ p.bytes) p.last (data_follows (bytes ++ p.bytes))) (subst (λ (n : ℕ). IsRefusedFragment e n) same r)

pub with_command_ok : (A : Type 0) (context : ℕ) (bytes all : List ℕ) (p : Pdv A) (t : Taken A) → all ≡ bytes ++ p.bytes → 0 + length (bytes ++ p.bytes) ≤ longest_message → ReturnsFed (command_end context all p.last) t → ReturnsFed (with_command context bytes p) t
unfolding with_command
with_command_ok A context bytes all p t e le ends =
    subst (λ (x : Fed A). ReturnsFed x t) (sym (sized_within A (length (bytes ++ p.bytes)) (command_end context (bytes ++ p.bytes) p.last) (omega arith)))
    (subst (λ (w : List ℕ). ReturnsFed {A = A} (command_end context w p.last) t) e ends)

pub with_data_err : (A : Type 0) (context : ℕ) (command bytes : List ℕ) (p : Pdv A) (e : AssocFault) → IsRefusedFragment e (length command + length (bytes ++ p.bytes)) → Takes (with_data context command bytes p) (failing e)
unfolding with_data
with_data_err A context command bytes p e r =
    refused A (length command + length (bytes ++ p.bytes)) (body_end context command (bytes ++ p.bytes) p.last) e (body_no_fault A context command (bytes ++ p.bytes) p.last) r

pub with_data_ok : (A : Type 0) (context : ℕ) (command bytes all : List ℕ) (p : Pdv A) (t : Taken A) → all ≡ bytes ++ p.bytes → length command + length (bytes ++ p.bytes) ≤ longest_message → ReturnsFed (body_end context command all p.last) t → ReturnsFed (with_data context command bytes p) t
unfolding with_data
with_data_ok A context command bytes all p t e le ends =
    subst (λ (x : Fed A). ReturnsFed x t) (sym (sized_within A (length command + length (bytes ++ p.bytes)) (body_end context command (bytes ++ p.bytes) p.last) le))
    (subst (λ (w : List ℕ). ReturnsFed {A = A} (body_end context command w p.last) t) e ends)

-- on an accepted context, before any fault
pub taken_on : (A : Type 0) (ids : List ℕ) (b : Begun A) (p : Pdv A) → has_failed b ≡ false → is_accepted ids p.context ≡ true → fed ids b p ≡ fed_fragment b p
unfolding fed
taken_on A ids b p f a = rw (f, a) refl

abbrev answered : {A : Type 0} → Option (RawMessage A) → Result (Option (RawMessage A)) AssocFault
answered m = Ok m

abbrev faulty : {A : Type 0} → AssocFault → Result (Option (RawMessage A)) AssocFault
faulty e = Err e

pub feeds_failed : (A : Type 0) (ids : List ℕ) (b : Begun A) (p : Pdv A) → has_failed b ≡ true → Feeds (fed ids b p) Failed (faulty faults.Failed)
unfolding fed
feeds_failed A ids b p f = rw f (refl, refl)

pub feeds_unknown : (A : Type 0) (ids : List ℕ) (b : Begun A) (p : Pdv A) → has_failed b ≡ false → is_accepted ids p.context ≡ false → Feeds (fed ids b p) Failed (faulty faults.UnknownContext)
unfolding fed
feeds_unknown A ids b p f a = rw (f, a) (refl, refl)

err_on : (A : Type 0) (f : Fed A) (e : AssocFault) → Takes f (failing e) → Feeds f Failed (faulty e)
err_on A (more b) e t = (t, refl)
err_on A (whole w) e t = (t, refl)
err_on A (fault x) e t = (t, refl)

pub feeds_err : (A : Type 0) (ids : List ℕ) (b : Begun A) (p : Pdv A) (e : AssocFault) → has_failed b ≡ false → is_accepted ids p.context ≡ true → Takes (fed_fragment b p) (failing e) → Feeds (fed ids b p) Failed (faulty e)
feeds_err A ids b p e f a t = subst (λ (x : Fed A). Feeds x Failed (faulty e)) (sym (taken_on A ids b p f a)) (err_on A (fed_fragment b p) e t)

more_on : (A : Type 0) (f : Fed A) (n : Begun A) → ReturnsFed f (More n) → Feeds f n (answered None)
more_on A (more b) n t = t
more_on A (whole w) n t = absurd t
more_on A (fault x) n t = absurd t

pub feeds_more : (A : Type 0) (ids : List ℕ) (b : Begun A) (p : Pdv A) (n : Begun A) → has_failed b ≡ false → is_accepted ids p.context ≡ true → ReturnsFed (fed_fragment b p) (More n) → Feeds (fed ids b p) n (answered None)
feeds_more A ids b p n f a t = subst (λ (x : Fed A). Feeds x n (answered None)) (sym (taken_on A ids b p f a)) (more_on A (fed_fragment b p) n t)

whole_on : (A : Type 0) (f : Fed A) (m : RawMessage A) → ReturnsFed f (Whole m) → Feeds f Nothing (answered (Some m))
whole_on A (more b) m t = absurd t
whole_on A (whole w) m t = (t, refl)
whole_on A (fault x) m t = absurd t

pub feeds_whole : (A : Type 0) (ids : List ℕ) (b : Begun A) (p : Pdv A) (m : RawMessage A) → has_failed b ≡ false → is_accepted ids p.context ≡ true → ReturnsFed (fed_fragment b p) (Whole m) → Feeds (fed ids b p) Nothing (answered (Some m))
feeds_whole A ids b p m f a t = subst (λ (x : Fed A). Feeds x Nothing (answered (Some m))) (sym (taken_on A ids b p f a)) (whole_on A (fed_fragment b p) m t)

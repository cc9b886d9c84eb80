-- What stays of a legal history is legal.
use Rattle.std.proofs.Common.{◌≡◌, ℕ, ◌≤◌, Bool, true, false, ◌&&◌, not, cond, List, length, refl, ap, arith}
use Rattle.std.specs.Prelude.{nat_lt}
use Rattle.std.proofs.lemmas.Bool.Decides.{nat_tests}
use Rattle.ups_cycle.specs.declared.status.Status.TheVariants.{ResourceLimitation}
use Rattle.ups_life.specs.declared.entry.Entry.{Entry}
use Rattle.ups_life.specs.declared.request.Reply.{Reply}
use Rattle.ups_life.specs.declared.request.Reply.TheVariants.{Status as Answered}
use Rattle.ups_life.specs.declared.request.Request.{Request}
use Rattle.ups_life.specs.declared.request.Request.TheVariants.{Create, Change, AskCancel, Set, Subscribe, Unsubscribe, Suspend, Ack, Sweep, Reserve}
use Rattle.ups_life.specs.Settings.{Settings}
use Rattle.ups_life.specs.Steps.{step_of, named_step}
use Rattle.ups_life.specs.History.{accepts, status, decided, in_room}
use Rattle.ups_compact.specs.Compacting.{is_about, is_left}

-- what is left is about the steps that stay
pub names_left : {A : Type 0} (steps : List (List ℕ)) (r : Request A) → is_left steps r ≡ true → is_about steps (named_step r) ≡ true
names_left steps (Create v set) is = is
names_left steps (Change step state t) is = is
names_left steps (AskCancel step reasons) is = is
names_left steps (Set step t set) is = is
names_left steps (Subscribe target receiver lock) is = is
names_left steps (Unsubscribe place receiver) is = is
names_left steps (Suspend receiver) is = refl
names_left steps (Ack upto) is = refl
names_left steps Sweep is = refl
names_left steps (Reserve step) is = refl

pub on_left : {A : Type 0} (steps : List (List ℕ)) (r : Request A) → is_left steps r ≡ true → is_about steps (step_of r) ≡ true
on_left steps (Create v set) is = is
on_left steps (Change step state t) is = is
on_left steps (AskCancel step reasons) is = is
on_left steps (Set step t set) is = is
on_left steps (Subscribe target receiver lock) is = refl
on_left steps (Unsubscribe place receiver) is = refl
on_left steps (Suspend receiver) is = refl
on_left steps (Ack upto) is = refl
on_left steps Sweep is = refl
on_left steps (Reserve step) is = refl

pub decided_left : {A : Type 0} (s : Settings) (steps : List (List ℕ)) (e : Entry A) (ls es : List (Entry A)) (r : Request A) → is_left steps r ≡ true → status s ls e ≡ status s es e → decided s ls e r ≡ decided s es e r
decided_left s steps e ls es (Create v set) is h = ap Answered h
decided_left s steps e ls es (Change step state t) is h = ap Answered h
decided_left s steps e ls es (AskCancel step reasons) is h = ap Answered h
decided_left s steps e ls es (Set step t set) is h = ap Answered h
decided_left s steps e ls es (Subscribe target receiver lock) is h = ap Answered h
decided_left s steps e ls es (Unsubscribe place receiver) is h = ap Answered h
decided_left s steps e ls es (Suspend receiver) is h = ap Answered h
decided_left s steps e ls es (Ack upto) is h = absurd cc
decided_left s steps e ls es Sweep is h = absurd cc
decided_left s steps e ls es (Reserve v) is h = ap Answered h

-- there is room for less where there was for more
abbrev pub no_room : {A : Type 0} → Reply A
no_room = Answered ResourceLimitation

pub had_room : {A : Type 0} (done free : Bool) (x : Reply A) → accepts x ≡ done → accepts (cond (done && not free) no_room x) ≡ true → (done ≡ true) × (free ≡ true)
had_room true true x e h = (refl, refl)
had_room true false x e h = absurd cc
had_room false true x e h = absurd cc
had_room false false x e h = absurd cc

pub has_room : {A : Type 0} (done free : Bool) (x : Reply A) → accepts x ≡ done → done ≡ true → free ≡ true → accepts (cond (done && not free) no_room x) ≡ true
has_room true true x e d f = e
has_room true false x e d f = absurd cc
has_room false free x e d f = absurd cc

pub lower : (n m k : ℕ) → n ≤ m → nat_lt m k ≡ true → nat_lt n k ≡ true
lower n m k le h = grind (arith, nat_tests)

pub accepted_left : {A : Type 0} (s : Settings) (ls es : List (Entry A)) (x : Reply A) → length ls ≤ length es → accepts (in_room s es x) ≡ true → accepts (in_room s ls x) ≡ true
accepted_left s ls es x le h =
    let had = had_room (accepts x) (nat_lt (length es) s.limit) x refl h in
    has_room (accepts x) (nat_lt (length ls) s.limit) x refl had.0 (lower (length ls) (length es) s.limit le had.1)

pub both : (p q : Bool) → p && q ≡ true → (p ≡ true) × (q ≡ true)
both true q e = (refl, e)
both false q e = absurd cc

pub join : (p q : Bool) → p ≡ true → q ≡ true → p && q ≡ true
join true q e f = f
join false q e f = absurd cc

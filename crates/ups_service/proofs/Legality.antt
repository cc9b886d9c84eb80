-- What a legal history owes, and what a call enters.
use Rattle.std.proofs.Common.{◌≡◌, ℕ, ◌+◌, ◌≤◌, Bool, true, false, cond, ◌&&◌, List, [], ◌∷◌, ◌++◌, length, refl, subst, arith}
use Rattle.std.specs.Prelude.{nat_lt, not}
use Rattle.std.specs.List.{AllByRecursion}
use Rattle.std.proofs.lemmas.Bool.Decides.{nat_tests}
use Rattle.std.proofs.lemmas.List.{reverse-append}
use Rattle.ups_life.specs.declared.entry.Entry.{Entry}
use Rattle.ups_life.specs.declared.request.Ask.{Ask}
use Rattle.ups_life.specs.declared.request.Ask.TheVariants.{Do, Get, Find, Pending}
use Rattle.ups_life.specs.declared.request.Reply.{Reply}
use Rattle.ups_life.specs.declared.request.Reply.TheVariants.{Status as Answered}
use Rattle.ups_cycle.specs.declared.status.Status.TheVariants.{ResourceLimitation}
use Rattle.ups_life.specs.Settings.{Settings}
use Rattle.ups_life.specs.Steps.{past}
use Rattle.ups_life.specs.History.{accepts, legal, decided, reply}
use Rattle.ups_life.proofs.Accepted.{differ, legal_tail}
use Rattle.ups_life.proofs.Past.{length-past}
use Rattle.ups_service.specs.Law.{is_legal, entry, entered, lacking}

-- the reply of want of room
abbrev pub no_room : {A : Type 0} → Reply A
no_room = Answered ResourceLimitation

first_of : (p q : Bool) → p && q ≡ true → p ≡ true
first_of true q e = refl
first_of false q e = absurd cc

-- what is accepted had room
had_room : {A : Type 0} (done free : Bool) (x : Reply A) → accepts x ≡ done → accepts (cond (done && not free) no_room x) ≡ true → free ≡ true
had_room done true x e h = refl
had_room true false x e h = absurd cc
had_room false false x e h = absurd (differ (accepts x) e h)

more : (n m : ℕ) → nat_lt n m ≡ true → n + 1 ≤ m
more n m h = grind (arith, nat_tests)

within_limit : {A : Type 0} (s : Settings) (es : List (Entry A)) → legal s es ≡ true → length es ≤ s.limit
within_limit s [] h = omega arith
within_limit s (e ∷ es) h =
    let free = had_room (accepts (decided s es e e.request)) (nat_lt (length es) s.limit) (decided s es e e.request) refl (first_of (accepts (reply s es e)) (legal s es) h) in
    omega (arith, more (length es) s.limit free)

pub legal_within : {A : Type 0} (s : Settings) (history : List (Entry A)) → is_legal s history → length history ≤ s.limit
legal_within s history h = omega (arith, within_limit s (past history) h, length-past history)

later : {A : Type 0} (s : Settings) (es before : List (Entry A)) → legal s (es ++ before) ≡ true → legal s before ≡ true
later s [] before h = h
later s (e ∷ es) before h = later s es before (legal_tail s e (es ++ before) h)

pub beginning_legal : {A : Type 0} (s : Settings) (first rest : List (Entry A)) → is_legal s (first ++ rest) → is_legal s first
beginning_legal {A} s first rest h = later s (past rest) (past first) (subst (λ (es : List (Entry A)). legal s es ≡ true) (reverse-append first rest) h)

numbered : {A : Type 0} (b : Bool) (e : Entry A) → AllByRecursion (λ (x : Entry A). x.caller ≡ e.caller) (cond b (e ∷ []) [])
numbered true e = (refl, tt)
numbered false e = tt

few_by : {A : Type 0} (b : Bool) (e : Entry A) → length (cond b (e ∷ []) []) ≤ 1
few_by true e = omega arith
few_by false e = omega arith

-- a call enters one request at most
pub entered_few : {A : Type 0} (caller : ℕ) (ae : List ℕ) (moment : ℕ) (ask : Ask A) (reply : Reply A) → length (entered caller ae moment ask reply) ≤ 1
entered_few caller ae moment (Do request) reply = few_by (accepts reply) (entry caller ae moment request)
entered_few caller ae moment (Get step listed) reply = omega arith
entered_few caller ae moment (Find keys) reply = omega arith
entered_few caller ae moment (Pending max) reply = omega arith

pub entered_numbered : {A : Type 0} (caller : ℕ) (ae : List ℕ) (moment : ℕ) (ask : Ask A) (reply : Reply A) → AllByRecursion (λ (e : Entry A). e.caller ≡ caller) (entered caller ae moment ask reply)
entered_numbered caller ae moment (Do request) reply = numbered (accepts reply) (entry caller ae moment request)
entered_numbered caller ae moment (Get step listed) reply = tt
entered_numbered caller ae moment (Find keys) reply = tt
entered_numbered caller ae moment (Pending max) reply = tt

pub lacking_enters_nothing : {A : Type 0} (caller : ℕ) (ae : List ℕ) (moment : ℕ) (ask : Ask A) → entered caller ae moment ask (Answered (lacking ask)) ≡ []
lacking_enters_nothing caller ae moment (Do request) = refl
lacking_enters_nothing caller ae moment (Get step listed) = refl
lacking_enters_nothing caller ae moment (Find keys) = refl
lacking_enters_nothing caller ae moment (Pending max) = refl

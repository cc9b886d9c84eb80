-- Of entries that go on legally each is accepted.
use Rattle.std.proofs.Common.{◌≡◌, Bool, true, false, ◌&&◌, List, [], ◌∷◌, ◌++◌, refl, sym, subst, arith}
use Rattle.std.proofs.lemmas.List.{append_assoc}
use Rattle.ups_life.specs.declared.entry.Entry.{Entry}
use Rattle.ups_life.specs.Settings.{Settings, IsMoment}
use Rattle.ups_life.specs.Steps.{past}
use Rattle.ups_life.specs.History.{accepts, reply, legal}
use Rattle.ups_life.proofs.Past.{past-push}
use Rattle.ups_service.specs.Law.{is_legal}
use Rattle.ups_service.proofs.Legality.{beginning_legal}
use Rattle.ups_restore.specs.declared.fault.Refusal.{Refusal}
use Rattle.ups_restore.specs.declared.fault.Refusal.TheVariants.{BadMoment, Refused, NoRoom}
use Rattle.ups_restore.specs.Replaying.{IsRefusal}

first_of : (p q : Bool) → p && q ≡ true → p ≡ true
first_of true q e = refl
first_of false q e = absurd cc

pub accepted : {A : Type 0} (s : Settings) (h : List (Entry A)) (e : Entry A) (rest : List (Entry A)) → is_legal s (h ++ e ∷ rest) → accepts (reply s (past h) e) ≡ true
accepted {A} s h e rest l =
    let front : is_legal s (h ++ e ∷ []) = beginning_legal s (h ++ e ∷ []) rest (subst (λ (es : List (Entry A)). is_legal s es) (sym (append_assoc h (e ∷ []) rest)) l) in
    first_of (accepts (reply s (past h) e)) (legal s (past h)) (subst (λ (es : List (Entry A)). legal s es ≡ true) (past-push h e) front)

pub only_room : {A : Type 0} (s : Settings) (h : List (Entry A)) (e : Entry A) (rest : List (Entry A)) (r : Refusal) → is_legal s (h ++ e ∷ rest) → IsMoment e.moment → IsRefusal s h e r → r ≡ NoRoom
only_room s h e rest BadMoment l m w = absurd (omega arith)
only_room s h e rest Refused l m w = let a = accepted s h e rest l in let f = w.0 in absurd cc
only_room s h e rest NoRoom l m w = refl

pub refusal_of : {A : Type 0} (s t : Settings) (h k : List (Entry A)) (e : Entry A) (r : Refusal) → s ≡ t → h ≡ k → IsRefusal s h e r → IsRefusal t k e r
refusal_of {A} s t h k e r p q w = subst (λ (x : Settings). IsRefusal x k e r) p (subst (λ (x : List (Entry A)). IsRefusal s x e r) q w)

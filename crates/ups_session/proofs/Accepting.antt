-- An acceptance can be written, and leaves room for fragments.
use Rattle.std.proofs.Common.{◌≡◌, ◌∙◌, ℕ, ◌≤◌, Bool, true, false, cond, List, Option, None, Some, refl, sym, ap, subst, arith}
use Rattle.std.specs.Prelude.{◌≢◌, nat_lt, ◌||◌, ◌==◌, not}
use Rattle.std.proofs.lemmas.Bool.Decides.{nat_tests}
use Rattle.ups_pdu.specs.declared.associate.AssociateRq.{AssociateRq}
use Rattle.ups_assoc.specs.declared.negotiating.Acceptance.{Acceptance}
use Rattle.ups_assoc.specs.declared.negotiating.Outcome.{Outcome}
use Rattle.ups_assoc.specs.declared.negotiating.Outcome.TheVariants.{Accept, Reject}
use Rattle.ups_assoc.specs.declared.negotiating.Rejection.{Rejection}
use Rattle.ups_assoc.specs.Titles.{title, is_this_title}
use Rattle.ups_assoc.specs.Negotiation.{counted, is_too_small, acceptance, outcome, outcome_for, has_version_1, is_dicom, IsWritable}
use Rattle.ups_ulstate.specs.declared.state.UlState.{UlState}
use Rattle.ups_ulstate.specs.declared.state.UlEvent.TheVariants as events
use Rattle.ups_ulstate.specs.declared.state.UlAction.{UlAction}
use Rattle.ups_ulstate.specs.declared.state.UlAction.TheVariants.{Ae6}
use Rattle.ups_session.specs.Acceptor.{answers, requested_at}
use Rattle.ups_session.specs.Association.{AssociationView}
use Rattle.ups_session.specs.Effects.{IsAccepting}
use Rattle.ups_session.specs.Sides.{ReactionOf, transition, on_action, unexpected}

counted_room : (m : ℕ) (zero_ long : Bool) → (m == 0) ≡ zero_ → nat_lt 16384 m ≡ long → is_too_small m ≡ false → 8 ≤ cond (zero_ || long) 16384 m
counted_room m true long e f h = omega (arith)
counted_room m false true e f h = omega (arith)
counted_room m false false e f h = grind (arith, nat_tests)

room : (m : ℕ) → is_too_small m ≡ false → 8 ≤ counted m
room m h = counted_room m (m == 0) (nat_lt 16384 m) refl refl h

abbrev accepting_ : {A : Type 0} → Acceptance A → Outcome A
accepting_ a = Accept a

abbrev rejecting_ : {A : Type 0} → Rejection → Outcome A
rejecting_ r = Reject r

no_acceptance : {A : Type 0} (r : Rejection) (a : Acceptance A) → rejecting_ r ≡ accepting_ a → 8 ≤ a.max
no_acceptance r a e = absurd cc

same_max : {A : Type 0} (request : AssociateRq A) (calling : List ℕ) (a : Acceptance A) → accepting_ (acceptance request calling) ≡ accepting_ a → counted request.user_information.maximum_length ≡ a.max
unfolding acceptance
same_max request calling a e =
    let same : acceptance request calling ≡ a = cc in
    ap (λ x. x.max) same

roomy_if : {A : Type 0} (request : AssociateRq A) (calling : List ℕ) (a : Acceptance A) (r : Rejection) (small : Bool) → is_too_small request.user_information.maximum_length ≡ small
    → cond small (rejecting_ r) (accepting_ (acceptance request calling)) ≡ accepting_ a → 8 ≤ a.max
roomy_if request calling a r true h e = no_acceptance r a e
roomy_if request calling a r false h e = subst (λ (n : ℕ). 8 ≤ n) (same_max request calling a e) (room request.user_information.maximum_length h)

roomy_for : {A : Type 0} (request : AssociateRq A) (t : Option (List ℕ)) (a : Acceptance A) → outcome_for request t ≡ accepting_ a → 8 ≤ a.max
roomy_for request None a e = absurd cc
roomy_for request (Some calling) a e = roomy_if request calling a _ (is_too_small request.user_information.maximum_length) refl e

unless : {A : Type 0} (b : Bool) (r : Rejection) (rest : Outcome A) (a : Acceptance A) → (rest ≡ accepting_ a → 8 ≤ a.max) → cond b (rejecting_ r) rest ≡ accepting_ a → 8 ≤ a.max
unless true r rest a f e = no_acceptance r a e
unless false r rest a f e = f e

roomy : {A : Type 0} (ae : List ℕ) (request : AssociateRq A) (a : Acceptance A) → outcome ae request ≡ accepting_ a → 8 ≤ a.max
roomy ae request a e =
    unless (not (has_version_1 request.protocol_version)) _ _ a
    (unless (not (is_dicom request.application_context)) _ _ a
    (unless (not (is_this_title ae request.called)) _ _ a (roomy_for request (title request.calling) a)))
    e

-- what is answered to a request that was read
pub accepting : {A : Type 0} (ae : List ℕ) (request : AssociateRq A) (o : Outcome A) → o ≡ outcome ae request → IsWritable o → IsAccepting o
accepting ae request (Accept a) is w = (w, roomy ae request a (sym is))
accepting ae request (Reject r) is w = tt

-- a request in the state in which one is awaited
pub answered : {A : Type 0} (association : AssociationView A) (o : Outcome A) (cell : Option (UlAction × UlState)) (action : UlAction) (state : UlState) (mid : AssociationView A) (reaction : ReactionOf A) → cell ≡ Some (action, state) → action ≡ Ae6
    → mid ≡ transition association events.AssociateRq action state → reaction ≡ answers false mid o → reaction ≡ requested_at false association o cell
answered {A} association o cell action state mid reaction is moves same e =
    let cell_is : cell ≡ Some (Ae6, state) = subst (λ (a : UlAction). cell ≡ Some (a, state)) moves is in
    let mid_is : mid ≡ transition association events.AssociateRq Ae6 state = subst (λ (a : UlAction). mid ≡ transition association events.AssociateRq a state) moves same in
    e ∙ ap (λ (m : AssociationView A). answers false m o) mid_is ∙ ap (requested_at false association o) (sym cell_is)

other_request : {A : Type 0} (association : AssociationView A) (o : Outcome A) (action : UlAction) (state : UlState) (reaction : ReactionOf A) → action ≢ Ae6
    → reaction ≡ on_action false unexpected (transition association events.AssociateRq action state) action → reaction ≡ requested_at false association o (Some (action, state))
other_request association o Ae6 state reaction unlike e = absurd (unlike refl)
other_request association o action state reaction unlike e = e

-- a request in another state
pub not_answered : {A : Type 0} (association : AssociationView A) (o : Outcome A) (cell : Option (UlAction × UlState)) (action : UlAction) (state : UlState) (mid : AssociationView A) (reaction : ReactionOf A) → cell ≡ Some (action, state) → action ≢ Ae6
    → mid ≡ transition association events.AssociateRq action state → reaction ≡ on_action false unexpected mid action → reaction ≡ requested_at false association o cell
not_answered {A} association o cell action state mid reaction is unlike same e =
    other_request association o action state reaction unlike (e ∙ ap (λ (m : AssociationView A). on_action false unexpected m action) same) ∙ ap (requested_at false association o) (sym is)

-- What both sides of an association, the requestor and the acceptor, have in common (PS3.8 section 9.2).
use Rattle.std.specs.Prelude.{ℕ, Bool, true, ◌==◌, List, [], ◌∷◌, map, find, Option, None, Some}
use Rattle.std.specs.Option.{unwrap_or}
use Rattle.ups_ulstate.specs.declared.state.UlState.{UlState}
use Rattle.ups_ulstate.specs.declared.state.UlEvent.{UlEvent}
use Rattle.ups_ulstate.specs.declared.state.UlEvent.TheVariants as events
use Rattle.ups_ulstate.specs.declared.state.UlAction.{UlAction}
use Rattle.ups_ulstate.specs.declared.state.UlAction.TheVariants.{Ae4, Ae8, Ar1, Ar2, Ar3, Ar4, Ar8, Ar9, Ar10, Aa1, Aa2, Aa3, Aa4, Aa5, Aa7, Aa8}
use Rattle.ups_ulstate.specs.Table.{next_of}
use Rattle.ups_pdu.specs.declared.fault.PduFault.{PduFault}
use Rattle.ups_pdu.specs.declared.fault.PduFault.TheVariants.{UnknownType}
use Rattle.ups_pdu.specs.declared.pdu.Pdu.{Pdu}
use Rattle.ups_pdu.specs.declared.pdu.Pdu.TheVariants.{ReleaseRq, ReleaseRp, Abort}
use Rattle.ups_assoc.specs.declared.negotiating.AcceptedContext.{AcceptedContext}
use Rattle.ups_assoc.specs.declared.assembling.Begun.{Begun}
use Rattle.ups_session.specs.declared.fault.End.{End}
use Rattle.ups_session.specs.declared.fault.End.TheVariants.{Released, AbortSent, AbortReceived, Closed, Rejected}
use Rattle.ups_session.specs.Association.{EstablishedView, AssociationView}
use Rattle.ups_session.specs.Dispatch.{AwaitedRequestView}
use Rattle.ups_session.specs.Fold.{Reaction}

abbrev pub ReactionOf : Type 0 → Type 0
ReactionOf A = Reaction A (AssociationView A) (AwaitedRequestView A)

abbrev pub sending : {A : Type 0} → AssociationView A → List (Pdu A) → ReactionOf A
sending association send = record { association = association; send = send; waiting = None }

-- how an action ends the association, if it does (PS3.8 tables 9-6 to 9-9)
abbrev pub end_after : UlEvent → UlAction → Option End
end_after e Ae4 = Some Rejected
end_after e Ae8 = Some Rejected
end_after e Ar3 = Some Released
end_after e Ar4 = Some Released
end_after e Ar9 = Some Released
end_after e Ar10 = Some Released
end_after e Aa1 = Some AbortSent
end_after e Aa7 = Some AbortSent
end_after e Aa8 = Some AbortSent
end_after events.Abort Aa2 = Some AbortReceived
end_after e Aa3 = Some AbortReceived
end_after e Aa4 = Some Closed
end_after e Aa5 = Some Closed
end_after e action = None

-- the association after an action
abbrev pub transition : {A : Type 0} → AssociationView A → UlEvent → UlAction → UlState → AssociationView A
transition association e action state = record { state = state; established = association.established; ending = unwrap_or (end_after e action) association.ending }

-- the association after an event that this side causes itself, if the table has a cell for it
abbrev pub local_event_at : {A : Type 0} → AssociationView A → UlEvent → Option (UlAction × UlState) → AssociationView A
local_event_at association e None = association
local_event_at association e (Some cell) = transition association e cell.0 cell.1

abbrev pub on_local_event : {A : Type 0} → Bool → UlEvent → AssociationView A → AssociationView A
on_local_event requestor e association = local_event_at association e (next_of requestor true e association.state)

-- the PDUs that an action sends; the reason is that of an abort by the service provider (PS3.8 table 9-26)
abbrev pub sends : {A : Type 0} → ℕ → UlAction → List (Pdu A)
sends reason Ar1 = ReleaseRq ∷ []
sends reason Aa1 = Abort 0 0 ∷ []
sends reason Aa7 = Abort 2 reason ∷ []
sends reason Aa8 = Abort 2 reason ∷ []
sends reason action = []

-- a release is answered if the table has a cell for that
abbrev pub releases : {A : Type 0} → AssociationView A → Option (UlAction × UlState) → ReactionOf A
releases association None = sending association []
releases association (Some cell) = sending (transition association events.ReleaseResponse cell.0 cell.1) (ReleaseRp ∷ [])

-- A release is answered at once (PS3.8 section 7.2). If both sides asked for it, the requestor of the association
-- answers first, and the acceptor once it has that answer (PS3.8 section 7.2.2.7).
abbrev pub on_action : {A : Type 0} → Bool → ℕ → AssociationView A → UlAction → ReactionOf A
on_action requestor reason association Ar2 = releases association (next_of requestor true events.ReleaseResponse association.state)
on_action requestor reason association Ar8 = releases association (next_of requestor true events.ReleaseResponse association.state)
on_action requestor reason association Ar10 = releases association (next_of requestor true events.ReleaseResponse association.state)
on_action requestor reason association action = sending association (sends reason action)

-- the reaction to an event that carries no data
abbrev pub on_event : {A : Type 0} → Bool → ℕ → AssociationView A → UlEvent → Option (UlAction × UlState) → ReactionOf A
on_event requestor reason association e None = sending association []
on_event requestor reason association e (Some cell) = on_action requestor reason (transition association e cell.0 cell.1) cell.0

-- reasons of an abort: 1 unrecognized PDU, 2 unexpected PDU, 6 invalid PDU parameter value
abbrev pub unexpected : ℕ
unexpected = 2

abbrev pub reason_of : PduFault → ℕ
reason_of UnknownType = 1
reason_of other = 6

-- the ids of presentation contexts
abbrev pub ids : List AcceptedContext → List ℕ
ids contexts = map (λ c. c.id) contexts

-- this side aborts the association (PS3.8 section 7.3)
abbrev pub aborting : {A : Type 0} → Bool → AssociationView A → ReactionOf A
aborting requestor association = sending (on_local_event requestor events.AbortRequest association) (Abort 0 0 ∷ [])

abbrev pub with_begun : {A : Type 0} → AssociationView A → EstablishedView A → Begun A → AssociationView A
with_begun association established begun = record { state = association.state; established = Some (record { parameters = established.parameters; assembler = record { ids = established.assembler.ids; begun = begun } }); ending = association.ending }

-- the presentation context with an id
abbrev pub context_at : ℕ → List AcceptedContext → Option AcceptedContext
context_at id contexts = find (λ c. c.id == id) contexts

-- The state transition table of PS3.8 section 9.2.3.
use Rattle.std.specs.Prelude.{ℕ, Bool, List, [], ◌∷◌, Option, None, Some, ◌==◌, if◌then◌else◌}
use Rattle.std.specs.List.{list_any}
use Rattle.std.specs.Option.{option_map}
use Rattle.ups_ulstate.specs.declared.state.UlState.{UlState}
use Rattle.ups_ulstate.specs.declared.state.UlState.TheVariants.{Sta1, Sta2, Sta3, Sta4, Sta5, Sta6, Sta7, Sta8, Sta9, Sta10, Sta11, Sta12, Sta13}
use Rattle.ups_ulstate.specs.declared.state.UlEvent.{UlEvent}
use Rattle.ups_ulstate.specs.declared.state.UlEvent.TheVariants as events
use Rattle.ups_ulstate.specs.declared.state.UlAction.{UlAction}
use Rattle.ups_ulstate.specs.declared.state.UlAction.TheVariants.{Ae1, Ae2, Ae3, Ae4, Ae5, Ae6, Ae7, Ae8, Dt1, Dt2, Ar1, Ar2, Ar3, Ar4, Ar5, Ar6, Ar7, Ar8, Ar9, Ar10, Aa1, Aa2, Aa3, Aa4, Aa5, Aa6, Aa7, Aa8}

-- the number of a state, which is its column in table 9-10
abbrev pub state_number : UlState → ℕ
state_number Sta1 = 1
state_number Sta2 = 2
state_number Sta3 = 3
state_number Sta4 = 4
state_number Sta5 = 5
state_number Sta6 = 6
state_number Sta7 = 7
state_number Sta8 = 8
state_number Sta9 = 9
state_number Sta10 = 10
state_number Sta11 = 11
state_number Sta12 = 12
state_number Sta13 = 13

-- PS3.8 table 9-10, row by row: each action of the row, with the states in which it is taken; a state that is not
-- listed has an empty cell
abbrev pub cells : UlEvent → List (List ℕ × UlAction)
cells events.AssociateRequest = (1 ∷ [], Ae1) ∷ []
cells events.TransportConfirmed = (4 ∷ [], Ae2) ∷ []
cells events.AssociateAc = (2 ∷ [], Aa1) ∷ (3 ∷ 6 ∷ 7 ∷ 8 ∷ 9 ∷ 10 ∷ 11 ∷ 12 ∷ [], Aa8) ∷ (5 ∷ [], Ae3) ∷ (13 ∷ [], Aa6) ∷ []
cells events.AssociateRj = (2 ∷ [], Aa1) ∷ (3 ∷ 6 ∷ 7 ∷ 8 ∷ 9 ∷ 10 ∷ 11 ∷ 12 ∷ [], Aa8) ∷ (5 ∷ [], Ae4) ∷ (13 ∷ [], Aa6) ∷ []
cells events.TransportIndication = (1 ∷ [], Ae5) ∷ []
cells events.AssociateRq = (2 ∷ [], Ae6) ∷ (3 ∷ 5 ∷ 6 ∷ 7 ∷ 8 ∷ 9 ∷ 10 ∷ 11 ∷ 12 ∷ [], Aa8) ∷ (13 ∷ [], Aa7) ∷ []
cells events.LocalAccept = (3 ∷ [], Ae7) ∷ []
cells events.LocalReject = (3 ∷ [], Ae8) ∷ []
cells events.DataRequest = (6 ∷ [], Dt1) ∷ (8 ∷ [], Ar7) ∷ []
cells events.Data = (2 ∷ [], Aa1) ∷ (3 ∷ 5 ∷ 8 ∷ 9 ∷ 10 ∷ 11 ∷ 12 ∷ [], Aa8) ∷ (6 ∷ [], Dt2) ∷ (7 ∷ [], Ar6) ∷ (13 ∷ [], Aa6) ∷ []
cells events.ReleaseRequest = (6 ∷ [], Ar1) ∷ []
cells events.ReleaseRq = (2 ∷ [], Aa1) ∷ (3 ∷ 5 ∷ 8 ∷ 9 ∷ 10 ∷ 11 ∷ 12 ∷ [], Aa8) ∷ (6 ∷ [], Ar2) ∷ (7 ∷ [], Ar8) ∷ (13 ∷ [], Aa6) ∷ []
cells events.ReleaseRp = (2 ∷ [], Aa1) ∷ (3 ∷ 5 ∷ 6 ∷ 8 ∷ 9 ∷ 12 ∷ [], Aa8) ∷ (7 ∷ 11 ∷ [], Ar3) ∷ (10 ∷ [], Ar10) ∷ (13 ∷ [], Aa6) ∷ []
cells events.ReleaseResponse = (8 ∷ 12 ∷ [], Ar4) ∷ (9 ∷ [], Ar9) ∷ []
cells events.AbortRequest = (3 ∷ 5 ∷ 6 ∷ 7 ∷ 8 ∷ 9 ∷ 10 ∷ 11 ∷ 12 ∷ [], Aa1) ∷ (4 ∷ [], Aa2) ∷ []
cells events.Abort = (2 ∷ 13 ∷ [], Aa2) ∷ (3 ∷ 5 ∷ 6 ∷ 7 ∷ 8 ∷ 9 ∷ 10 ∷ 11 ∷ 12 ∷ [], Aa3) ∷ []
cells events.TransportClosed = (2 ∷ [], Aa5) ∷ (3 ∷ 4 ∷ 5 ∷ 6 ∷ 7 ∷ 8 ∷ 9 ∷ 10 ∷ 11 ∷ 12 ∷ [], Aa4) ∷ (13 ∷ [], Ar5) ∷ []
cells events.TimerExpired = (2 ∷ 13 ∷ [], Aa2) ∷ []
cells events.Invalid = (2 ∷ [], Aa1) ∷ (3 ∷ 5 ∷ 6 ∷ 7 ∷ 8 ∷ 9 ∷ 10 ∷ 11 ∷ 12 ∷ [], Aa8) ∷ (13 ∷ [], Aa7) ∷ []

-- the action of the first entry of a row that lists the state
abbrev pub action_of : ℕ → List (List ℕ × UlAction) → Option UlAction
action_of state [] = None
action_of state (c ∷ cs) = if list_any (λ n. state == n) c.0 then Some c.1 else action_of state cs

-- PS3.8 tables 9-6 to 9-9: the next state of each action. That of AE-6 depends on whether the service provider can
-- accept the association request, that of AR-8 on which side requested the association.
abbrev pub after : Bool → Bool → UlAction → UlState
after requestor acceptable Ae1 = Sta4
after requestor acceptable Ae2 = Sta5
after requestor acceptable Ae3 = Sta6
after requestor acceptable Ae4 = Sta1
after requestor acceptable Ae5 = Sta2
after requestor acceptable Ae6 = if acceptable then Sta3 else Sta13
after requestor acceptable Ae7 = Sta6
after requestor acceptable Ae8 = Sta13
after requestor acceptable Dt1 = Sta6
after requestor acceptable Dt2 = Sta6
after requestor acceptable Ar1 = Sta7
after requestor acceptable Ar2 = Sta8
after requestor acceptable Ar3 = Sta1
after requestor acceptable Ar4 = Sta13
after requestor acceptable Ar5 = Sta1
after requestor acceptable Ar6 = Sta7
after requestor acceptable Ar7 = Sta8
after requestor acceptable Ar8 = if requestor then Sta9 else Sta10
after requestor acceptable Ar9 = Sta11
after requestor acceptable Ar10 = Sta12
after requestor acceptable Aa1 = Sta13
after requestor acceptable Aa2 = Sta1
after requestor acceptable Aa3 = Sta1
after requestor acceptable Aa4 = Sta1
after requestor acceptable Aa5 = Sta1
after requestor acceptable Aa6 = Sta13
after requestor acceptable Aa7 = Sta13
after requestor acceptable Aa8 = Sta13

-- PS3.8 table 9-10 as a whole: the action taken on an event in a state, and the state after it
abbrev pub next_of : Bool → Bool → UlEvent → UlState → Option (UlAction × UlState)
next_of requestor acceptable event state = option_map (λ a. (a, after requestor acceptable a)) (action_of (state_number state) (cells event))

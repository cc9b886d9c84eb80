-- What the requestor of an association does first.
use Rattle.std.proofs.Common.{ℕ, List, [], ◌∷◌, refl, None, Result}
use Rattle.ups_ulstate.specs.declared.state.UlState.TheVariants.{Sta4}
use Rattle.ups_ulstate.specs.declared.state.UlEvent.TheVariants.{AssociateRequest, TransportConfirmed}
use Rattle.ups_pdu.specs.declared.pdu.Pdu.TheVariants.{AssociateRq}
use Rattle.ups_assoc.specs.declared.negotiating.Config.{Config}
use Rattle.ups_session.specs.declared.fault.End.TheVariants.{Closed}
use Rattle.ups_session.specs.declared.fault.SessionFault.{SessionFault}
use Rattle.ups_session.specs.Delivery.{DeliveryView}
use Rattle.ups_session.specs.Fold.{event, Happens}
use Rattle.ups_session.specs.Proposing.{association_request}
use Rattle.ups_session.specs.Requestor.{saying, requestor, unconnected, proposed}
use Rattle.ups_session.specs.Session.{okay}
use Rattle.ups_session.specs.World.{World, SendsAlone, Performed}
use Rattle.ups_session.proofs.Going.{goes_on}
use Rattle.ups_session.proofs.Settling.{settled_said, performed_settled, on_ok}
use Rattle.ups_session.proofs.Spoken.{says_nothing}

-- the transport connection is awaited
abbrev connecting : {A : Type 0} → DeliveryView A
connecting = record { association = record { state = Sta4; established = None; ending = Closed }; ahead = []; in_flight = None; sent = 0 }

-- it connects, and sends the A-ASSOCIATE-RQ
pub begins : {A Y : Type 0} (config : Config) (ae : List ℕ) (u v : World A) (r : Result Y SessionFault) → SendsAlone (AssociateRq (association_request config.ae ae) ∷ []) u v r
    → Performed (Happens (requestor {A = A} config ae)) (event AssociateRequest ∷ event TransportConfirmed ∷ []) unconnected proposed u v r
begins {A} config ae u v r is =
    let side = requestor {A = A} config ae in
    let first : Performed (Happens side) (event AssociateRequest ∷ []) unconnected connecting u u okay =
    performed_settled side unconnected connecting (event AssociateRequest) (saying connecting []) u u okay refl (settled_said side (saying connecting []) connecting u u okay refl refl (says_nothing u.output u.told, refl)) in
    let then : Performed (Happens side) (event TransportConfirmed ∷ []) connecting proposed u v r =
    performed_settled side connecting proposed (event TransportConfirmed) (saying proposed (AssociateRq (association_request config.ae ae) ∷ [])) u v r refl
    (settled_said side (saying proposed (AssociateRq (association_request config.ae ae) ∷ [])) proposed u v r refl (on_ok proposed r) is) in
    goes_on (Happens side) (event AssociateRequest ∷ []) (event TransportConfirmed ∷ []) unconnected connecting proposed u u v tt r first then

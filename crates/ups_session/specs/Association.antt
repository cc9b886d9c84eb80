-- An association, as seen by either side (PS3.8 section 7).
use Rattle.std.specs.Prelude.{ℕ, List, Option}
use Rattle.ups_ulstate.specs.declared.state.UlState.{UlState}
use Rattle.ups_assoc.specs.declared.negotiating.AcceptedContext.{AcceptedContext}
use Rattle.ups_assoc.specs.Assembly.{Assembly}
use Rattle.ups_session.specs.declared.fault.End.{End}

-- the negotiated parameters: the AE title of the peer, the accepted presentation contexts, and the longest P-DATA-TF
-- that the peer receives (PS3.8 section 7.1, annex D.1)
pub record ParametersView : Type 0 where
  pub ae : List ℕ
  pub contexts : List AcceptedContext
  pub max : ℕ

-- an established association: its parameters, and what has been received of the peer's next message
pub record EstablishedView (A : Type 0) : Type 0 where
  pub parameters : ParametersView
  pub assembler : Assembly A

-- The state of the association in the state table (PS3.8 section 9.2), what was established, and how it ends by what
-- has happened so far.
pub record AssociationView (A : Type 0) : Type 0 where
  pub state : UlState
  pub established : Option (EstablishedView A)
  pub ending : End

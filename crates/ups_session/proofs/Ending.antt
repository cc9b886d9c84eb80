-- What leaves an association open.
use Rattle.std.proofs.Common.{List, [], ◌∷◌, sym, ◌∙◌, subst}
use Rattle.ups_ulstate.specs.declared.state.UlEvent.TheVariants.{TransportClosed}
use Rattle.ups_session.specs.Fold.{Indication, event, Side, Arrival, pdu, bad, closed, brings, Chain, Happens, IsOpen}
use Rattle.ups_session.specs.Party.{IsOver}
use Rattle.ups_session.specs.Session.{NoEnd, okay}
use Rattle.ups_session.specs.World.{World, Performed}

-- what leaves the association open is not the end of the input
pub no_end_here : {A L W : Type 0} (side : Side A L W) → IsOver side → (a : Arrival A) (association after : L) (u v : World A) → Performed (Happens side) (brings a) association after u v okay → IsOpen (side.state after) → NoEnd (a ∷ [])
no_end_here side over (pdu p) association after u v g open_ = tt
no_end_here side over (bad f) association after u v g open_ = tt
no_end_here {A} {L} side over closed association after u v g open_ =
    let ran : Chain (Happens side) (event TransportClosed ∷ []) association g.due g.end = subst (λ (hs : List (Indication A)). Chain (Happens side) hs association g.due g.end) g.did.1 g.ran in
    let (mid, first, then, step, (silent, same), is) = ran in
    over association mid first step (subst (λ (l : L). IsOpen (side.state l)) (sym g.did.0 ∙ same) open_)

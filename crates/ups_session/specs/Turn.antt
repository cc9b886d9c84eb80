-- One turn of a session: something arrives, and its indications are processed.
use Rattle.std.specs.Prelude.{◌≡◌, ℕ, List, [], ◌∷◌, Result, Ok, Err}
use Rattle.ups_session.specs.declared.fault.SessionFault.{SessionFault}
use Rattle.ups_session.specs.declared.fault.SessionFault.TheVariants.{Read, Turns}
use Rattle.ups_session.specs.Fold.{Side, Arrival, brings, Happens}
use Rattle.ups_session.specs.World.{World, Performed}
use Rattle.ups_session.specs.WatchedIo.{Input}
use Rattle.ups_session.specs.Session.{Spells, AtEnd, Remainder, IsRemainder, Stops, brought, okay, failing}

abbrev pub IsTurn : {A L W : Type 0} → Side A L W → L → L → Input → List ℕ → World A → World A → Result (Unit {0}) SessionFault → Type 0
IsTurn {A} side association after now input old new (Ok done) =
    (a : Arrival A) × Spells input a × AtEnd now (a ∷ []) × Performed (Happens side) (brings a) association after old new okay
IsTurn {A} side association after now input old new (Err Read) =
    (remainder : Remainder A) × IsRemainder now input remainder × Stops remainder Read × (new ≡ old)
IsTurn side association after now input old new (Err Turns) = ⊥
IsTurn {A} {L} side association after now input old new (Err fault) =
    (remainder : Remainder A) × (last : L) × IsRemainder now input remainder × Stops remainder fault × Performed (Happens side) (brought remainder) association last old new (failing fault)

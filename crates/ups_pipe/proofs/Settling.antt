-- What stays the same in a session, and a session before which memory ran out.
use Rattle.std.proofs.Common.{◌≡◌, [], ℕ, List, Result, Ok, Err, refl, ◌∙◌, subst, inl, inr, ◌⊎◌}
use Rattle.ups_life.specs.Settings.{Settings}
use Rattle.ups_life.specs.declared.entry.Entry.{Entry}
use Rattle.ups_session.specs.declared.fault.End.{End}
use Rattle.ups_session.specs.declared.fault.SessionFault.{SessionFault}
use Rattle.ups_session.specs.declared.fault.SessionFault.TheVariants.{Read, Write, Turns, Memory}
use Rattle.ups_session.specs.Fold.{Side, Happens}
use Rattle.ups_session.specs.Session.{IsUnbegun, IsBroken, IsSession}
use Rattle.ups_session.specs.Tells.{Told}
use Rattle.ups_session.specs.WatchedIo.{Input, Output}
use Rattle.ups_service.specs.Law.{Others, alone}
use Rattle.ups_session.specs.World.{World, world}
use Rattle.ups_session.proofs.Going.{goes_short}

kept_short : {A L W : Type 0} (side : Side A L W) (start : L) (turns : ℕ) (now : Input) (input : List ℕ) (old new : World A) (fault : SessionFault)
    → IsUnbegun side start input old new fault ⊎ IsBroken side start turns now input old new fault → (new.settings ≡ old.settings) × (new.caller ≡ old.caller)
kept_short side start turns now input old new fault (inl (last, nothing, g)) = (g.changes.settings, g.changes.caller)
kept_short side start turns now input old new fault (inr (arrivals, after, rest, tail, between, last, came, on, is, why, g)) =
    (g.changes.settings ∙ came.performed.changes.settings ∙ came.begins.changes.settings, g.changes.caller ∙ came.performed.changes.caller ∙ came.begins.changes.caller)

-- the service keeps its settings, and stands for the same caller
pub kept : {A L W : Type 0} (side : Side A L W) (ending : L → End) (start : L) (turns : ℕ) (now : Input) (input : List ℕ) (old new : World A) (result : Result End SessionFault)
    → IsSession side ending start turns now input old new result → (new.settings ≡ old.settings) × (new.caller ≡ old.caller)
kept side ending start turns now input old new (Ok end) (arrivals, after, came, at_end, few, over, told) = (came.performed.changes.settings ∙ came.begins.changes.settings, came.performed.changes.caller ∙ came.begins.changes.caller)
kept side ending start turns now input old new (Err Read) (arrivals, after, rest, tail, came, on, is, why) = (came.performed.changes.settings ∙ came.begins.changes.settings, came.performed.changes.caller ∙ came.begins.changes.caller)
kept side ending start turns now input old new (Err Turns) (arrivals, after, came, unended, all, is_open) = (came.performed.changes.settings ∙ came.begins.changes.settings, came.performed.changes.caller ∙ came.begins.changes.caller)
kept side ending start turns now input old new (Err Write) is = kept_short side start turns now input old new Write is
kept side ending start turns now input old new (Err Memory) is = kept_short side start turns now input old new Memory is

-- the same session, with the settings that were fixed at the start
pub settled : {A L W : Type 0} (side : Side A L W) (ending : L → End) (start : L) (turns : ℕ) (now : Input) (input : List ℕ) (before later : Output) (m n : Told) (fixed s t : Settings) (o : Others) (c : ℕ) (seen then : List (Entry A)) (result : Result End SessionFault)
    → s ≡ fixed → seen ≡ [] → IsSession side ending start turns now input (world before m s o c (alone seen)) (world later n t o c (alone then)) result
    → IsSession side ending start turns now input (world before m fixed o c (alone [])) (world later n fixed o c (alone then)) result
settled {A} side ending start turns now input before later m n fixed s t o c seen then result same none_seen is =
    let all : t ≡ fixed = (kept side ending start turns now input (world before m s o c (alone seen)) (world later n t o c (alone then)) result is).0 ∙ same in
    subst (λ (x : List (Entry A)). IsSession side ending start turns now input (world before m fixed o c (alone x)) (world later n fixed o c (alone then)) result) none_seen
    (subst (λ (x : Settings). IsSession side ending start turns now input (world before m x o c (alone seen)) (world later n fixed o c (alone then)) result) same
    (subst (λ (x : Settings). IsSession side ending start turns now input (world before m s o c (alone seen)) (world later n x o c (alone then)) result) all is))

abbrev pub short : Result End SessionFault
short = Err Memory

-- memory ran out before anything was read
pub unbegun : {A L W : Type 0} (side : Side A L W) (ending : L → End) (start : L) (turns : ℕ) (now : Input) (w : World A) → IsSession side ending start turns now [] w w short
unbegun side ending start turns now w = inl (start, refl, goes_short (Happens side) side.first start start w)

-- What messages come to.
use Rattle.std.proofs.Common.{◌≡◌, ℕ, ℤ, List, [], ◌∷◌, sym, subst, refl, inl, inr, Option, None, Result, Ok, Err, IfOk}
use Rattle.std.specs.Prelude.{◌≢◌}
use Rattle.ups_dataset.specs.declared.tag.Tag.{Tag}
use Rattle.ups_dimse.specs.declared.command.Command.{Command}
use Rattle.ups_dimse.specs.declared.fault.DimseFault.{DimseFault}
use Rattle.ups_dimse.specs.declared.fault.DimseFault.TheVariants.{BadValue, Memory}
use Rattle.ups_dimse.specs.Elements.{CommandElement, command_tag}
use Rattle.ups_dimse.specs.Messages.{Need, has_us, may_have_us, may_have_at, needs}
use Rattle.ups_dimse.specs.Faults.{FirstFails, IsCommandFault}
use Rattle.ups_dimse.specs.Commands.{SpellsCommand}
use Rattle.ups_assoc.specs.declared.message.RawMessage.{RawMessage}
use Rattle.ups_session.specs.Association.{ParametersView}
use Rattle.ups_session.specs.declared.effect.AwaitedRequest.{AwaitedRequest}
use Rattle.ups_session.specs.declared.effect.Effect.{Effect}
use Rattle.ups_session.specs.declared.fault.SessionFault.{SessionFault}
use Rattle.ups_session.specs.Acceptor.{OnMessage}
use Rattle.ups_session.specs.Effects.{message_effect}

pub not_understood : {A : Type 0} (r : Result (Option (Effect A (AwaitedRequest A))) SessionFault) (offset : ℤ) (parameters : ParametersView) (message : RawMessage A) (bytes : List ℕ) (fault : DimseFault) → bytes ≡ message.command
    → ((command : Command A) → SpellsCommand bytes command → fault ≡ Memory) → IfOk r (λ found. (found ≡ None) × (fault ≢ Memory)) → IfOk r (λ found. OnMessage offset parameters message (message_effect found))
not_understood {A} (Ok found) offset parameters message bytes fault is only (none, other) =
    rw none (inr ((λ command s. other (only command (subst (λ (l : List ℕ). SpellsCommand l command) (sym is) s))), refl))
not_understood (Err e) offset parameters message bytes fault is only h = tt

not_bad : (tag : Tag) → Memory ≡ BadValue tag → ⊥
not_bad tag e = cc

none_fails : (elements : List CommandElement) (needed : List Need) → FirstFails elements needed Memory → ⊥
none_fails elements [] fails = fails
none_fails elements (has_us number ∷ more) (inl fails) = fails
none_fails elements (may_have_us number ∷ more) (inl fails) = not_bad (command_tag number) fails.0
none_fails elements (may_have_at number ∷ more) (inl fails) = not_bad (command_tag number) fails.0
none_fails elements (has_us number ∷ more) (inr (holds, fails)) = none_fails elements more fails
none_fails elements (may_have_us number ∷ more) (inr (holds, fails)) = none_fails elements more fails
none_fails elements (may_have_at number ∷ more) (inr (holds, fails)) = none_fails elements more fails

spelled_where_lost : {A : Type 0} (bytes : List ℕ) → IsCommandFault A bytes Memory → (command : Command A) × SpellsCommand bytes command
spelled_where_lost bytes (inl (is, command, spelled)) = (command, spelled)
spelled_where_lost bytes (inr (inl (none, is))) = absurd cc
spelled_where_lost bytes (inr (inr (elements, spelled, inl fails))) = absurd fails
spelled_where_lost bytes (inr (inr (elements, spelled, inr (inl (field, has, none, is))))) = absurd cc
spelled_where_lost bytes (inr (inr (elements, spelled, inr (inr (message, has, fails))))) = absurd (none_fails elements (needs message) fails)

-- where memory ran out, the command can be read
pub command_spelled : {A : Type 0} (message : RawMessage A) (bytes : List ℕ) (fault : DimseFault) → bytes ≡ message.command → IsCommandFault A bytes fault → fault ≡ Memory → (command : Command A) × SpellsCommand message.command command
command_spelled {A} message bytes fault is fails lost =
    let (command, spelled) = spelled_where_lost bytes (subst (λ (f : DimseFault). IsCommandFault A bytes f) lost fails) in
    (command, subst (λ (l : List ℕ). SpellsCommand l command) is spelled)

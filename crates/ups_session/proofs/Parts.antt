-- The parts of a response.
use Rattle.std.proofs.Common.{◌≡◌, ℕ, Bool, true, false, List, ap, refl, Option, None, Some, Result, Ok, Err, IfOk, OnErr}
use Rattle.std.specs.Option.{unwrap_or}
use Rattle.ups_dataset.specs.Data.{El}
use Rattle.ups_dimse.specs.declared.command.Command.TheVariants.{Response}
use Rattle.ups_dimse.specs.declared.command.RequestCommand.{RequestCommand}
use Rattle.ups_dimse.specs.declared.command.ResponseCommand.{ResponseCommand}
use Rattle.ups_dimse.specs.Written as commands
use Rattle.ups_assoc.specs.declared.negotiating.AcceptedContext.{AcceptedContext}
use Rattle.ups_assoc.specs.Cutting.{pieces}
use Rattle.ups_cycle.specs.declared.status.Status.{Status}
use Rattle.ups_cycle.specs.Statuses.{code}
use Rattle.ups_session.specs.Responses.{response_command, response_bytes, bare_response, with_set, set_response}

pub if_ok : {T E : Type 0} (r : Result T E) (P Q : T → Type 0) → ((x : T) → P x → Q x) → IfOk r P → IfOk r Q
if_ok (Ok x) P Q f p = f x p
if_ok (Err e) P Q f p = tt

pub on_err : {T E : Type 0} (r : Result T E) (P Q : Type 0) → (P → Q) → OnErr r P → OnErr r Q
on_err (Ok x) P Q f p = tt
on_err (Err e) P Q f p = f p

-- a class that is chosen already is chosen again
pub own_class : {X : Type 0} (o : Option X) (other : X) → unwrap_or o (unwrap_or o other) ≡ unwrap_or o other
own_class None other = refl
own_class (Some x) other = refl

-- the bytes of an answer
pub written_answer : {A : Type 0} (request : RequestCommand A) (status : ℕ) (there : Bool) (r : ResponseCommand) → r ≡ response_command request status there → commands.written_command {A = A} (Response r) ≡ response_bytes request status there
unfolding response_bytes
written_answer {A} request status there r e = ap (λ (x : ResponseCommand). commands.written_command {A = A} (Response x)) e

pub bare-response : {A : Type 0} (max : ℕ) (context : AcceptedContext) (request : RequestCommand A) (status : Status) (command : List ℕ)
    → command ≡ response_bytes request (code status) false → pieces {A = A} context.id command None max ≡ bare_response max context request status
unfolding bare_response
bare-response {A} max context request status command is = ap (λ c. pieces {A = A} context.id c None max) is

pub set-response : {A : Type 0} (max : ℕ) (context : AcceptedContext) (request : RequestCommand A) (status : Status) (set : List El) (command : List ℕ)
    → command ≡ response_bytes request (code status) true → with_set {A = A} max context command set ≡ set_response max context request status set
unfolding set_response
set-response {A} max context request status set command is = ap (λ (c : List ℕ). with_set {A = A} max context c set) is

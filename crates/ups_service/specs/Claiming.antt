-- Which callers were told that they have claimed a step. Histories here have the oldest entry first.
use Rattle.std.specs.Prelude.{ℕ, List, Some}
use Rattle.ups_cycle.specs.declared.state.StepState.TheVariants.{InProgress}
use Rattle.ups_cycle.specs.declared.status.Status.TheVariants.{Success}
use Rattle.ups_life.specs.declared.request.Ask.TheVariants.{Do}
use Rattle.ups_life.specs.declared.request.Reply.TheVariants.{Status as Answered}
use Rattle.ups_life.specs.declared.request.Request.{Request}
use Rattle.ups_life.specs.declared.request.Request.TheVariants.{Change}
use Rattle.ups_life.specs.declared.request.Transaction.TheVariants.{Proper}
use Rattle.ups_life.specs.Settings.{Settings}
use Rattle.ups_service.specs.Law.{Others, Seen, Serves}

-- the request that claims a step: a change to IN PROGRESS, with a Transaction UID (PS3.4 CC.2.1)
abbrev pub claiming : {A : Type 0} → List ℕ → List ℕ → Request A
claiming u uid = Change (Some u) InProgress (Proper uid)

-- a call of the caller that claims the step u was answered with Success; `after`: what it had seen then
pub record HasClaimed {A : Type 0} (s : Settings) (others : Others) (caller : ℕ) (ae : List ℕ) (moment : ℕ) (u : List ℕ) (after : Seen A) : Type 0 where
  pub uid : List ℕ
  pub seen : Seen A
  pub call : Serves s others caller seen ae moment (Do (claiming u uid)) (Answered Success) after

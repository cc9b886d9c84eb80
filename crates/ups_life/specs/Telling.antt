-- What the row of a step says about it.
use Rattle.std.specs.Prelude.{◌≡◌, ℕ, Bool, true, List, Option}
use Rattle.std.specs.List.{list_any, AllByRecursion}
use Rattle.ups_pdu.specs.declared.registered.RegisteredUid.TheVariants.{UpsPush}
use Rattle.ups_pdu.specs.Registered.{text_of}
use Rattle.ups_dataset.specs.declared.dictionary.TheConstants.{SOP_CLASS_UID, SOP_INSTANCE_UID, PROCEDURE_STEP_STATE, INPUT_READINESS_STATE}
use Rattle.ups_dataset.specs.Data.{El, element_at}
use Rattle.ups_dataset.specs.Valid.{IsDataSet}
use Rattle.ups_life.specs.declared.request.Request.{Request}
use Rattle.ups_life.specs.declared.request.Request.TheVariants.{Create, AskCancel, Set, Subscribe}
use Rattle.ups_life.specs.declared.watching.Target.{Target}
use Rattle.ups_life.specs.declared.watching.Target.TheVariants.{Filtered}
use Rattle.ups_life.specs.declared.entry.Entry.{Entry}
use Rattle.ups_cycle.specs.declared.state.StepState.{StepState}
use Rattle.ups_life.specs.Settings.{Settings}
use Rattle.ups_cycle.specs.States.{state_text}
use Rattle.ups_life.specs.Values.{READINESS_STATES, says}
use Rattle.ups_life.specs.Instances.{IsStepUid, IsFilter}
use Rattle.ups_life.specs.Steps.{state, row}
use Rattle.ups_life.specs.Watching.{is_held}

-- the attribute is present, and its text is one of these
abbrev pub says_one_of : List (List ℕ) → Option El → Bool
says_one_of texts attribute = list_any (λ text. says text attribute) texts

-- the row of u has its state, its UID, the UPS Push SOP class and an Input Readiness State (PS3.4 table CC.2.5-3)
pub record TellsStep (u : List ℕ) (now : StepState) (set : List El) : Type 0 where
  pub state : says (state_text now) (element_at PROCEDURE_STEP_STATE set) ≡ true
  pub step : says u (element_at SOP_INSTANCE_UID set) ≡ true
  pub class : says (text_of UpsPush) (element_at SOP_CLASS_UID set) ≡ true
  pub readiness : says_one_of READINESS_STATES (element_at INPUT_READINESS_STATE set) ≡ true

-- the same for the row of each step held
abbrev pub EachRowTells : {A : Type 0} → Settings → List (Entry A) → Type 0
EachRowTells s es = (u : List ℕ) → is_held s es u ≡ true → TellsStep u (state es u) (row s es u)

abbrev pub IsTarget : {A : Type 0} → Target A → Type 0
IsTarget (Filtered keys) = IsFilter keys
IsTarget target = Unit {0}

-- the attributes sent with a request are a data set, a new step has a UID that a step may have, and a filter has a key
-- that is not universal
abbrev pub IsWellFormed : {A : Type 0} → Request A → Type 0
IsWellFormed (Create step attributes) = IsStepUid step × IsDataSet attributes
IsWellFormed (AskCancel step reasons) = IsDataSet reasons
IsWellFormed (Set step transaction attributes) = IsDataSet attributes
IsWellFormed (Subscribe target receiver lock) = IsTarget target
IsWellFormed request = Unit {0}

abbrev pub AreWellFormed : {A : Type 0} → List (Entry A) → Type 0
AreWellFormed es = AllByRecursion (λ e. IsWellFormed e.request) es

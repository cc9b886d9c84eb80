-- What is decided of the reservation of a UID.
use Rattle.std.proofs.Common.{◌≡◌, ℕ, true, List, refl, ap}
use Rattle.ups_cycle.specs.declared.status.Status.TheVariants.{Success}
use Rattle.ups_life.specs.declared.entry.Entry.{Entry}
use Rattle.ups_life.specs.declared.request.Request.{Request}
use Rattle.ups_life.specs.declared.request.Request.TheVariants.{Reserve}
use Rattle.ups_life.specs.declared.request.Reply.TheVariants.{Status as Answered}
use Rattle.ups_life.specs.Settings.{Settings}
use Rattle.ups_life.specs.History.{decided}
use Rattle.ups_tables.specs.Live.{is_of_no_step}
use Rattle.ups_service.specs.Law.{entry}
use Rattle.ups_manager.specs.declared.deciding.Kind.TheVariants.{OfUid}
use Rattle.ups_manager.specs.Deciding.{kind_of}

pub of_uid : {A : Type 0} (r : Request A) (step : List ℕ) → kind_of r ≡ OfUid step → r ≡ Reserve step
of_uid (Reserve u) step h = let same : u ≡ step = cc in ap (λ v. Reserve v) same
of_uid r step h = absurd cc

pub uid_of_no_step : {A : Type 0} (r : Request A) (step : List ℕ) → kind_of r ≡ OfUid step → is_of_no_step r ≡ true
uid_of_no_step (Reserve u) step h = refl
uid_of_no_step r step h = absurd cc

-- it is accepted
pub reserve_decided : {A : Type 0} (s : Settings) (es : List (Entry A)) (caller : ℕ) (ae : List ℕ) (moment : ℕ) (r : Request A) (step : List ℕ) → kind_of r ≡ OfUid step → decided s es (entry caller ae moment r) r ≡ Answered Success
reserve_decided s es caller ae moment (Reserve u) step h = refl
reserve_decided s es caller ae moment r step h = absurd cc

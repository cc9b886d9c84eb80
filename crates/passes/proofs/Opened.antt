-- The passes of a new desk are at it.
use Rattle.std.proofs.Common.{◌≡◌, ℕ, zero, suc, refl}
use Rattle.std.specs.Prelude.{All}
use Rattle.std.proofs.lemmas.List.Elements.{All-nil, All-cons}
use Rattle.ups_service.specs.State.{State}
use Rattle.ups_turn.specs.Pass.{PassView, Opened, fresh, passes_from}

pub opened_here : {A : Type 0} (desk : Opened A) (m : State A) (k n : ℕ) → All (λ (p : PassView A). p.table ≡ desk.table) (passes_from desk.table m k n)
opened_here desk m k zero = All-nil (λ (p : PassView _). p.table ≡ desk.table)
opened_here desk m k (suc n) = All-cons (λ (p : PassView _). p.table ≡ desk.table) (fresh desk.table m k) (passes_from desk.table m (suc k) n) refl (opened_here desk m (suc k) n)

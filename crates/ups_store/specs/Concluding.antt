-- How a call ends its transaction.
use Rattle.std.specs.Prelude.{◌≡◌, ◌⊎◌, ◌≤◌, false, Result, Ok, Err, IsTrue, IsOk, IfOk, OnOk, OnErr}
use Rattle.sqlite_trees.specs.declared.error.StoreError.{StoreError}
use Rattle.sqlite_trees.specs.View.{View, doubt, IsClean, HasCause, IsRolledBack, Commits}
use Rattle.ups_store.specs.declared.fault.StoreFault.{StoreFault}
use Rattle.ups_store.specs.Faults.{store_fault_of}

-- the transaction is committed if it was edited, or else rolled back; and what is so of each store
pub record Concludes {T E F : Type 0} (mid new : View) (edited : Result T E) (result : Result T F) : Type 0 where
  pub given : IfOk result (λ it. edited ≡ Ok it)
  pub done : OnOk result (IsClean new → Commits mid new)
  pub undone : OnErr result (IsRolledBack mid new)
  pub clean : doubt mid.is_clean ≤ doubt new.is_clean
  pub closed : mid.is_clean ≡ false → mid.is_open ≡ false
  pub broken : mid.is_open ≡ false → IsTrue mid.is_broken
  pub shut : new.is_clean ≡ false → new.is_open ≡ false

-- the fault tells the error of the edit, or that of the commit
abbrev pub ToldBy : {T E : Type 0} → (E → StoreFault → Type 0) → View → Result T E → Type 0 → StoreFault → Type 0
ToldBy {E = E} tells mid edited failed fault = ((e : E) × (edited ≡ Err e) × tells e fault) ⊎ (IsOk edited × (e : StoreError) × (fault ≡ store_fault_of e) × HasCause mid failed ⊥ e)

-- what each call says of the store whose transaction it ends
pub record KeepsStore {T E : Type 0} (old new : View) (result : Result T E) : Type 0 where
  pub is_open : OnOk result (IsClean new → IsTrue new.is_open)
  pub was_open : IsTrue new.is_open → IsTrue old.is_open
  pub unchanged : OnErr result (IsTrue new.is_open → new.committed ≡ old.committed)
  pub clean : doubt old.is_clean ≤ doubt new.is_clean

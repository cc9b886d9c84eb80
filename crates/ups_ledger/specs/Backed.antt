-- The number of entries that a ledger has had.
use Rattle.std.specs.Prelude.{◌≤◌, ℕ, length}
use Rattle.ups_ledger.specs.declared.ledger.Ledger.{Ghosts}

-- At some time the ledger had told of at least n records, and had at least n, if its disk was honest then.
pub record HadAtLeast {L : Type 0} (g : Ghosts L) (n : ℕ) : Type 0 where
  pub ledger : L
  pub told : n ≤ g.told ledger
  pub many : g.is_honest ledger → n ≤ length (g.kept ledger)

-- what is to hold once that many entries are committed holds if the ledger has had as many
abbrev pub Backs : {L : Type 0} → Ghosts L → (ℕ → Type 0) → Type 0
Backs g had = (n : ℕ) → HadAtLeast g n → had n

-- it holds of this number, and of each smaller one
abbrev pub IsBacked : (ℕ → Type 0) → ℕ → Type 0
IsBacked had n = (m : ℕ) → m ≤ n → ∥ had m ∥₁

-- The numbers of entries that a ledger has had.
use Rattle.std.proofs.Common.{◌≡◌, ℕ, ◌<◌, ◌≤◌, inl, inr, subst, arith}
use Rattle.std.proofs.Math.Nat.{eq-or-lt_of_le}
use mathlib.Core.Logic.{∥∥₁_map}
use Rattle.ups_ledger.specs.declared.ledger.Ledger.{Ghosts}
use Rattle.ups_ledger.specs.Backed.{Backs, HadAtLeast, IsBacked}

module _ {L : Type 0} (g : Ghosts L) where
  -- a ledger that has had so many entries has had fewer, too
  had_fewer : (n m : ℕ) → m ≤ n → HadAtLeast g n → HadAtLeast g m
  had_fewer n m few h = record {
    ledger = h.ledger;
    told = let t = h.told in omega arith;
    many = λ honest. let k = h.many honest in omega arith;
  }

  -- what it has had backs what is to hold then
  pub backed : (had : ℕ → Type 0) → Backs g had → (n : ℕ) → ∥ HadAtLeast g n ∥₁ → IsBacked had n
  backed had backs n was = λ m few. ∥∥₁_map was (λ h. backs m (had_fewer n m few h))

  -- it goes on with a count that is as great as before, or that it has had by now
  pub had_more : (was count : ℕ) → was ≤ count → ∥ HadAtLeast g was ∥₁ → (was < count → HadAtLeast g count) → ∥ HadAtLeast g count ∥₁
  had_more was count grows before more = elim (eq-or-lt_of_le grows) [ inl same ↦ subst (λ (n : ℕ). ∥ HadAtLeast g n ∥₁) same before | inr greater ↦ ∣ more greater ∣₁ ]

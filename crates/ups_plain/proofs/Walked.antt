-- What is held of a step after the first entries of a history, as a walk carries it along.
use Rattle.std.proofs.Common.{◌≡◌, ℕ, List, take, sym, ap, ◌∙◌}
use Rattle.ups_life.specs.declared.entry.Entry.{Entry}
use Rattle.ups_life.specs.declared.row.Row.{Row}
use Rattle.ups_life.specs.Settings.{Settings}
use Rattle.ups_life.specs.Steps.{past, row, row_of, nothing}

-- its attributes, once the walk has come so far
pub attributes_walked : {A : Type 0} (s : Settings) (history : List (Entry A)) (u : List ℕ) (r : Row A) (k n : ℕ) → r ≡ row_of s (past (take k history)) u → k ≡ n → r.attributes ≡ row s (past (take n history)) u
attributes_walked {A} s history u r k n is there = ap (λ (x : Row A). x.attributes) is ∙ ap (λ i. row s (past (take i history)) u) there

-- before any entry
pub unwalked_is : {A : Type 0} (s : Settings) (history : List (Entry A)) (u : List ℕ) (r : Row A) (n : ℕ) → n ≡ 0 → r ≡ nothing → r ≡ row_of s (past (take n history)) u
unwalked_is {A} s history u r n none is = is ∙ ap (λ i. row_of s (past (take i history)) u) (sym none)

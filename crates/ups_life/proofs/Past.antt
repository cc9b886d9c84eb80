-- A history that is one entry longer.
use Rattle.std.proofs.Common.{◌≡◌, List, [], ◌∷◌, ◌++◌, length}
use Rattle.std.proofs.lemmas.List.{reverse-append, length-reverse}
use Rattle.ups_life.specs.declared.entry.Entry.{Entry}
use Rattle.ups_life.specs.Steps.{past}

pub past-push : {A : Type 0} (history : List (Entry A)) (e : Entry A) → past (history ++ e ∷ []) ≡ e ∷ past history
past-push history e = reverse-append history (e ∷ [])

pub length-past : {A : Type 0} (history : List (Entry A)) → length (past history) ≡ length history
length-past history = length-reverse history

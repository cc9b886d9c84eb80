-- By how much the numbers of the events of each watcher are less.
use Rattle.std.specs.Prelude.{◌≡◌, ◌+◌, ℕ, Bool, List, [], ◌∷◌, if◌then◌else◌}
use Rattle.std.specs.List.{list_any}
use Rattle.std.specs.Str.{bytes_eq}
use Rattle.ups_compact.specs.declared.shifts.Shift.{Shift}

-- one of these is the shift of w
abbrev pub has_shift : List Shift → List ℕ → Bool
has_shift shifts w = list_any (λ (x : Shift). bytes_eq x.watcher w) shifts

-- THE SHIFT OF w among these: the first that is its own, and 0 if none is
abbrev pub less_by : List Shift → List ℕ → ℕ
less_by [] w = 0
less_by (x ∷ xs) w = if bytes_eq x.watcher w then x.less else less_by xs w

-- each of these is the sum of two shifts, that of its watcher among the first ones and that among the second ones
abbrev pub AreSums : List Shift → List Shift → List Shift → Type 0
AreSums first second sums = (w : List ℕ) → less_by sums w ≡ (if has_shift sums w then less_by first w + less_by second w else 0)

-- Why the attributes that a request gives make no row, and why a question about a history has no answer.
use Rattle.std.specs.Prelude.{◌≡◌, ◌<◌, ◌≤◌, ◌+◌, nat_lt, nat_le, Bool, false, ◌&&◌, List, filter}
use Rattle.ups_dataset.specs.Limits.{max_depth}
use Rattle.ups_dataset.specs.Data.{El, elements_of, is_listed}
use Rattle.ups_dataset.specs.Valid.{depth_data, depth_elements}
use Rattle.ups_life.specs.declared.change_fault.ChangeFault.{ChangeFault}
use Rattle.ups_life.specs.declared.change_fault.ChangeFault.TheVariants.{TooDeep, Memory}
use Rattle.ups_life.specs.declared.entry.Entry.{Entry}
use Rattle.ups_life.specs.Settings.{Settings}
use Rattle.ups_life.specs.Steps.{REASONS}
use Rattle.ups_life.specs.History.{legal}

-- the items of the set nest no deeper than a data set allows
abbrev pub IsShallow : List El → Type 0
IsShallow set = depth_elements (elements_of set) ≤ max_depth

-- why no row is made: the items nest too deep for a data set; or they don't, and memory ran out
abbrev pub ChangeFails : List El → ChangeFault → Type 0
ChangeFails given TooDeep = max_depth < depth_elements (elements_of given)
ChangeFails given Memory = IsShallow given

-- the reasons of a cancel request nest too deep to be in an item
abbrev pub nest_too_deep : List El → Bool
nest_too_deep reasons = nat_lt max_depth (depth_elements (elements_of (filter (λ e. is_listed e.tag REASONS) reasons)) + 1)

-- the element is such a reason
abbrev pub is_deep_reason : El → Bool
is_deep_reason e = is_listed e.tag REASONS && nat_le max_depth (depth_data e.value)

-- why a walk over a history has no answer: memory ran out; or items nest too deep, but only if the history is not legal
abbrev pub WalkFails : {A : Type 0} → Settings → List (Entry A) → ChangeFault → Type 0
WalkFails s es TooDeep = legal s es ≡ false
WalkFails s es Memory = Unit {0}

-- The requests of a caller in a history, and how a call and the closing of a desk affect them.
use Rattle.std.specs.Prelude.{◌≡◌, ℕ, ◌==◌, List, ◌++◌, filter}
use Rattle.ups_life.specs.declared.entry.Entry.{Entry}
use Rattle.ups_life.specs.declared.request.Ask.{Ask}
use Rattle.ups_life.specs.declared.request.Reply.{Reply}
use Rattle.ups_service.specs.Law.{entered}
use Rattle.ups_turn.specs.Pass.{PassView}

-- the requests of a history with this caller number, in order
abbrev pub own : {A : Type 0} → ℕ → List (Entry A) → List (Entry A)
own {A} number log = filter (λ (e : Entry A). e.caller == number) log

-- After a call a pass has seen those of its own requests that it had seen before, followed by exactly what the call
-- enters.
abbrev pub AddsOwn : {A : Type 0} → PassView A → List ℕ → ℕ → Ask A → Reply A → PassView A → Type 0
AddsOwn old ae moment ask reply new = own old.number new.seen ≡ own old.number old.seen ++ entered old.number ae moment ask reply

-- After the opening, the requests in the history with the pass's number are exactly those that the pass has seen.
abbrev pub HasOwn : {A : Type 0} → List (Entry A) → List (Entry A) → PassView A → Type 0
HasOwn {A} opening history p = (since seen : List (Entry A)) → opening ++ since ≡ history → opening ++ seen ≡ p.seen → own p.number since ≡ own p.number seen

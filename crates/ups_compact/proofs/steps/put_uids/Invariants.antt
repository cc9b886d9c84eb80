use Rattle.std.proofs.Common.{◌≡◌, ◌||◌, ℕ, List, take}
use Rattle.ups_match.specs.Uids.{has_uid}
use Rattle.ups_life.specs.Watching.{is_among}
use Rattle.ups_compact.proofs.steps.put_uids.Given as goal

abbrev pub invariant-loop-step : goal.invariant-loop-step
invariant-loop-step g l = (uid : List ℕ) → has_uid l.uids uid ≡ (is_among uid (take l.step-index l.steps) || has_uid l.initial.uids uid)

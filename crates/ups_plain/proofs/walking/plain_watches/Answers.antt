use Rattle.std.proofs.Common.{◌≡◌, List, ℕ, MatchResult, subst, ◌∙◌}
use Rattle.std.specs.List.{filter_map}
use Rattle.ups_life.specs.Steps.{past}
use Rattle.ups_life.specs.Watching.{watch, watched_step}
use Rattle.ups_life.specs.Deep.{WalkFails}
use Rattle.ups_plain.proofs.walking.plain_watches.Goals as goal

pub returns : goal.returns
returns g c =
    subst (λ (us : List (List ℕ)). MatchResult c.watched_among.result (λ v. v.items ≡ filter_map (λ u. watched_step u (watch c.args.configuration.now (past c.args.entries.now) c.args.ae u)) us) (WalkFails c.args.configuration.now (past c.args.entries.now))) (c.as_slice.ensures.value ∙ c.in_ok-steps.ensures)
    c.watched_among.ensures

pub plain_held-requires-clause-moments : goal.plain_held-requires-clause-moments
plain_held-requires-clause-moments g c = c.requires.moments

pub plain_held-requires-clause-offset : goal.plain_held-requires-clause-offset
plain_held-requires-clause-offset g c = c.requires.offset

pub watched_among-requires-clause-moments : goal.watched_among-requires-clause-moments
watched_among-requires-clause-moments g c = c.requires.moments

pub watched_among-requires-clause-offset : goal.watched_among-requires-clause-offset
watched_among-requires-clause-offset g c = c.requires.offset

use Rattle.ups_match.proofs.PatternRuns.{same_answer}
use Rattle.ups_match.proofs.likeness.likes.Goals as goal

pub returns-clause-value : goal.returns-clause-value
returns-clause-value c = same_answer c.is_like.result c.args.pattern.now c.args.text.now c.is_like.ensures

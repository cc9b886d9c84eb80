use Rattle.ups_start.specs.Started.{moment_in}
use Rattle.ups_start.proofs.Taken.{begins_from_without}
use Rattle.ups_start.proofs.beginning.begin_uncompacted.Goals as goal

pub returns-in-Ok-clause-begins : goal.returns-in-Ok-clause-begins
returns-in-Ok-clause-begins g c =
    let begins = c.in-Ok.ensures.begins in (
      begins.0,
      begins.1,
      λ clean.
          begins_from_without c.args.manager.now.settings _ begins.0 c.args.choices c.uncompacted-again.result (moment_in c.args.about.now) c.begin_at.new.manager.history c.in_ok-manager.ensures.settings c.uncompacted-again.ensures (begins.2 clean),
    )

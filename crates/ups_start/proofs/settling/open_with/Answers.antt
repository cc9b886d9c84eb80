use Rattle.ups_store.specs.Shown.{requests}
use Rattle.ups_start.specs.Started.{said}
use Rattle.ups_start.proofs.Digested.{front_alone}
use Rattle.ups_start.proofs.settling.open_with.Goals as goal

pub returns-in-Ok-go_through : goal.returns-in-Ok-go_through
returns-in-Ok-go_through g c = λ clean. front_alone (said (requests c.in-Ok-go_through.reopened.store)) c.args.front c.in-Ok-go_through.reopened.there (c.in-Ok-go_through.ensures.behind clean)

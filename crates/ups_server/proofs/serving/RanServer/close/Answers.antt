use Rattle.ups_ledger.proofs.Leaving.{are_kept_longer, are_safe_longer}
use Rattle.ups_server.proofs.Leaving.{all_kept, last_begins}
use Rattle.ups_server.proofs.serving.RanServer.close.Goals as goal

pub returns-in-Ok-clause-kept : goal.returns-in-Ok-clause-kept
returns-in-Ok-clause-kept g c = are_kept_longer g.L.Ledger c.args.self.keeper _ c.in-Ok.manager.history (last_begins c.in-Ok.manager.history c.args.self.passes.items c.in-Ok.ensures.passes)

pub returns-in-Ok-clause-safe : goal.returns-in-Ok-clause-safe
returns-in-Ok-clause-safe g c = are_safe_longer g.L.Ledger c.args.self.keeper _ c.in-Ok.manager.history (last_begins c.in-Ok.manager.history c.args.self.passes.items c.in-Ok.ensures.passes)

pub returns-in-Ok-clause-seen : goal.returns-in-Ok-clause-seen
returns-in-Ok-clause-seen g c = all_kept g.L.Ledger c.args.self.keeper c.in-Ok.manager.history c.args.self.passes.items c.in-Ok.ensures.passes

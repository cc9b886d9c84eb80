use Rattle.ups_net.proofs.Served.{unbegun}
use Rattle.ups_net.proofs.serving.serve_noted.Goals as goal

pub returns-in_default-clause-serves : goal.returns-in_default-clause-serves
returns-in_default-clause-serves g c = unbegun c.args.site.options.now.config c.args.site.options.now.limits.turns c.args.pass

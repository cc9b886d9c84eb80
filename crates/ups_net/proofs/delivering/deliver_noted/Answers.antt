use Rattle.ups_net.proofs.Served.{undelivered}
use Rattle.ups_net.proofs.delivering.deliver_noted.Goals as goal

pub returns-in_default-clause-delivers : goal.returns-in_default-clause-delivers
returns-in_default-clause-delivers g c = undelivered c.args.site.options.now.config c.args.ae c.args.site.options.now.limits.turns c.args.pass

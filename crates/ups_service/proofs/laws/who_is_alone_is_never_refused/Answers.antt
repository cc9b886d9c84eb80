use Rattle.ups_service.proofs.Calling.{calls_alone}
use Rattle.ups_service.proofs.laws.who_is_alone_is_never_refused.Goals as goal

pub returns : goal.returns
returns g c = λ s others caller seen after ae asks moments replies is h. calls_alone s others caller ae seen after asks moments replies is h

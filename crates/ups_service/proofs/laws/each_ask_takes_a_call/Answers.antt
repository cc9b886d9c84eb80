use Rattle.std.proofs.Common.{sym, ap, ◌∙◌, length}
use Rattle.ups_service.specs.Law.{all_made}
use Rattle.ups_service.proofs.Calling.{calls_counted}
use Rattle.ups_service.proofs.laws.each_ask_takes_a_call.Goals as goal

pub returns : goal.returns
returns g c = λ s others caller seen after ae asks moments replies made most is few h.
    let r = calls_counted s others caller ae seen after asks moments replies made most is few h in
    (r.0 ∙ sym (ap (all_made (length asks)) is), r.1)

use Rattle.std.proofs.Common.{rules}
use Rattle.std.proofs.lemmas.Result.{err_from_is_err_and}
use Rattle.ups_assoc.specs.Negotiation.{acceptance}
use Rattle.ups_assoc.proofs.Outcomes.{accepts, acceptance_writable}
use Rattle.ups_assoc.proofs.negotiating.negotiate.Goals as goal

pub returns-in_err-accept_request-clause-only_accepting : goal.returns-in_err-accept_request-clause-only_accepting
returns-in_err-accept_request-clause-only_accepting g c =
    let p = err_from_is_err_and c.from_residual.result c.from_residual.ensures.1 in
    rw p.1 (
      acceptance c.args.request.now c.in-Some.ae,
      accepts c.args.config.now.ae c.args.request.now c.in-Some.ae
          (search rules) (search rules) (search rules) (search rules) (search rules),
    )

pub returns-clause-fits : goal.returns-clause-fits
returns-clause-fits g c bytes s = acceptance_writable bytes c.args.request.now c.in-Some.ae c.in_ok-accept_request.field-0 c.in_ok-accept_request.ensures.accepts c.in_ok-accept_request.ensures.ids s

pub returns-then-not-is_title-clause-outcome : goal.returns-then-not-is_title-clause-outcome
returns-then-not-is_title-clause-outcome g c = search rules

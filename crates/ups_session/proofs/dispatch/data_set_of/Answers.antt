use Rattle.std.proofs.Common.{◌≡◌, ap}
use Rattle.std.specs.Option.{option_copied}
use Rattle.ups_dataset.specs.declared.fault.SetFault.TheVariants.{Memory}
use Rattle.ups_session.proofs.Bodies.{none_spelled, one_spelled}
use Rattle.ups_session.proofs.Parts.{on_err}
use Rattle.ups_session.proofs.dispatch.data_set_of.Goals as goal

pub returns-in-Err-clause-found : goal.returns-in-Err-clause-found
returns-in-Err-clause-found g c = none_spelled c.args.syntax c.no_set.result c.in-Err.fault (option_copied c.args.body) c.in-Some.bytes.now (ap option_copied c.in-Some.is) c.in-Err.ensures.only c.no_set.ensures.none

pub returns-in-Err-clause-memory : goal.returns-in-Err-clause-memory
returns-in-Err-clause-memory g c = on_err c.no_set.result (c.in-Err.fault ≡ Memory) _ (one_spelled c.args.syntax c.in-Err.fault (option_copied c.args.body) c.in-Some.bytes.now (ap option_copied c.in-Some.is) c.in-Err.ensures.found) c.no_set.ensures.memory

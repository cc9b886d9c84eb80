use Rattle.std.proofs.Common.{rules}
use Rattle.ups_dataset.proofs.Again.{again, small_enough}
use Rattle.ups_dataset.proofs.writing.write_set.Goals as goal

pub put_set-requires : goal.put_set-requires
put_set-requires g c = small_enough c.args.syntax c.args.set.now c.requires

pub returns-clause-again : goal.returns-clause-again
returns-clause-again g c = λ kept. again c.args.syntax c.args.set.now c.put_set.new.out.items c.is_a_data_set.ensures c.requires (search rules) kept

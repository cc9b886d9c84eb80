use Rattle.std.proofs.Common.{List, sym, subst}
use Rattle.ups_life.specs.declared.entry.Entry.{Entry}
use Rattle.ups_tables.specs.Stands.{Stands as TablesStand}
use Rattle.ups_manager.proofs.memory.look_at_some_again.Goals as goal

pub look_again-requires-clause-stands : goal.look_again-requires-clause-stands
look_again-requires-clause-stands g c =
    subst (λ (es : List (Entry g.row.A.Denot)). TablesStand c.args.configuration.now es c.args.tables.now) (sym c.loop.invariant.entries) c.requires.stands

pub look_again-requires-clause-remembers : goal.look_again-requires-clause-remembers
look_again-requires-clause-remembers g c = c.loop.invariant.remembers

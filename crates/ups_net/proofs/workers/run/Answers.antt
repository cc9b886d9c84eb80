use Rattle.std.proofs.Common.{rules, ◌≡◌, ◌++◌, ◌∷◌, [], Some, is_some, ap, ◌∙◌, subst, sym}
use Rattle.ups_ledger.specs.Keeping.{KeepersGoOn}
use Rattle.std.proofs.lemmas.List.Elements.{All-pop}
use Rattle.ups_ledger.proofs.Leaving.{go_same}
use Rattle.ups_net.specs.Working.{Ran, seen_last}
use Rattle.ups_net.proofs.Ending.{ran_as_many}
use Rattle.ups_net.proofs.Staying.{ran_here}
use Rattle.ups_net.proofs.Watching.{seen_behind}
use Rattle.ups_net.proofs.workers.run.Goals as goal

pub returns-clause-all : goal.returns-clause-all
returns-clause-all g c =
    let ran : Ran c.args.options.now (is_some c.args.keeper) c.run_threads.result.0 c.args.passes.items c.run_threads.result.1.items = search rules in
    ran_as_many c.args.options.now (is_some c.args.keeper) c.run_threads.result.0 c.args.passes.items c.run_threads.result.1.items ran

pub returns-clause-stay : goal.returns-clause-stay
returns-clause-stay g c =
    let ran : Ran c.args.options.now (is_some c.args.keeper) c.run_threads.result.0 c.args.passes.items c.run_threads.result.1.items = search rules in
    ran_here c.args.options.now c.args.desk.now.table (is_some c.args.keeper) c.run_threads.result.0 c.args.passes.items c.run_threads.result.1.items ran c.requires.here

pub returns-clause-goes_on : goal.returns-clause-goes_on
returns-clause-goes_on g c =
    let is : c.args.passes.items ≡ c.pop.new.self.items ++ c.in-Some.sweeper ∷ [] = search rules in
    subst (λ seen. KeepersGoOn g.L.Ledger c.args.keeper seen c.run_threads.result.2 (seen_last c.run_threads.result.1.items)) (sym (ap seen_last is ∙ seen_behind c.pop.new.self.items c.in-Some.sweeper)) c.run_threads.ensures.goes_on

pub returns-in_default-clause-goes_on : goal.returns-in_default-clause-goes_on
returns-in_default-clause-goes_on g c = go_same g.L.Ledger c.args.keeper (seen_last c.args.passes.items)

pub run_threads-requires-clause-here : goal.run_threads-requires-clause-here
run_threads-requires-clause-here g c κs within =
    let is : c.args.passes.items ≡ c.pop.new.self.items ++ c.in-Some.sweeper ∷ [] = search rules in
    (All-pop (λ p. p.table ≡ c.args.desk.now.table) c.args.passes.items c.pop.new.self.items (Some c.in-Some.sweeper) is c.requires.here).0

pub returns-in_default-with_capacity-clause-goes_on : goal.returns-in_default-with_capacity-clause-goes_on
returns-in_default-with_capacity-clause-goes_on g c = go_same g.L.Ledger c.args.keeper (seen_last c.args.passes.items)

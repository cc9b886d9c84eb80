use Rattle.std.proofs.Common.{◌∙◌}
use Rattle.ups_manager.proofs.Remembering.{remembers_all, refers_not}
use Rattle.ups_manager.proofs.memory.look_again.Goals as goal

pub returns-clause-remembers : goal.returns-clause-remembers
returns-clause-remembers g c =
    remembers_all c.args.configuration.now c.args.history.now c.let_go.new.self c.let_go.ensures.entries (rw (c.let_go.ensures.entries, c.let_go.ensures.first) c.requires.remembers.within)
    (λ w x in' h. c.let_go.ensures.in_memory x.entry h (refers_not c.args.configuration.now c.args.history.now.entries c.args.tables.now c.in-Some.place c.requires.stands (c.refers_to.ensures c.if-refers_to.false) w x in')) (λ few zero. c.let_go.ensures.first ∙ zero) c.requires.remembers

use Rattle.std.proofs.Common.{arith}
use Rattle.ups_manager.proofs.Remembering.{remembers_all}
use Rattle.ups_manager.proofs.memory.let_go.Goals as goal

pub look_at_some-is_more-requires-clause-remembers : goal.look_at_some-is_more-requires-clause-remembers
look_at_some-is_more-requires-clause-remembers g c =
    remembers_all c.args.configuration.now c.args.history.now c.set_aside.new.self c.set_aside.ensures.entries c.first-first.ensures.within (λ w x in' h. c.set_aside.ensures.in_memory x.entry h)
    (λ few zero. let above = c.if-limit-le-MAX_HISTORY.false in let is = c.limit.ensures in omega (arith, few, above, is)) c.requires.remembers

use Rattle.std.proofs.Common.{rules, ◌≡◌, ◌+◌, ◌++◌, ◌∷◌, [], length, sym, subst}
use Rattle.ups_events.specs.Queue.{IsNew, queue_at}
use Rattle.ups_events.proofs.NewQueues.{new_push}
use Rattle.ups_events.proofs.queues.Queues.new.Goals as goal

pub loop-preserved : goal.loop-preserved
loop-preserved g c =
    let items : c.push.new.self.items ≡ c.loop.queues.items ++ c.new.result ∷ [] = search rules in
    let len : length c.push.new.self.items ≡ c.loop.counter + 1 = search rules in
    (len, λ p l. subst (λ qs. IsNew (queue_at qs p)) (sym items) (new_push c.loop.queues.items c.new.result c.loop.counter c.loop.invariant.0 c.loop.invariant.1 (record { made = c.new.ensures.made; acked = c.new.ensures.acked; events = c.new.ensures.events }) p l))

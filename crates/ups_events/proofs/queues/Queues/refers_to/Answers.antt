use Rattle.std.proofs.Common.{rules, ◌≡◌, ◌≢◌, ◌<◌, ◌≤◌, ℕ, length, get_or, sym, ap, ◌∙◌, subst, inl, inr, arith}
use Rattle.std.specs.List.{AllByRecursion}
use Rattle.std.proofs.lemmas.Bool.{cases_lt}
use Rattle.std.proofs.lemmas.List.{get_or_default, get_or_past}
use Rattle.ups_life.specs.declared.event.Event.{Event}
use Rattle.ups_events.specs.Queue.{QueueView, empty, queue_at}
use Rattle.ups_events.proofs.queues.Queues.refers_to.Goals as goal

abbrev Misses : ℕ → QueueView → Type 0
Misses entry q = AllByRecursion (λ (x : Event). x.entry ≢ entry) q.events

pub loop-queue-preserved : goal.loop-queue-preserved
loop-queue-preserved g c p l = elim (cases_lt p c.loop-queue.queue-index) [
  | inl a ↦ c.loop-queue.invariant p a
  | inr a ↦
      let here : c.loop-queue.queue-index ≡ p = omega (arith, a, l) in
      let within : c.loop-queue.queue-index < length c.args.self.now = search rules in
      let is : c.queue-item.result ≡ get_or c.args.self.now c.loop-queue.queue-index c.queue-item.result = search rules in
      let same : c.queue-item.result ≡ queue_at c.args.self.now p = is ∙ get_or_default c.args.self.now c.loop-queue.queue-index c.queue-item.result empty within ∙ ap (queue_at c.args.self.now) here in
      subst (Misses c.args.entry) same (c.refers_to.ensures c.if-refers_to.false)
]

pub returns : goal.returns
returns g c e p = elim (cases_lt p c.loop-queue.queue-index) [
  | inl a ↦ c.loop-queue.invariant p a
  | inr a ↦
      let past : length c.args.self.now ≤ c.loop-queue.queue-index = search rules in
      subst (Misses c.args.entry) (sym (get_or_past c.args.self.now p empty (omega (arith, a, past)))) tt
]

use Rattle.std.proofs.Common.{◌≡◌, ◌<◌, ◌≤◌, ℕ, false, None, cond, length, get_or}
use Rattle.std.specs.Prelude.{is_some}
use Rattle.ups_events.specs.Queue.{queue_at}
use Rattle.ups_events.specs.Telling.{line_at, told}
use Rattle.ups_events.proofs.queues.Queues.tell_each.Given as goal

abbrev pub invariant-loop-peer : goal.invariant-loop-peer
invariant-loop-peer g l = record {
  done : (p : ℕ) → p < l.peer → line_at l.self p ≡ cond (is_some (get_or l.cells p None)) (told l.entry l.reports (line_at l.fn.self p)) (line_at l.fn.self p);
  rest : (p : ℕ) → l.peer ≤ p → queue_at l.self p ≡ queue_at l.fn.self p;
  others : (p : ℕ) → is_some (get_or l.cells p None) ≡ false → queue_at l.self p ≡ queue_at l.fn.self p;
  peers : length l.self ≡ length l.fn.self;
}

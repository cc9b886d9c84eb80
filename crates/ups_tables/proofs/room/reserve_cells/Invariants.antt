use Rattle.std.proofs.Common.{◌≡◌, ◌<◌, ◌≤◌, ℕ, true, None, length, get_or}
use Rattle.std.specs.Prelude.{is_some}
use Rattle.ups_events.specs.Queue.{queue_at, IsReserved}
use Rattle.ups_tables.proofs.room.reserve_cells.Given as goal

abbrev pub invariant-loop-peer : goal.invariant-loop-peer
invariant-loop-peer g l = record {
  room : (p : ℕ) → p < l.peer → is_some (get_or l.cells p None) ≡ true → l.more ≤ (queue_at l.queues p).spare;
  same : (p : ℕ) → IsReserved (queue_at l.fn.queues p) (queue_at l.queues p);
  peers : length l.queues ≡ length l.fn.queues;
}

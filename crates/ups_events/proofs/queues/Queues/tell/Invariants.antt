use Rattle.std.proofs.Common.{◌≡◌, ◌≢◌, ◌≤◌, ◌+◌, ℕ, length, take}
use Rattle.ups_events.specs.Queue.{queue_at}
use Rattle.ups_events.specs.Telling.{line_at, told}
use Rattle.ups_events.proofs.queues.Queues.tell.Given as goal

abbrev pub invariant-loop-report : goal.invariant-loop-report
invariant-loop-report g l = record {
  told_so : line_at l.self l.peer ≡ told l.entry (take l.report-index l.reports) (line_at l.fn.self l.peer);
  others : (p : ℕ) → p ≢ l.peer → queue_at l.self p ≡ queue_at l.fn.self p;
  peers : length l.self ≡ length l.fn.self;
  room : length l.reports ≤ (queue_at l.self l.peer).spare + l.report-index;
}

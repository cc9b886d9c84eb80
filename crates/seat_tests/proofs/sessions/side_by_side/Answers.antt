use denote.Param.Send.{IsSend, IsSync, sendable}
use Rattle.std.specs.declared.clone.Clone as Clone
use Rattle.std.proofs.Crossing.{crosses}
use Rattle.std.proofs.sync.atomic.AtomicU64.TheSendSync as word
use Rattle.std_heap.specs.contracts.Global as Heap
use Rattle.std_heap.specs.contracts.GlobalAllocator.TheImpl.{ghosts}
use Rattle.seat_tests.specs.contracts.sessions.Talks as Talks
use Rattle.seat_tests.specs.contracts.sessions.Stage as Stage
use Rattle.ups_service.specs.declared.shared_service.SharedService as SharedService
use Rattle.ups_manager.specs.contracts.manager.Manager as Manager
use Rattle.ups_manager.proofs.Crosses.{manager_send}
use Rattle.ups_turn.specs.contracts.desk.Desk as Desk
use Rattle.ups_turn.specs.contracts.pass.Pass as Pass
use Rattle.ups_turn.proofs.Crosses.{desk_sync, pass_send, heap_sync}
use Rattle.seat_tests.proofs.sessions.side_by_side.Goals as goal

talks_sync : IsSync Talks.the_row
talks_sync = search (sendable, crosses) depth 40

stage_sync : IsSync Stage.the_row
stage_sync = search (sendable, word.the_sync) depth 30

-- of a manager at the heap, each in one step
module _ (s : SharedService.Ghosts (Manager.the_row Heap.the_row ghosts).Denot Heap.the_row.Denot) where
  shared_desk : (c : Clone.Ghosts Heap.the_row.Denot) → IsSync (Desk.the_row (Manager.the_row Heap.the_row ghosts) Heap.the_row s ghosts c)
  shared_desk c = desk_sync (Manager.the_row Heap.the_row ghosts) s c manager_send

  own_pass : IsSend (Pass.the_row (Manager.the_row Heap.the_row ghosts) Heap.the_row s ghosts)
  own_pass = pass_send (Manager.the_row Heap.the_row ghosts) s manager_send

pub join-requires-send-F : goal.join-requires-send-F
join-requires-send-F g c κs within = search (sendable, shared_desk, own_pass, heap_sync, talks_sync, stage_sync) depth 30

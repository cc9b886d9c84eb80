use denote.Param.Send.{IsSend, IsSync, sendable}
use Rattle.std.specs.declared.clone.Clone as Clone
use Rattle.std_heap.specs.contracts.Global as Heap
use Rattle.std_heap.specs.contracts.GlobalAllocator.TheImpl.{ghosts}
use Rattle.ups_service.specs.declared.shared_service.SharedService as SharedService
use Rattle.ups_manager.specs.contracts.manager.Manager as Manager
use Rattle.ups_manager.proofs.Crosses.{manager_send}
use Rattle.ups_turn.specs.contracts.desk.Desk as Desk
use Rattle.ups_turn.specs.contracts.pass.Pass as Pass
use Rattle.ups_turn.proofs.Crosses.{desk_sync, pass_send, heap_sync, ae_sync}
use Rattle.passes.specs.contracts.claims.Claims as Claims
use Rattle.passes.proofs.race.race.Goals as goal

claims_send : IsSend Claims.the_row
claims_send = search sendable depth 20

-- of a manager at the heap, each in one step
module _ (s : SharedService.Ghosts (Manager.the_row Heap.the_row ghosts).Denot Heap.the_row.Denot) where
  shared_desk : (c : Clone.Ghosts Heap.the_row.Denot) → IsSync (Desk.the_row (Manager.the_row Heap.the_row ghosts) Heap.the_row s ghosts c)
  shared_desk c = desk_sync (Manager.the_row Heap.the_row ghosts) s c manager_send

  own_pass : IsSend (Pass.the_row (Manager.the_row Heap.the_row ghosts) Heap.the_row s ghosts)
  own_pass = pass_send (Manager.the_row Heap.the_row ghosts) s manager_send

pub map_vec-requires-sync-F : goal.map_vec-requires-sync-F
map_vec-requires-sync-F g c κs within = search (sendable, shared_desk, heap_sync, ae_sync) depth 30

pub map_vec-requires-send-J : goal.map_vec-requires-send-J
map_vec-requires-send-J g c κs within = search (sendable, own_pass) depth 30

pub map_vec-requires-send-X : goal.map_vec-requires-send-X
map_vec-requires-send-X g c κs within = search (sendable, own_pass, claims_send) depth 30

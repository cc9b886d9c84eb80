-- A desk may be shared by threads, and a pass may go to another thread, where the allocator and what the passes share may: one
-- fact for each type from the ones inside it, since a search through all of them at once does not end.
use denote.RattleType.{RattleType}
use denote.Param.Send.{IsSend, IsSync, Frees, sendable}
use Rattle.std.specs.declared.alloc.Allocator as Allocator
use Rattle.std.specs.declared.clone.Clone as Clone
use Rattle.std_heap.specs.contracts.Global as Heap
use Rattle.std_heap.specs.contracts.GlobalAllocator.TheImpl.{ghosts}
use Rattle.std.proofs.Crossing.{frees, send, sync}
use Rattle.std.proofs.Crossing as heaped
use Rattle.std.proofs.CrossingOver as over
use Rattle.std.specs.contracts.option.Option as Option
use Rattle.atomic_table.specs.declared.shared.TableRule as TableRule
use Rattle.atomic_table.specs.contracts.owned.Table as Table
use Rattle.atomic_table.specs.contracts.shared.Shared as Shared
use Rattle.atomic_table.specs.contracts.send_lease.SendLease as Lease
use Rattle.atomic_table.proofs.shared.Shared.TheSendSync as shared
use Rattle.atomic_table.proofs.shared.Seat.TheSendSync as seat
use Rattle.atomic_table.proofs.send_lease.SendLease.TheSendSync as lease
use Rattle.ups_pdu.proofs.ae.Ae.TheSendSync as ae
use Rattle.ups_service.specs.declared.shared_service.SharedService as SharedService
use Rattle.ups_pdu.specs.contracts.ae.Ae as Ae
use Rattle.ups_turn.specs.contracts.desk.Desk as Desk
use Rattle.ups_turn.specs.contracts.held.Held as Held
use Rattle.ups_turn.specs.contracts.pass.Pass as Pass

module _ (S V K P A : RattleType) (r : TableRule.Ghosts P.Denot S.Denot V.Denot K.Denot) (g : Allocator.Ghosts A.Denot) where
  Shared-sync : IsSend S → IsSync (Shared.the_field S V K P r).row
  Shared-sync s = search (sendable, shared.the_sync) depth 20

  Lease-sync : (T : RattleType) → IsSend A → Frees g g.dealloc_token → IsSync (Lease.the_field T A g).row
  Lease-sync T s f = search (sendable, lease.the_sync) depth 20

  pub Table-sync : IsSend S → IsSync A → IsSend A → Frees g g.dealloc_token → IsSync (Table.the_field S V K P A r g).row
  Table-sync s y sa f = let h = Shared-sync s in let l = λ (T : RattleType). Lease-sync T sa f in search sendable depth 20

module _ (M A : RattleType) (s : SharedService.Ghosts M.Denot A.Denot) (g : Allocator.Ghosts A.Denot) where
  Held-send : IsSend M → IsSend A → Frees g g.dealloc_token → IsSend (Held.the_field M A s g).row
  Held-send m a f = search (sendable, over.crosses) depth 20

  Homes-send : IsSend M → IsSend A → Frees g g.dealloc_token → IsSend (Option.the_row (Held.the_row M A s g))
  Homes-send m a f = let h = Held-send m a f in search sendable depth 20

  Desk-sync : (c : Clone.Ghosts A.Denot) → IsSend M → IsSync A → IsSend A → Frees g g.dealloc_token → IsSync (Desk.the_row M A s g c)
  Desk-sync c m y a f = let o = Homes-send m a f in search (sendable, heaped.crosses, Table-sync) depth 30

  Pass-send : IsSend M → IsSend A → Frees g g.dealloc_token → IsSend (Pass.the_row M A s g)
  Pass-send m a f = let o = Homes-send m a f in search (sendable, seat.the_send) depth 20

-- at the heap, each in one step, the desk for any way to clone an allocator
module _ (M : RattleType) (s : SharedService.Ghosts M.Denot Heap.the_row.Denot) where
  pub desk_sync : (c : Clone.Ghosts Heap.the_row.Denot) → IsSend M → IsSync (Desk.the_row M Heap.the_row s ghosts c)
  desk_sync c m = Desk-sync M Heap.the_row s ghosts c m sync send frees

  pub pass_send : IsSend M → IsSend (Pass.the_row M Heap.the_row s ghosts)
  pass_send m = Pass-send M Heap.the_row s ghosts m send frees

pub heap_send : IsSend Heap.the_row
heap_send = send

pub heap_sync : IsSync Heap.the_row
heap_sync = sync

pub ae_send : IsSend Ae.the_row
ae_send = search (sendable, ae.the_send) depth 30

pub ae_sync : IsSync Ae.the_row
ae_sync = search (sendable, ae.the_sync) depth 30

pub ruleset desk_crosses = (desk_sync, pass_send, heap_send, heap_sync, ae_send, ae_sync)

-- A manager may go to another thread, where its allocator may: one fact for each type from the ones inside it, since a search
-- through all of them at once does not end.
use denote.RattleType.{RattleType}
use denote.Param.Send.{IsSend, IsSync, Frees, sendable}
use Rattle.std.specs.declared.alloc.Allocator as Allocator
use Rattle.std.specs.declared.cmp.PartialEq as eq
use Rattle.std.specs.declared.hash.Hash as hash
use Rattle.std.specs.declared.hash.Hasher as hasher
use Rattle.std.specs.declared.hash.BuildHasher as builder
use Rattle.std_heap.specs.contracts.Global as Heap
use Rattle.std_heap.specs.contracts.GlobalAllocator.TheImpl.{ghosts}
use Rattle.std.proofs.Crossing.{frees, send, sync, crosses}
use Rattle.std.proofs.CrossingOver as over
use Rattle.std.proofs.MapsCrossingOver as maps
use Rattle.std.proofs.hash.FoldHasher.TheSendSync as fold
use Rattle.std.proofs.hash.BuildHasherDefault.TheSendSync as build
use Rattle.std.specs.contracts.option.Option as Option
use Rattle.std.specs.contracts.vec.Vec as Vec
use Rattle.http_server.proofs.log.Log.TheSendSync as log
use Rattle.indexmap.specs.contracts.columns.Columns as Columns
use Rattle.indexmap.specs.contracts.index_table.IndexTable as IndexTable
use Rattle.indexmap.specs.contracts.map.IndexMap as IndexMap
use Rattle.ups_pdu.proofs.bytes.Bytes.TheSendSync as bytes
use Rattle.ups_pdu.proofs.uid.Uid.TheSendSync as uid
use Rattle.ups_pdu.proofs.ae.Ae.TheSendSync as ae
use Rattle.ups_dataset.proofs.set.DataSet.TheLaws.TheKnot as knot
use Rattle.ups_dataset.proofs.tag.Tag.TheSendSync as tag
use Rattle.ups_dataset.proofs.vr.Vr.TheSendSync as vr
use Rattle.ups_dataset.specs.contracts.set.DataSet as DataSet
use Rattle.ups_match.proofs.key_tag.KeyTag.TheSendSync as key_tag
use Rattle.ups_match.specs.contracts.uids.UidList as UidList
use Rattle.ups_match.specs.contracts.prepared.Prepared as Prepared
use Rattle.ups_match.proofs.prepared.Prepared.TheLaws.TheKnot as preparing
use Rattle.ups_match.specs.contracts.keys.Keys as Keys
use Rattle.ups_cycle.proofs.state.StepState.TheSendSync as state
use Rattle.ups_life.proofs.step.StepUid.TheSendSync as step
use Rattle.ups_life.proofs.request.Transaction.TheSendSync as transaction
use Rattle.ups_life.proofs.watching.Place.TheSendSync as place
use Rattle.ups_life.proofs.watching.Subscription.TheSendSync as subscription
use Rattle.ups_life.proofs.event.Event.TheSendSync as event
use Rattle.ups_life.proofs.event.EventKind.TheSendSync as kind
use Rattle.ups_life.proofs.readiness.InputReadiness.TheSendSync as readiness
use Rattle.ups_life.proofs.row.Holder.TheSendSync as holder
use Rattle.ups_life.proofs.configuration.Configuration.TheSendSync as configuration
use Rattle.ups_life.specs.contracts.watching.Filter as Filter
use Rattle.ups_life.specs.contracts.watching.Target as Target
use Rattle.ups_life.specs.contracts.request.Request as Request
use Rattle.ups_life.specs.contracts.entry.Entry as Entry
use Rattle.ups_life.specs.contracts.configuration.Configuration as Configuration
use Rattle.ups_history.specs.contracts.history.History as History
use Rattle.ups_rows.proofs.Crosses.{SharedRow-send, SharedPart-send}
use Rattle.ups_rows.specs.contracts.shared_part.SharedPart as SharedPart
use Rattle.ups_watch.specs.contracts.cover.Cover as Cover
use Rattle.ups_watch.specs.contracts.row.WatchRow as Cells
use Rattle.ups_watch.specs.contracts.watchers.Watchers as Watchers
use Rattle.ups_events.proofs.slots.EventSlot.TheSendSync as slot
use Rattle.ups_events.specs.contracts.queue.Queue as Queue
use Rattle.ups_events.specs.contracts.queues.Queues as Queues
use Rattle.ups_keep.proofs.due.Final.TheSendSync as final
use Rattle.ups_keep.specs.contracts.due.Due as Due
use Rattle.ups_steps.specs.contracts.held.HeldRow as HeldRow
use Rattle.ups_steps.specs.contracts.steps.Steps as Steps
use Rattle.ups_index.proofs.posts.Post.TheSendSync as post
use Rattle.ups_index.specs.contracts.values.StoredText as StoredText
use Rattle.ups_index.specs.contracts.values.Values as Values
use Rattle.ups_index.specs.contracts.slot_table.IndexedStep as IndexedStep
use Rattle.ups_index.specs.contracts.slot_table.SlotTable as SlotTable
use Rattle.ups_index.specs.contracts.posts.Posts as Posts
use Rattle.ups_index.specs.contracts.index.Index as Index
use Rattle.ups_tables.specs.contracts.tables.Tables as Tables
use Rattle.ups_manager.specs.contracts.left_memory.LeftMemory as LeftMemory
use Rattle.ups_manager.specs.contracts.manager.Manager as Manager

ruleset leaves = (fold.the_send, build.the_send, bytes.the_send, tag.the_send, vr.the_send, uid.the_send, ae.the_send, state.the_send, step.the_send, transaction.the_send, place.the_send, holder.the_send, configuration.the_send, subscription.the_send, event.the_send, kind.the_send, readiness.the_send, slot.the_send, final.the_send, post.the_send)

-- A MAP IN INSERTION ORDER

module _ (A : RattleType) (g : Allocator.Ghosts A.Denot) where
  IndexTable-send : IsSend A → Frees g g.dealloc_token → IsSend (IndexTable.the_field A g).row
  IndexTable-send s f = search (sendable, over.crosses) depth 20

  module _ (K V : RattleType) where
    Columns-send : IsSend K → IsSend V → IsSend A → Frees g g.dealloc_token → IsSend (Columns.the_field K V A g).row
    Columns-send k v s f = search (sendable, over.crosses) depth 20

    module _ (S T : RattleType) (e : eq.Ghosts K.Denot) (h : hash.Ghosts K.Denot) (b : builder.Ghosts S.Denot T.Denot) (w : hasher.Ghosts T.Denot) where
      IndexMap-send : IsSend K → IsSend V → IsSend S → IsSend A → Frees g g.dealloc_token → IsSend (IndexMap.the_field K V S A T e h b w g).row
      IndexMap-send k v t s f = let c = Columns-send k v s f in let i = IndexTable-send s f in search sendable depth 20

-- THE HISTORY, AND WHAT IS HELD

module _ (A : RattleType) (g : Allocator.Ghosts A.Denot) where
  DataSet-send : IsSend A → Frees g g.dealloc_token → IsSend (DataSet.the_field A g).row
  DataSet-send s f = search (sendable, over.crosses, knot.send-DataSet, bytes.the_send, tag.the_send, vr.the_send) depth 40

  UidList-send : IsSend A → Frees g g.dealloc_token → IsSend (UidList.the_field A g).row
  UidList-send s f = search (sendable, over.crosses, maps.BTreeSet-send) depth 40

  Prepared-send : IsSend A → Frees g g.dealloc_token → IsSend (Prepared.the_field A g).row
  Prepared-send s f = let l = UidList-send s f in search (sendable, over.crosses, preparing.send-Prepared, key_tag.the_send) depth 40

  Keys-send : IsSend A → Frees g g.dealloc_token → IsSend (Keys.the_field A g).row
  Keys-send s f = let d = DataSet-send s f in let p = Prepared-send s f in search (sendable, over.crosses) depth 20

  Filter-send : IsSend A → Frees g g.dealloc_token → IsSend (Filter.the_field A g).row
  Filter-send s f = let k = Keys-send s f in search sendable depth 20

  Target-send : IsSend A → Frees g g.dealloc_token → IsSend (Target.the_field A g).row
  Target-send s f = let k = Filter-send s f in search (sendable, leaves) depth 20

  Request-send : IsSend A → Frees g g.dealloc_token → IsSend (Request.the_field A g).row
  Request-send s f = let d = DataSet-send s f in let t = Target-send s f in search (sendable, leaves) depth 40

  Entry-send : IsSend A → Frees g g.dealloc_token → IsSend (Entry.the_field A g).row
  Entry-send s f = let r = Request-send s f in search (sendable, leaves) depth 40

  Entries-send : IsSend A → Frees g g.dealloc_token → IsSend (Vec.the_field (Entry.the_row A g) A g).row
  Entries-send s f = let r = Entry-send s f in search (sendable, over.crosses) depth 40

  History-send : IsSend A → Frees g g.dealloc_token → IsSend (History.the_field A g).row
  History-send s f =
      let e = Entry-send s f in let v = Entries-send s f in
      search (sendable, over.crosses, crosses, log.the_send, IndexMap-send, leaves) depth 60

  Configuration-send : IsSend A → Frees g g.dealloc_token → IsSend (Configuration.the_field A g).row
  Configuration-send s f = search (sendable, over.crosses, leaves) depth 40

  HeldRow-send : IsSend A → IsSync A → Frees g g.dealloc_token → IsSend (HeldRow.the_field A g).row
  HeldRow-send s y f = let r = SharedRow-send A g s y f in search (sendable, leaves) depth 40

-- THE TABLES

module _ (A : RattleType) (g : Allocator.Ghosts A.Denot) where
  Steps-send : IsSend A → IsSync A → Frees g g.dealloc_token → IsSend (Steps.the_field A g).row
  Steps-send s y f =
      let h = HeldRow-send A g s y f in let o : IsSend (Option.the_row (HeldRow.the_row A g)) = search sendable depth 20 in
      let part = SharedPart-send A g s y f in let kept : IsSend (Option.the_row (SharedPart.the_row A g)) = search sendable depth 20 in
      search (sendable, over.crosses, IndexMap-send, leaves) depth 40

  Cover-send : IsSend A → Frees g g.dealloc_token → IsSend (Cover.the_field A g).row
  Cover-send s f = let k = Keys-send A g s f in search (sendable, leaves) depth 40

  Cells-send : IsSend A → Frees g g.dealloc_token → IsSend (Cells.the_field A g).row
  Cells-send s f = search (sendable, over.crosses, leaves) depth 40

  Watchers-send : IsSend A → Frees g g.dealloc_token → IsSend (Watchers.the_field A g).row
  Watchers-send s f = let c = Cover-send s f in let r = Cells-send s f in search (sendable, over.crosses, maps.crosses, leaves) depth 40

  Queue-send : IsSend A → Frees g g.dealloc_token → IsSend (Queue.the_field A g).row
  Queue-send s f = search (sendable, over.crosses, maps.crosses, leaves) depth 40

  Queues-send : IsSend A → Frees g g.dealloc_token → IsSend (Queues.the_field A g).row
  Queues-send s f = let q = Queue-send s f in search (sendable, over.crosses) depth 40

  Due-send : IsSend A → Frees g g.dealloc_token → IsSend (Due.the_field A g).row
  Due-send s f = search (sendable, over.crosses, leaves) depth 40

  Tables-send : IsSend A → IsSync A → Frees g g.dealloc_token → IsSend (Tables.the_field A g).row
  Tables-send s y f =
      let h = Steps-send s y f in let w = Watchers-send s f in let q = Queues-send s f in let d = Due-send s f in
      search (sendable, maps.crosses, leaves) depth 40

-- THE INDEX

module _ (A : RattleType) (g : Allocator.Ghosts A.Denot) where
  StoredText-send : IsSend A → Frees g g.dealloc_token → IsSend (StoredText.the_field A g).row
  StoredText-send s f = search (sendable, over.crosses, leaves) depth 40

  Values-send : IsSend A → Frees g g.dealloc_token → IsSend (Values.the_field A g).row
  Values-send s f = let t = StoredText-send s f in search (sendable, over.crosses) depth 40

  IndexedStep-send : IsSend A → Frees g g.dealloc_token → IsSend (IndexedStep.the_field A g).row
  IndexedStep-send s f = let v = Values-send s f in search (sendable, leaves) depth 40

  SlotTable-send : IsSend A → Frees g g.dealloc_token → IsSend (SlotTable.the_field A g).row
  SlotTable-send s f = let i = IndexedStep-send s f in search (sendable, maps.crosses, leaves) depth 40

  Posts-send : IsSend A → Frees g g.dealloc_token → IsSend (Posts.the_field A g).row
  Posts-send s f = search (sendable, over.crosses, maps.BTreeSet-send, leaves) depth 40

  Index-send : IsSend A → Frees g g.dealloc_token → IsSend (Index.the_field A g).row
  Index-send s f = let l = SlotTable-send s f in let p = Posts-send s f in search (sendable, over.crosses) depth 40

-- THE MANAGER

module _ (A : RattleType) (g : Allocator.Ghosts A.Denot) where
  LeftMemory-send : IsSend A → Frees g g.dealloc_token → IsSend (LeftMemory.the_field A g).row
  LeftMemory-send s f = search (sendable, over.crosses) depth 20

  pub Manager-send : IsSend A → IsSync A → Frees g g.dealloc_token → IsSend (Manager.the_row A g)
  Manager-send s y f = let e = History-send A g s f in let t = Tables-send A g s y f in let o = Configuration-send A g s f in let i = Index-send A g s f in let r = LeftMemory-send s f in search sendable depth 20

-- at the heap, in one step
pub manager_send : IsSend (Manager.the_row Heap.the_row ghosts)
manager_send = Manager-send Heap.the_row ghosts send sync frees

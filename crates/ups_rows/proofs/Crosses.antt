-- A shared row, and a part of them, may go to another thread, where threads may share its allocator: one fact for each type
-- from the ones inside it.
use denote.RattleType.{RattleType}
use denote.Param.Send.{IsSend, IsSync, Frees, sendable}
use Rattle.std.specs.declared.alloc.Allocator as Allocator
use Rattle.std.proofs.CrossingOver as over
use Rattle.ups_dataset.proofs.set.DataSet.TheLaws.TheKnot as knot
use Rattle.ups_dataset.proofs.tag.Tag.TheSendSync as tag
use Rattle.ups_dataset.proofs.vr.Vr.TheSendSync as vr
use Rattle.ups_dataset.specs.contracts.set.DataSet as DataSet
use Rattle.ups_life.specs.contracts.row.Row as Row
use Rattle.ups_rows.specs.contracts.shared_part.SharedPart as SharedPart
use Rattle.ups_rows.specs.contracts.shared_row.SharedRow as SharedRow

module _ (A : RattleType) (g : Allocator.Ghosts A.Denot) where
  DataSet-send : IsSend A → Frees g g.dealloc_token → IsSend (DataSet.the_field A g).row
  DataSet-send s f = search (sendable, over.crosses, knot.send-DataSet, tag.the_send, vr.the_send) depth 40

  DataSet-sync : IsSync A → IsSync (DataSet.the_field A g).row
  DataSet-sync y = search (sendable, over.crosses, knot.sync-DataSet, tag.the_sync, vr.the_sync) depth 40

  Row-send : IsSend A → Frees g g.dealloc_token → IsSend (Row.the_field A g).row
  Row-send s f = let d = DataSet-send s f in search sendable depth 40

  Row-sync : IsSync A → IsSync (Row.the_field A g).row
  Row-sync y = let d = DataSet-sync y in search sendable depth 40

  pub SharedRow-send : IsSend A → IsSync A → Frees g g.dealloc_token → IsSend (SharedRow.the_field A g).row
  SharedRow-send s y f = let r = Row-send s f in let q = Row-sync y in search (sendable, over.crosses) depth 40

  SharedRow-sync : IsSend A → IsSync A → Frees g g.dealloc_token → IsSync (SharedRow.the_field A g).row
  SharedRow-sync s y f = let r = Row-send s f in let q = Row-sync y in search (sendable, over.crosses) depth 40

  pub SharedPart-send : IsSend A → IsSync A → Frees g g.dealloc_token → IsSend (SharedPart.the_field A g).row
  SharedPart-send s y f = let r = SharedRow-send s y f in let q = SharedRow-sync s y f in search (sendable, over.crosses) depth 40

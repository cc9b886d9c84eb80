use denote.Param.Send.{sendable}
use Rattle.ups_net.proofs.Crosses.{waste_send}
use Rattle.ups_net.proofs.tender.DropThreadsDisposer.dispose.Goals as goal

pub spawn-requires-send-F : goal.spawn-requires-send-F
spawn-requires-send-F g c κs within = search (sendable, waste_send) depth 30

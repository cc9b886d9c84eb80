-- The settling of a reaction of a side: what is sent, asked and replied, in order.
use Rattle.std.specs.Prelude.{◌≡◌, ℕ, List, Result, OnOk}
use Rattle.ups_life.specs.declared.request.Reply.{Reply}
use Rattle.ups_session.specs.declared.fault.SessionFault.{SessionFault}
use Rattle.ups_session.specs.Fold.{Visit, Reaction, Side, Settles}
use Rattle.ups_session.specs.Visits.{Sends}
use Rattle.ups_session.specs.World.{World, Changes}

-- The reaction was settled: `due` is what it leads to, and `visits` what was done of it.
pub record IsSettled {A L W Y : Type 0} (side : Side A L W) (reaction : Reaction A L W) (after : L) (old new : World A) (result : Result Y SessionFault) : Type 0 where
  pub replies : List (Reply A)
  pub due : List (Visit A)
  pub end : L
  pub visits : List (Visit A)
  pub sent : List ℕ
  pub settles : Settles side reaction replies due end
  pub changes : Changes visits sent old new
  pub did : OnOk result (end ≡ after)
  pub sends : Sends due visits sent new.output.failed result

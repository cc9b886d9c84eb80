use Rattle.std.proofs.Common.{refl, ◌∙◌}
use Rattle.ups_net.proofs.Watching.{watched_on, watched_same}
use Rattle.ups_net.proofs.sweeping.maintain.Goals as goal

pub loop-init : goal.loop-init
loop-init g c = record { stays = refl; watched = watched_same c.args.pass.now }

pub loop-preserved : goal.loop-preserved
loop-preserved g c = record {
  stays = c.maintain_once.ensures.stays ∙ c.loop.invariant.stays;
  watched = watched_on _ _ _ c.loop.invariant.watched c.maintain_once.ensures.watched;
}

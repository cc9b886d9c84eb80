use Rattle.ups_ledger.proofs.Leaving.{goes_on}
use Rattle.ups_net.proofs.Watching.{watched_on}
use Rattle.std.proofs.Common.{◌∙◌}
use Rattle.ups_net.proofs.committer.Committer.keep_until.Goals as goal

pub loop-preserved : goal.loop-preserved
loop-preserved g c = record {
  stays = c.commit_if-is_done.ensures.stays ∙ c.loop.invariant.stays;
  watched = watched_on _ _ _ c.loop.invariant.watched c.commit_if-is_done.ensures.watched;
  goes_on = goes_on g.L.Ledger _ _ _ _ _ _ c.loop.invariant.goes_on
      (goes_on g.L.Ledger _ _ _ _ _ _ c.commit_if-is_done.ensures.goes_on (c.tend_to.ensures.goes_on _));
}

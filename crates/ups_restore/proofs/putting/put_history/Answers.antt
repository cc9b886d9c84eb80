use Rattle.std.proofs.Common.{◌≤◌, length, sym, subst}
use Rattle.ups_restore.proofs.Groups.{put_more, within}
use Rattle.ups_restore.specs.declared.putting.TheConstants.{MAX_GROUP}
use Rattle.ups_restore.proofs.putting.put_history.Goals as goal

pub loop-place-preserved : goal.loop-place-preserved
loop-place-preserved g c = record {
  within = subst (λ n. n ≤ length c.args.history.now) (sym c.in_ok-place.ensures.place) (within MAX_GROUP c.args.history.now c.loop-place.place c.loop-place.invariant.within);
  put = λ sound.
      put_more (g.L.Ledger.kept c.args.ledger.now) c.args.history.now (g.L.Ledger.kept c.loop-place.ledger) (g.L.Ledger.kept c.put_group.new.ledger) MAX_GROUP c.loop-place.place c.in_ok-place.place c.loop-place.invariant.within
      (c.loop-place.invariant.put (c.put_group.ensures.sound sound)) (c.in_ok-place.ensures.put sound) c.in_ok-place.ensures.place;
  sound = λ sound. c.loop-place.invariant.sound (c.put_group.ensures.sound sound);
}

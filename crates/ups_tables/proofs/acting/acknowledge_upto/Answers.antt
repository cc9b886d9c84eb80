use Rattle.std.proofs.Common.{ap, refl}
use Rattle.ups_events.specs.Queue.{queue_at}
use Rattle.ups_events.specs.Telling.{line, line_at, acked_to}
use Rattle.ups_events.proofs.Tellings.{line_acked}
use Rattle.ups_tables.proofs.Fitness.{fits_same, at_peer}
use Rattle.ups_tables.proofs.acting.acknowledge_upto.Goals as goal

pub returns-clause-effect : goal.returns-clause-effect
returns-clause-effect g c = record {
  steps = refl;
  used = λ u. refl;
  covers = refl;
  hows = λ p u. refl;
  queues = λ p. at_peer c.args.peer p (line_at c.ack.new.self) (line_at c.args.tables.now.queues) (acked_to c.args.upto)
      (line_acked (queue_at c.args.tables.now.queues c.args.peer) (queue_at c.ack.new.self c.args.peer) c.args.upto c.in-Ok.ensures.acked) (λ q n. ap line (c.ack.ensures.others q n));
}

pub returns-clause-fits : goal.returns-clause-fits
returns-clause-fits g c = fits_same c.args.tables.now _ c.requires.fits refl refl c.ack.ensures.peers c.learn.ensures (λ p u. refl) (λ u. refl) refl

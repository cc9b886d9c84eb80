use Rattle.std.proofs.Common.{[], None}
use Rattle.std.specs.Io.KnownBytes.{Consumes}
use Rattle.std.proofs.KnownBytes.{Consumes-nil}
use Rattle.ups_session.specs.declared.watched_io.LastRead.TheVariants.{Gave}
use Rattle.ups_session.specs.Acceptor.{acceptor, opened}
use Rattle.ups_session.specs.WatchedIo.{Input}
use Rattle.ups_service.specs.Law.{nobody, alone}
use Rattle.ups_session.specs.World.{world}
use Rattle.ups_pipe.specs.Hexing.{bytes_left}
use Rattle.ups_pipe.specs.Piping.{config, epoch, settings, unwritten}
use Rattle.ups_pipe.proofs.Settling.{settled, unbegun}
use Rattle.ups_pipe.proofs.piping.pipe_told.Goals as goal

pub returns-in_default : goal.returns-in_default
returns-in_default g c =
    let w = world {A = g.row.A.Denot} c.args.writer.now epoch (settings c.args.peers.now) nobody 0 (alone []) in
    let v = world {A = g.row.A.Denot} unwritten epoch (settings c.args.peers.now) nobody 0 (alone []) in
    let now : Input = record { left = bytes_left None None c.args.reader.now.left; last = Gave } in
    record {
      session = λ h. ([], [], Consumes-nil _, unbegun (acceptor (config c.args.ae)) (λ live. live.ending) opened c.args.turns c.args.reader.now w);
      digits = λ h. (now, unwritten, [], [], Consumes-nil _, unbegun (acceptor (config c.args.ae)) (λ live. live.ending) opened c.args.turns now v);
    }

pub returns-then-hex : goal.returns-then-hex
returns-then-hex g c = record {
  session = λ h. absurd cc;
  digits = λ h.
      let (now, written, input, consumed, is) = c.serve_digits-ended.ensures.session in
      let first : Consumes (bytes_left None None c.args.reader.now.left) now.left input = rw (c.new-digits.ensures.begins.0, c.new-digits.ensures.begins.1, c.new-digits.ensures.inner) at consumed in (
        now,
        written,
        input,
        c.serve_digits-ended.new.manager.history,
        first,
        settled (acceptor (config c.args.ae)) (λ live. live.ending) opened c.args.turns now input unwritten written epoch epoch
            (settings c.args.peers.now) c.in-Ok.manager.settings c.serve_digits-ended.new.manager.settings nobody 0 c.in-Ok.manager.history c.serve_digits-ended.new.manager.history c.serve_digits-ended.result c.in-Ok.ensures.settings c.in-Ok.ensures.history is,
      );
}

pub returns : goal.returns
returns g c = record {
  session = λ h.
      let (input, consumed, is) = c.serve-ended.ensures.session in (
        input,
        c.serve-ended.new.service.history,
        consumed,
        settled (acceptor (config c.args.ae)) (λ live. live.ending) opened c.args.turns c.serve-ended.new.reader input c.args.writer.now c.serve-ended.new.writer epoch epoch
            (settings c.args.peers.now) c.in-Ok.manager.settings c.serve-ended.new.service.settings nobody 0 c.in-Ok.manager.history c.serve-ended.new.service.history c.serve-ended.result c.in-Ok.ensures.settings c.in-Ok.ensures.history is,
      );
  digits = λ h. absurd cc;
}

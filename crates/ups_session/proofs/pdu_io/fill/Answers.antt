use Rattle.std.proofs.Common.{rules, ◌++◌, ◌-◌, length, take, ap, ◌∙◌, append_assoc}
use Rattle.std.proofs.KnownBytes.{Consumes-trans}
use Rattle.ups_session.proofs.Filling.{take_filled}
use Rattle.ups_session.proofs.pdu_io.fill.Goals as goal

pub loop-at-preserved : goal.loop-at-preserved
loop-at-preserved g c =
    let (len, low, high, input, consumed, front) = c.loop-at.invariant in
    let s = c.in-Ok.ensures.bytes in
    let more = take_filled c.loop-at.at (length c.loop-at.buf - c.loop-at.at) c.in-Ok.n c.loop-at.buf c.read.new.buf high c.in-Ok.ensures.bound.0 in (
      search rules,
      search rules,
      search rules,
      input ++ take c.in-Ok.n c.read.new.buf,
      Consumes-trans _ _ _ _ _ consumed s.0,
      more ∙ ap (λ l. l ++ take c.in-Ok.n c.read.new.buf) front ∙ append_assoc (take c.args.from c.args.buf.now) input (take c.in-Ok.n c.read.new.buf),
    )

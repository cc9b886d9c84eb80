use Rattle.std.proofs.Common.{length, arith, sym, ap}
use Rattle.std.proofs.lemmas.List.{take-append-drop, length-take}
use Rattle.ups_pdu.proofs.association.title_at.Goals as goal

pub returns : goal.returns
returns c =
    let h = c.in_ok-title.ensures.cases in
    (omega (arith, ap length h.0, length-take 16 c.args.bytes.now, h.2), rw (h.0, h.1) (sym (take-append-drop 16 c.args.bytes.now)))

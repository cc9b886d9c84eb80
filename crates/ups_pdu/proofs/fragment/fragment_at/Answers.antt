use Rattle.ups_pdu.proofs.fragment.fragment_at.Goals as goal

pub returns-in_err-chunk : goal.returns-in_err-chunk
returns-in_err-chunk c = rw c.from_residual.ensures (λ fragment rest h. c.in_err-chunk.ensures _ _ h.is)

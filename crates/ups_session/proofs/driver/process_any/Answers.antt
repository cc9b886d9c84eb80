use Rattle.std.proofs.Common.{List, ℕ, subst}
use Rattle.ups_pdu.specs.Spelling.{IsFault, IsFront}
use Rattle.ups_pdu.proofs.Whole.{front_from_spelled}
use Rattle.ups_session.specs.Fold.{pdu}
use Rattle.ups_session.proofs.Coming.{turned}
use Rattle.ups_session.proofs.Headed.{decoded_pdu}
use Rattle.ups_session.proofs.driver.process_any.Goals as goal

pub process_pdu-requires-clause-spelled : goal.process_pdu-requires-clause-spelled
process_pdu-requires-clause-spelled g c =
    let bytes = c.args.buffer.now.items in
    let front = subst (λ (l : List ℕ). IsFront {A = g.row.A.Denot} l c.in-Ok.pdu c.in-Ok.field-0-1) c.as_slice.ensures.value (front_from_spelled c.as_slice.result.now c.in-Ok.pdu c.in-Ok.field-0-1 c.in-Ok.ensures.found.0 c.in-Ok.ensures.found.1) in
    (bytes, decoded_pdu bytes c.in-Ok.field-0-1 c.in-Ok.pdu c.requires.complete front)

pub returns-in-Ok-clause-turn : goal.returns-in-Ok-clause-turn
returns-in-Ok-clause-turn g c = λ now.
    let bytes = c.args.buffer.now.items in
    let front = subst (λ (l : List ℕ). IsFront {A = g.row.A.Denot} l c.in-Ok.pdu c.in-Ok.field-0-1) c.as_slice.ensures.value (front_from_spelled c.as_slice.result.now c.in-Ok.pdu c.in-Ok.field-0-1 c.in-Ok.ensures.found.0 c.in-Ok.ensures.found.1) in
    turned (g.P.Party.side (g.P.Party.setup c.args.party.now)) (g.P.Party.view c.args.party.now) (g.P.Party.view c.process_pdu.new.party) now bytes (pdu c.in-Ok.pdu) _ _ c.process_pdu.result (decoded_pdu bytes c.in-Ok.field-0-1 c.in-Ok.pdu c.requires.complete front) tt c.process_pdu.ensures.performed

pub returns-in-Err-clause-turn : goal.returns-in-Err-clause-turn
returns-in-Err-clause-turn g c = λ now.
    let bytes = c.args.buffer.now.items in
    c.process_fault.ensures.turn now bytes c.requires.complete (subst (λ (l : List ℕ). IsFault g.row.A.Denot l c.in-Err.fault) c.as_slice.ensures.value c.in-Err.ensures.fault)

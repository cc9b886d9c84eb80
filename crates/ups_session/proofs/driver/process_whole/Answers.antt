use Rattle.std.proofs.Common.{List, ℕ, subst}
use Rattle.ups_pdu.specs.declared.pdu.Pdu.TheVariants.{Data}
use Rattle.ups_pdu.specs.Spelling.{IsFault, IsFront}
use Rattle.ups_session.specs.Fold.{pdu}
use Rattle.ups_session.proofs.Coming.{turned}
use Rattle.ups_session.proofs.Headed.{decoded_pdu}
use Rattle.ups_session.proofs.driver.process_whole.Goals as goal

pub returns-in-Ok-Some-clause-turn : goal.returns-in-Ok-Some-clause-turn
returns-in-Ok-Some-clause-turn g c = λ now.
    let bytes = c.args.buffer.now.items in
    let front = subst (λ (l : List ℕ). IsFront {A = g.row.A.Denot} l (Data c.in-Ok-Some.pdvs) c.in-Ok-Some.field-0-0-1) c.as_slice.ensures.value (rw c.in-Ok-Some.field-0-is at c.in-Ok-Some.ensures) in
    turned (g.P.Party.side (g.P.Party.setup c.args.party.now)) (g.P.Party.view c.args.party.now) (g.P.Party.view c.process_fragments.new.party) now bytes (pdu (Data c.in-Ok-Some.pdvs)) _ _ c.process_fragments.result (decoded_pdu bytes c.in-Ok-Some.field-0-0-1 (Data c.in-Ok-Some.pdvs) c.requires.complete front) tt c.process_fragments.ensures.performed

pub returns-in-Err-clause-turn : goal.returns-in-Err-clause-turn
returns-in-Err-clause-turn g c = λ now.
    let bytes = c.args.buffer.now.items in
    c.process_fault.ensures.turn now bytes c.requires.complete (subst (λ (l : List ℕ). IsFault g.row.A.Denot l c.in-Err.fault) c.as_slice.ensures.value c.in-Err.ensures)

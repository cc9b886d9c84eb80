use Rattle.std.proofs.Common.{refl, subst}
use Rattle.ups_pdu.specs.declared.fault.PduFault.{PduFault}
use Rattle.ups_pdu.specs.Spelling.{IsFault}
use Rattle.ups_session.specs.declared.fault.SessionFault.TheVariants.{Memory}
use Rattle.ups_session.specs.Fold.{bad}
use Rattle.ups_session.proofs.Coming.{turned, turned_lost}
use Rattle.ups_session.proofs.Headed.{decoded_bad, decoded_lost}
use Rattle.ups_session.proofs.driver.process_fault.Goals as goal

pub returns-in-Memory-clause-turn : goal.returns-in-Memory-clause-turn
returns-in-Memory-clause-turn g c = λ now input complete f.
    turned_lost (g.P.Party.side (g.P.Party.setup c.args.party.now)) (g.P.Party.view c.args.party.now) (g.P.Party.view c.args.party.now) now input _ Memory refl (decoded_lost g.row.A.Denot input complete (subst (λ (x : PduFault). IsFault g.row.A.Denot input x) c.in-Memory.is f))

pub returns-in_default : goal.returns-in_default
returns-in_default g c = record {
  turn = λ now input complete f.
      turned (g.P.Party.side (g.P.Party.setup c.args.party.now)) (g.P.Party.view c.args.party.now) (g.P.Party.view c.process_bad.new.party) now input (bad c.args.fault) _ _ c.process_bad.result (decoded_bad g.row.A.Denot input c.args.fault complete c.in_default.not-Memory f) tt c.process_bad.ensures.performed;
  ready = c.process_bad.ensures.ready;
  setup = c.process_bad.ensures.setup;
  names = c.process_bad.ensures.names;
}

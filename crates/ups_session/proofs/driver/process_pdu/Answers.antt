use Rattle.ups_session.proofs.driver.process_pdu.Goals as goal

pub returns-in-Ok-clause-performed : goal.returns-in-Ok-clause-performed
returns-in-Ok-clause-performed g c = rw (c.in-Ok.ensures.indications) c.perform.ensures.performed

pub returns-in-Err-clause-performed : goal.returns-in-Err-clause-performed
returns-in-Err-clause-performed g c = rw (c.in-Err.ensures.indications) c.process_fragments.ensures.performed

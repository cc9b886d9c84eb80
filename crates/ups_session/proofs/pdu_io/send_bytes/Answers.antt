use Rattle.ups_session.proofs.Telling.{announced, Tells-trans}
use Rattle.ups_session.proofs.pdu_io.send_bytes.Goals as goal

pub write_announced-sent-requires : goal.write_announced-sent-requires
write_announced-sent-requires g c = announced _ _ c.before_write.ensures

pub returns-clause-bytes : goal.returns-clause-bytes
returns-clause-bytes g c = c.write_announced-sent.ensures

pub returns-clause-told : goal.returns-clause-told
returns-clause-told g c = Tells-trans _ _ _ _ _ c.before_write.ensures c.after_write.ensures

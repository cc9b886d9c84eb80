use Rattle.std.proofs.lemmas.Result.{err_from_is_err_and}
use Rattle.ups_dimse.proofs.Failing.{get_fails}
use Rattle.ups_dimse.proofs.reading.get_request.Goals as goal

pub returns-in_err-tags_of : goal.returns-in_err-tags_of
returns-in_err-tags_of g c = λ es s f.
    let p = err_from_is_err_and c.from_residual-in_err-tags_of.result c.from_residual-in_err-tags_of.ensures.1 in
    rw (p.1, p.2) (get_fails es c.uid_of.result c.uid_of-2.result _ _ _ (c.uid_of.ensures es 0x0003 s.requested_class) f (c.in_ok-us_of.ensures es s.message_id) (c.in_ok-has_data_set.ensures es s) (c.uid_of-2.ensures es 0x1001 s.requested_instance) (c.in_err-tags_of.ensures es s.attributes))

use Rattle.ups_dimse.proofs.Sizes.{response_joined}
use Rattle.ups_dimse.specs.Written.{uid_element, us_element, data_set_element, result_elements}
use Rattle.ups_dimse.specs.Commands.{response_of}
use Rattle.ups_dimse.specs.Messages.{field_of}
use Rattle.ups_dimse.proofs.writing.put_response.Goals as goal

pub returns-clause-wrote : goal.returns-clause-wrote
returns-clause-wrote g c =
    let r = c.args.response.now in
    response_joined _ _ _ _ _ _ _ (uid_element 0x0002 r.sop_class) (result_elements r.result) (us_element 0x0100 (field_of (response_of r.result))) (us_element 0x0120 r.responded_to) (data_set_element r.has_data_set) (us_element 0x0900 r.status)
    c.in_ok-put_uid.ensures.wrote
    (rw (c.field.ensures, c.message.ensures) at c.in_ok-put_us.ensures.wrote)
    c.in_ok-put_us-2.ensures.wrote c.in_ok-put_data_set.ensures c.in_ok-put_us-3.ensures.wrote c.in_ok-put_result.ensures.wrote

use Rattle.ups_dimse.proofs.Sizes.{request_joined}
use Rattle.ups_dimse.specs.Written.{uid_element, us_element, optional_us_element, priority_of, data_set_element, operation_elements}
use Rattle.ups_dimse.specs.Commands.{class_element, request_of}
use Rattle.ups_dimse.specs.Messages.{field_of}
use Rattle.ups_dimse.proofs.writing.put_request.Goals as goal

pub returns-clause-wrote : goal.returns-clause-wrote
returns-clause-wrote g c =
    let r = c.args.request.now in
    request_joined _ _ _ _ _ _ _ (uid_element (class_element r.operation) r.sop_class) (optional_us_element 0x0700 (priority_of r.operation)) (operation_elements r.operation) (us_element 0x0100 (field_of (request_of r.operation))) (us_element 0x0110 r.message_id) (data_set_element r.has_data_set)
    (rw c.class_element.ensures at c.in_ok-put_uid.ensures.wrote)
    (rw (c.field.ensures, c.message.ensures) at c.in_ok-put_us.ensures.wrote)
    c.in_ok-put_us-2.ensures.wrote
    (rw c.priority.ensures at c.in_ok-put_optional_us.ensures.wrote)
    c.in_ok-put_data_set.ensures c.in_ok-put_operation.ensures.wrote

use Rattle.std.proofs.Common.{refl, inl, inr}
use Rattle.std.proofs.lemmas.Result.{err_from_is_err_and}
use Rattle.ups_dimse.specs.declared.fault.DimseFault.TheVariants.{UnknownField}
use Rattle.ups_dimse.proofs.Failing.{only_command, fault_command, spelled_no}
use Rattle.ups_dimse.proofs.reading.read_command.Goals as goal

pub returns-in_err-field-clause-only : goal.returns-in_err-field-clause-only
returns-in_err-field-clause-only g c = λ command p.
    let es = c.in-Some.ensures in
    let q = err_from_is_err_and c.from_residual.result c.from_residual.ensures.1 in
    rw (q.1, q.2) (absurd (spelled_no c.args.bytes.now command es.0 _ p es.1 (inl (c.in_err-field.ensures es.0 es.2.command_field))))

pub returns-in_default-of-clause-only : goal.returns-in_default-of-clause-only
returns-in_default-of-clause-only g c = λ command p.
    let es = c.in-Some.ensures in
    absurd (spelled_no c.args.bytes.now command es.0 UnknownField p es.1 (inr (inl (_, c.in_ok-field.ensures es.0 es.2.command_field, c.in_default-of.ensures, refl))))

pub returns-clause-only : goal.returns-clause-only
returns-clause-only g c =
    let es = c.in-Some.ensures in
    let field = rw (← c.in-Some-of.ensures) at (c.in_ok-field.ensures es.0 es.2.command_field) in
    only_command c.args.bytes.now c.in-Some-of.message es.0 es.1 field c.command_of.result (c.command_of.ensures es.0 es.2 field)

pub returns-clause-fault : goal.returns-clause-fault
returns-clause-fault g c =
    let es = c.in-Some.ensures in
    let field = rw (← c.in-Some-of.ensures) at (c.in_ok-field.ensures es.0 es.2.command_field) in
    fault_command c.args.bytes.now c.in-Some-of.message es.0 es.1 field c.command_of.result (c.command_of.ensures es.0 es.2 field)

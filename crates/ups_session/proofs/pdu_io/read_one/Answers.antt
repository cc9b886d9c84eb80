use Rattle.std.proofs.Common.{◌++◌, ◌∙◌, ℕ, List, length, inl, ap, subst}
use Rattle.std.proofs.KnownBytes.{Consumes-trans}
use Rattle.ups_pdu.specs.Header.{HeaderFails}
use Rattle.ups_session.specs.Reading.{IsRead}
use Rattle.ups_session.proofs.Headed.{nothing_came}
use Rattle.ups_session.proofs.pdu_io.read_one.Goals as goal

pub returns-in-Ok-body_len : goal.returns-in-Ok-body_len
returns-in-Ok-body_len g c =
    let (input, consumed, (is, six)) = c.in-Ok.ensures in
    let (body, more, taken) = c.read_body.ensures in (
      input ++ body,
      Consumes-trans _ _ _ _ _ consumed more,
      subst (λ (l : List ℕ). IsRead g.row.A.Denot c.read_body.new.reader (l ++ body) c.read_body.new.buffer.items c.read_body.result) is taken,
    )

pub returns-in-Err : goal.returns-in-Err
returns-in-Err g c =
    let (input, consumed, got) = c.in-Err.ensures in
    (input, consumed, nothing_came g.row.A.Denot c.read_header.new.reader input _ c.in-Err.got got)

pub body_len-requires : goal.body_len-requires
body_len-requires g c =
    let (input, consumed, (is, six)) = c.in-Ok.ensures in
    ap length is ∙ six

pub read_body-requires-clause-six : goal.read_body-requires-clause-six
read_body-requires-clause-six g c =
    let (input, consumed, (is, six)) = c.in-Ok.ensures in
    ap length is ∙ six

pub read_body-requires-clause-header : goal.read_body-requires-clause-header
read_body-requires-clause-header g c = c.in-Ok-body_len.ensures

pub returns-in-Err-body_len : goal.returns-in-Err-body_len
returns-in-Err-body_len g c =
    let (input, consumed, (is, six)) = c.in-Ok.ensures in
    let (short, memory, fails) = c.in-Err-body_len.ensures in
    (input, consumed, inl (record { six = six; other = short; fails = subst (λ (l : List ℕ). HeaderFails l c.in-Err-body_len.fault) is fails }))

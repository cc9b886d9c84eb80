use Rattle.std.proofs.Common.{rules, ◌≡◌, ◌<◌, ◌≤◌, ◌+◌, ◌++◌, ◌∙◌, sym, ap, [], length, take}
use Rattle.std.proofs.KnownBytes.{Consumes-nil}
use Rattle.std.proofs.lemmas.List.{take_all}
use Rattle.std.proofs.lemmas.Result.{err_from_is_err_and}
use Rattle.ups_session.proofs.Headed.{filled_length, takes_cut, takes_nothing, taken_whole, whole_body}
use Rattle.ups_session.proofs.pdu_io.read_body.Goals as goal

pub returns-in_err-begin_pdu : goal.returns-in_err-begin_pdu
returns-in_err-begin_pdu g c =
    let (kind, rest, h, within) = c.requires.header in
    let p = err_from_is_err_and c.from_residual.result c.from_residual.ensures.1 in
    ([], Consumes-nil c.args.reader.now.left, rw (p.1, p.2, c.in_err-begin_pdu.ensures.memory) (takes_nothing g.row.A.Denot c.args.reader.now c.args.header.now kind c.args.len rest c.begin_pdu.new.buffer.items c.requires.six h within))

pub returns-then-whole-len : goal.returns-then-whole-len
returns-then-whole-len g c =
    let (body, consumed, filled) = c.fill-whole.ensures.bytes in
    let (kind, rest, h, within) = c.requires.header in
    let e : c.fill-whole.result.count ≡ 6 + length body = filled_length _ 6 _ _ body filled c.fill-whole.ensures.within.1 (search rules) in
    let short : length body < c.args.len = search rules in
    let more : c.fill-whole.result.count < length c.fill-whole.new.buf = search rules in (
      body,
      consumed,
      takes_cut g.row.A.Denot c.fill-whole.new.reader c.args.header.now body kind c.args.len rest _ c.cut_off.result c.fill-whole.result.failed c.requires.six h within short c.cut_off.ensures.failed c.cut_off.ensures.ended (c.fill-whole.ensures.end more) c.fill-whole.ensures.failed,
    )

pub returns : goal.returns
returns g c =
    let (body, consumed, filled) = c.fill-whole.ensures.bytes in
    let (kind, rest, h, within) = c.requires.header in
    let e : c.fill-whole.result.count ≡ 6 + length body = filled_length _ 6 _ _ body filled c.fill-whole.ensures.within.1 (search rules) in
    let len : length body ≡ c.args.len = search rules in
    let all : length c.fill-whole.new.buf ≤ c.fill-whole.result.count = search rules in
    let same : c.begin_pdu.new.buffer.len ≡ length c.fill-whole.new.buf = search rules in
    let is = taken_whole _ c.fill-whole.new.buf _ same ∙ sym (take_all _ c.fill-whole.new.buf all) ∙ filled ∙ ap (λ l. take 6 l ++ body) c.as_mut_slice.ensures.value ∙ ap (λ l. l ++ body) c.in_ok-begin_pdu.ensures.front in (
      body,
      consumed,
      (is, (kind, body, whole_body c.args.header.now body kind c.args.len rest c.requires.six h within len)),
    )

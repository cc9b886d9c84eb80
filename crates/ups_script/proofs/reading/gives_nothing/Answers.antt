use Rattle.std.proofs.Common.{◌≡◌, ◌<◌, true, false, length, rules}
use Rattle.ups_script.proofs.Taking.{ends_here, more_here}
use Rattle.ups_script.proofs.reading.gives_nothing.Goals as goal

pub returns-in-Ok-clause-end : goal.returns-in-Ok-clause-end
returns-in-Ok-clause-end g c e =
    let empty : c.is_empty.result ≡ true = cc in
    let none : length c.in-Ok.bytes.now ≡ 0 = search rules in
    ends_here _ _ c.in-Ok.bytes.now c.in-Ok.ensures.end c.fill_buf.follows.holds-at-none.0 none

pub returns-in-Ok-clause-more : goal.returns-in-Ok-clause-more
returns-in-Ok-clause-more g c e =
    let some : c.is_empty.result ≡ false = cc in
    let shown : 0 < length c.in-Ok.bytes.now = search rules in
    more_here _ c.in-Ok.bytes.now c.in-Ok.ensures.front shown

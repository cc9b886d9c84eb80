use Rattle.std.proofs.Common.{◌≡◌, length, ◌∙◌, arith}
use Rattle.ups_start.specs.Granted.{as_granted}
use Rattle.ups_start.specs.Shelved.{kept_in}
use Rattle.ups_start.proofs.Granted.{read_on, read_end}
use Rattle.ups_start.proofs.granting.draft_next.Goals as goal

pub returns-clause-put : goal.returns-clause-put
returns-clause-put g c = λ sound.
    let mid = c.draft.ensures.sound sound in
    let many : c.len-many.result ≡ length c.in_ok-records.records.items = omega arith in
    read_on (as_granted c.args.was.now c.args.peers.now) (kept_in c.args.shelf.now) c.in_ok-records.records.items c.deref.result.now _ _ _ c.args.from c.len-many.result 512 (c.in_ok-records.ensures.read mid) many (c.deref.ensures.value ∙ c.in_ok-granted.ensures) (c.read.ensures.drafts mid)
    (c.in_ok-draft.ensures.put sound)

pub returns-clause-ended : goal.returns-clause-ended
returns-clause-ended g c = λ sound none.
    let many : c.len-many.result ≡ length c.in_ok-records.records.items = omega arith in
    read_end (kept_in c.args.shelf.now) c.in_ok-records.records.items c.args.from c.len-many.result 512 (omega arith) (c.in_ok-records.ensures.read (c.draft.ensures.sound sound)) many none

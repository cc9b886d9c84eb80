use Rattle.std.proofs.Common.{ℕ, List, subst}
use Rattle.sqlite_wal.specs.Recovery.{Replays}
use Rattle.ups_store.specs.Found.{whole_page}
use Rattle.ups_store.specs.Refused.{HasLog}
use Rattle.ups_store.proofs.Opened.{halves, clean_beside}
use Rattle.ups_store.proofs.opening.is_new.Goals as goal

pub returns-in-Ok-true-has_log-clause-cause : goal.returns-in-Ok-true-has_log-clause-cause
returns-in-Ok-true-has_log-clause-cause g c clean =
    let mid = c.is_blank.new.files in
    let new = c.has_log.new.log in (
      c.in-Ok-true.ensures.blank (clean_beside mid.log new mid.db c.has_log.ensures.same clean) c.in-Ok-true.field-0-test,
      subst HasLog c.is_blank.ensures.log.seen (c.in-Ok-true-has_log.ensures.some (halves (g.D.Disk.is_clean new) (g.D.Disk.is_clean mid.db) clean).0 c.in-Ok-true-has_log.field-0-test),
    )

pub returns-in-Ok-false-has_log-clause-fresh : goal.returns-in-Ok-false-has_log-clause-fresh
returns-in-Ok-false-has_log-clause-fresh g c clean _ =
    let mid = c.is_blank.new.files in
    let new = c.has_log.new.log in (
      c.in-Ok-true.ensures.blank (clean_beside mid.log new mid.db c.has_log.ensures.same clean) c.in-Ok-true.field-0-test,
      subst (λ (bytes : List ℕ). Replays whole_page bytes 0) c.is_blank.ensures.log.seen (c.in-Ok-false-has_log.ensures.none (halves (g.D.Disk.is_clean new) (g.D.Disk.is_clean mid.db) clean).0 c.in-Ok-false-has_log.field-0-test),
    )

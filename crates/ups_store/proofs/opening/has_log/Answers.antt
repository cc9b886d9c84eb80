use Rattle.std.proofs.Common.{rules, ◌≡◌, ℕ, sym, subst, ◌∙◌}
use Rattle.sqlite_wal.specs.Outcome.{HasCause}
use Rattle.sqlite_wal.specs.Opening.{RefusesLog}
use Rattle.ups_store.specs.Found.{whole_page}
use Rattle.ups_store.proofs.Opened.{log_refused}
use Rattle.ups_store.proofs.opening.has_log.Goals as goal

pub returns-then-refuses_log-clause-some : goal.returns-then-refuses_log-clause-some
returns-then-refuses_log-clause-some g c clean _ =
    let size : c.unwrap-size.result.bytes ≡ whole_page = search rules in
    let cause = subst (λ (n : ℕ). HasCause (g.D.Disk.faults c.args.log.now) (g.D.Disk.faults c.probe_frames.new.log) (RefusesLog n (g.D.Disk.seen c.args.log.now)) c.in-Err.error) size (c.in-Err.ensures.cause.0 clean) in
    log_refused (g.D.Disk.faults c.args.log.now) (g.D.Disk.faults c.probe_frames.new.log) (g.D.Disk.seen c.args.log.now) c.in-Err.error (sym c.refuses_log.ensures ∙ c.if-refuses_log.true) cause

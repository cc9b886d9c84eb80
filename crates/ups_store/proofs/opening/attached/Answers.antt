use Rattle.std.proofs.Common.{ℕ, List, true, inl, ap, ◌∙◌}
use Rattle.sqlite_trees.proofs.Doubt.{clean_of}
use Rattle.sqlite_store.specs.declared.catalog.Wanted.{Wanted}
use Rattle.sqlite_store.specs.FileStore.{state, schema_of}
use Rattle.sqlite_store.specs.Unopened.{state_of, IsFullFile, HasFileAs}
use Rattle.sqlite_store.specs.Listing.{file_trees}
use Rattle.ups_store.proofs.Opened.{fresh_if_ready, committed_as, clean_back, reason_back}
use Rattle.ups_store.proofs.opening.attached.Goals as goal

pub returns-in-Ok-clause-fresh : goal.returns-in-Ok-clause-fresh
returns-in-Ok-clause-fresh g c clean = fresh_if_ready c.in-Ok.store c.in-Ok.ensures.ready (c.requires.table.0, c.in-Ok.ensures.schema ∙ c.requires.table.1) c.in-Ok.ensures.numbered clean

pub returns-in-Ok-clause-found : goal.returns-in-Ok-clause-found
returns-in-Ok-clause-found g c clean =
    let e = c.in-Ok.ensures in
    let it = c.in-Ok.store in
    let size = (e.kept (clean_of _ clean)).size in
    ((state it).committed, e.found (clean_of _ clean), committed_as it e.ready clean ∙ ap (λ (n : ℕ). file_trees n (schema_of it) (state it).committed) size ∙ ap (λ (schema : List Wanted). file_trees (state_of c.args.files).page_size schema (state it).committed) e.schema)

pub returns-in-Ok-clause-honest : goal.returns-in-Ok-clause-honest
returns-in-Ok-clause-honest g c clean = c.in-Ok.ensures.honest (clean_of _ clean)

pub returns-in-Err-clause-cause : goal.returns-in-Err-clause-cause
returns-in-Err-clause-cause g c clean =
    let left = c.in-Err.left in
    let r = c.refused.result in
    reason_back (state_of c.args.files).faults left r.files (IsFullFile left) (HasFileAs c.args.files true) c.in-Err.error _ r.fault c.refused.ensures.files c.refused.ensures.fault (λ l. inl l) (c.in-Err.ensures.cause (clean_back left r.files c.refused.ensures.files clean))

pub returns-in-Err-clause-falls : goal.returns-in-Err-clause-falls
returns-in-Err-clause-falls g c clean = c.in-Err.ensures.falls (clean_back c.in-Err.left c.refused.result.files c.refused.ensures.files clean)

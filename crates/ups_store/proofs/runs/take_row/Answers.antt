use Rattle.ups_store.proofs.Behind.{only_moved}
use Rattle.ups_store.proofs.Steps.{writes_kept, failed_kept, on_either, mapped}
use Rattle.ups_store.proofs.runs.take_row.Goals as goal

pub returns-then-branch-clause-kept : goal.returns-then-branch-clause-kept
returns-then-branch-clause-kept g c =
    let old = g.S.Store.view c.args.store.now in
    let new = g.S.Store.view c.next.new.self in
    on_either c.next.result (mapped c.next.result (λ moves. writes_kept old new c.next.ensures.schema (g.met.S.Store.shut_if_dirty c.next.new.self) (λ clean. only_moved old new (moves clean).same)) c.next.ensures.moves)
    (failed_kept c.next.result old new c.next.ensures.err)

pub returns-clause-kept : goal.returns-clause-kept
returns-clause-kept g c =
    let old = g.S.Store.view c.args.store.now in
    let new = g.S.Store.view c.next.new.self in
    on_either c.next.result (mapped c.next.result (λ moves. writes_kept old new c.next.ensures.schema (g.met.S.Store.shut_if_dirty c.next.new.self) (λ clean. only_moved old new (moves clean).same)) c.next.ensures.moves)
    (failed_kept c.next.result old new c.next.ensures.err)

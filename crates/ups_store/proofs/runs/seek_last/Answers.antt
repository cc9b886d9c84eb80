use Rattle.ups_store.proofs.Behind.{placed_last, moved, only_moved}
use Rattle.ups_store.proofs.Steps.{writes_kept, failed_kept, on_either, mapped}
use Rattle.ups_store.proofs.runs.seek_last.Goals as goal

pub returns-clause-left : goal.returns-clause-left
returns-clause-left g c = mapped c.seek.result (λ seeks clean. placed_last (g.S.Store.view c.args.store.now) (g.S.Store.view c.seek.new.self) c.args.table _ c.clear.ensures (seeks clean)) c.seek.ensures.ok

pub returns-clause-kept : goal.returns-clause-kept
returns-clause-kept g c =
    let old = g.S.Store.view c.args.store.now in
    let new = g.S.Store.view c.seek.new.self in
    on_either c.seek.result (mapped c.seek.result (λ seeks. writes_kept old new c.seek.ensures.schema (g.met.S.Store.shut_if_dirty c.seek.new.self) (λ clean. only_moved old new (moved old new _ (seeks clean)))) c.seek.ensures.ok)
    (failed_kept c.seek.result old new c.seek.ensures.err)

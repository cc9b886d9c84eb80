use Rattle.ups_store.proofs.Steps.{writes_kept, failed_kept, on_either, mapped}
use Rattle.ups_store.proofs.Tables.{others_set}
use Rattle.ups_store.proofs.runs.put_run.Goals as goal

pub returns-clause-kept : goal.returns-clause-kept
returns-clause-kept g c = on_either c.put.result (mapped c.put.result (λ only. writes_kept _ _ c.put.ensures.schema (g.met.S.Store.shut_if_dirty c.put.new.self) only) c.put.ensures.frame) (failed_kept c.put.result _ _ c.put.ensures.err)

pub returns-clause-others : goal.returns-clause-others
returns-clause-others g c = mapped c.put.result (λ sets clean. others_set (g.S.Store.view c.args.store.now) (g.S.Store.view c.put.new.self) 1 _ (sets clean)) c.put.ensures.ok

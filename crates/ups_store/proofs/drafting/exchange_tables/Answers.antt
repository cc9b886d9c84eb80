use Rattle.ups_store.proofs.Steps.{clean_before, mapped}
use Rattle.ups_store.proofs.Tables.{low_from}
use Rattle.ups_store.proofs.Exchanged.{exchanges}
use Rattle.ups_store.proofs.drafting.exchange_tables.Goals as goal

pub returns-clause-exchanges : goal.returns-clause-exchanges
returns-clause-exchanges g c =
    let old = g.S.Store.view c.args.store.now in
    let mid = g.S.Store.view c.put_run.new.store in
    let new = g.S.Store.view c.list_exchanged.new.store in
    mapped c.list_exchanged.result (λ lists clean.
    let between = clean_before mid new c.list_exchanged.ensures.quiet.clean clean in
    let was = clean_before old mid c.put_run.ensures.quiet.clean between in
    let sets = c.in_ok-put_run.ensures.put between in
    exchanges old mid new c.args.table _ (low_from _ c.args.table (c.requires.can was sets.sound).tabled) sets (lists clean)) c.list_exchanged.ensures.listed

use Rattle.ups_store.proofs.Steps.{clean_before, mapped}
use Rattle.ups_store.proofs.Relisted.{lists_anew}
use Rattle.ups_store.proofs.upgrading.list_anew.Goals as goal

pub returns-clause-listed : goal.returns-clause-listed
returns-clause-listed g c =
    let a = g.S.Store.view c.args.store.now in
    let b = g.S.Store.view c.list_runs.new.store in
    let d = g.S.Store.view c.add_draft.new.store in
    let e = g.S.Store.view c.set_version.new.self in
    mapped c.set_version.result (λ sets clean.
    let after = clean_before d e c.set_version.ensures.quiet.clean clean in
    lists_anew a b d e (c.in_ok-list_runs.ensures.listed (clean_before b d c.add_draft.ensures.quiet.clean after)) (c.in_ok-add_draft.ensures.added after) (sets clean)) c.set_version.ensures.ok

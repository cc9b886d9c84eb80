use Rattle.std.proofs.Common.{IsTrue, sym, subst}
use Rattle.sqlite_trees.specs.View.{View}
use Rattle.ups_store.specs.Held.{Holds}
use Rattle.ups_store.proofs.Steps.{open_clean}
use Rattle.ups_store.proofs.Relisted.{undone, held_unlisted}
use Rattle.ups_store.proofs.Drafted.{draft_same, draft_unlisted}
use Rattle.ups_store.proofs.Concluded.{last_kept}
use Rattle.ups_store.proofs.store.RequestStore.read_from.Goals as goal

pub invariant_of-self : goal.invariant_of-self
invariant_of-self g c =
    let it = c.args.self.now in
    let new = g.S.Store.view c.read_rows.new.store in
    let same = λ (up : IsTrue new.is_open). c.in-Ok.ensures.same (open_clean new (g.met.S.Store.shut_if_dirty c.read_rows.new.store) up) in
    record {
      held = λ up. subst (λ (v : View). Holds v it.table it.count) (sym (same up)) (it.held (c.read_rows.ensures.kept.was_open up));
      draft = draft_same (g.S.Store.view it.store) new it.table it.drafted same it.draft;
    }

pub invariant_of-self-in-Err : goal.invariant_of-self-in-Err
invariant_of-self-in-Err g c =
    let it = c.args.self.now in
    let old = g.S.Store.view it.store in
    let mid = g.S.Store.view c.read_rows.new.store in
    let new = g.S.Store.view c.rollback.new.self in
    record {
      held = λ up. held_unlisted old mid new it.table it.count it.held (open_clean new (g.met.S.Store.shut_if_dirty c.rollback.new.self) up) (last_kept c.read_rows.ensures.kept) c.rollback.ensures.undone up;
      draft = λ n is up. draft_unlisted old mid new it.table it.count it.drafted it.held it.draft (open_clean new (g.met.S.Store.shut_if_dirty c.rollback.new.self) up) (last_kept c.read_rows.ensures.kept) c.rollback.ensures.undone n is up;
    }

pub returns-in-Err-clause-same : goal.returns-in-Err-clause-same
returns-in-Err-clause-same g c up =
    let old = g.S.Store.view c.args.self.now.store in
    let mid = g.S.Store.view c.read_rows.new.store in
    let new = g.S.Store.view c.rollback.new.self in
    (undone old mid new (open_clean new (g.met.S.Store.shut_if_dirty c.rollback.new.self) up) (last_kept c.read_rows.ensures.kept) c.rollback.ensures.undone up).1

pub returns-in-Err-clause-was_open : goal.returns-in-Err-clause-was_open
returns-in-Err-clause-was_open g c up =
    let old = g.S.Store.view c.args.self.now.store in
    let mid = g.S.Store.view c.read_rows.new.store in
    let new = g.S.Store.view c.rollback.new.self in
    (undone old mid new (open_clean new (g.met.S.Store.shut_if_dirty c.rollback.new.self) up) (last_kept c.read_rows.ensures.kept) c.rollback.ensures.undone up).0

use Rattle.std.proofs.Common.{rules, ◌≡◌, IsTrue, sym, subst}
use Rattle.sqlite_trees.specs.View.{View}
use Rattle.sqlite_store.specs.FileStore.{view}
use Rattle.ups_store.specs.Held.{Holds}
use Rattle.ups_store.proofs.Drafted.{draft_same}
use Rattle.ups_store.proofs.store.RequestStore+FileStore+D.checkpoint.Goals as goal

pub invariant_of-self : goal.invariant_of-self
invariant_of-self g c =
    let it = c.args.self.now in
    let old = view it.store in
    let new = view c.checkpoint.new.self in
    let same : IsTrue new.is_open → new ≡ old = search rules in
    record {
      held = λ up. subst (λ (v : View). Holds v it.table it.count) (sym (same up)) (it.held (subst (λ (v : View). IsTrue v.is_open) (same up) up));
      draft = draft_same old new it.table it.drafted same it.draft;
    }

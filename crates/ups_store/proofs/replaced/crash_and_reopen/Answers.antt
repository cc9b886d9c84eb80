use Rattle.std.proofs.Common.{IsTrue, sym, subst}
use Rattle.sqlite_trees.specs.View.{IsClean}
use Rattle.ups_store.proofs.replaced.crash_and_reopen.Goals as goal

pub reopened-requires : goal.reopened-requires
reopened-requires g c = subst (λ s. IsClean (g.S.Store.view s) → IsTrue (g.S.Store.view s).is_numbered) (sym c.into_store.ensures) (λ clean. (c.requires clean).numbered)

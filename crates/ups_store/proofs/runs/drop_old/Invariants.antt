use Rattle.std.proofs.Common.{◌≡◌, ◌⊎◌, true}
use Rattle.sqlite_trees.specs.View.{IsClean, IsQuiet, KeepsSchema, KeepsCommitted}
use Rattle.ups_store.specs.Runs.{DropsRuns}
use Rattle.ups_store.proofs.runs.drop_old.Given as goal

abbrev pub invariant-loop : goal.invariant-loop
invariant-loop g l =
    let old = g.S.Store.view l.fn.store in
    let now = g.S.Store.view l.store in
    record {
      quiet : IsQuiet g.S.Store.view g.S.Store.faults g.S.Store.recovers g.S.Store.is_shielded l.fn.store l.store;
      schema : KeepsSchema old now;
      kept : KeepsCommitted old now;
      drops : IsClean now → (now ≡ old) ⊎ DropsRuns old now l.fn.number true;
    }

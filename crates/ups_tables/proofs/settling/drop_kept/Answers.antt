use Rattle.std.proofs.Common.{rules, not, sym, subst}
use Rattle.std.proofs.lemmas.Fn.{filter_same}
use Rattle.ups_life.specs.Distinct.{Distinct}
use Rattle.ups_keep.specs.declared.due.Final.{Final}
use Rattle.ups_keep.specs.Waits.{steps_of}
use Rattle.ups_keep.proofs.Waiting.{distinct_kept}
use Rattle.ups_watch.specs.Table.{cells_of, is_locked_by_any}
use Rattle.ups_tables.proofs.Follows.{kept_by}
use Rattle.ups_tables.proofs.settling.drop_kept.Goals as goal

pub returns-clause-waits : goal.returns-clause-waits
returns-clause-waits g c =
    let e = filter_same _ (λ (x : Final). not (is_locked_by_any (cells_of c.args.watchers.now x.step))) _ (λ x b f' k. search rules) c.args.due.now.steps c.retain.new.self.steps c.retain.ensures.steps in
    kept_by (λ u. is_locked_by_any (cells_of c.args.watchers.now u)) c.args.due.now.steps c.retain.new.self.steps e c.requires.once

pub returns-clause-once : goal.returns-clause-once
returns-clause-once g c =
    let e = filter_same _ (λ (x : Final). not (is_locked_by_any (cells_of c.args.watchers.now x.step))) _ (λ x b f' k. search rules) c.args.due.now.steps c.retain.new.self.steps c.retain.ensures.steps in
    subst (λ xs. Distinct (steps_of xs)) (sym e) (distinct_kept (λ (x : Final). not (is_locked_by_any (cells_of c.args.watchers.now x.step))) c.args.due.now.steps c.requires.once)

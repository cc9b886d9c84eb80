use Rattle.std.proofs.Common.{◌≡◌, ℕ, map, sym, subst, ap, ◌∙◌}
use Rattle.sqlite_trees.specs.View.{View, IsClean}
use Rattle.ups_life.specs.Settings.{Settings}
use Rattle.ups_life.specs.Steps.{past}
use Rattle.ups_journal.specs.Columns.{recorded}
use Rattle.ups_service.specs.Law.{is_legal}
use Rattle.ups_compact.specs.Compacting.{left_for, steps_needed, compacted_for}
use Rattle.ups_restore.specs.declared.acknowledging.TheConstants.{COMPACTOR}
use Rattle.ups_store.specs.Rows.{requests_in}
use Rattle.ups_store.specs.Shown.{shown_by, all_of}
use Rattle.ups_start.specs.Started.{said}
use Rattle.ups_start.proofs.shrinking.compact_again.Goals as goal

pub returns-in-Ok-clause-compacted : goal.returns-in-Ok-clause-compacted
returns-in-Ok-clause-compacted g c = λ clean.
    let manager = c.args.manager.now in
    let first = c.args.reading.now.replay in
    let read = c.carry_all.new.reading.replay in
    let before : IsClean (shown_by first) = subst (λ (v : View). IsClean v) c.again.ensures.same (c.carry_all.ensures.clean clean) in
    let same : all_of read ≡ all_of first = c.in_ok-carry_all.ensures.same clean ∙ ap (λ (v : View). requests_in v.committed) c.again.ensures.same in
    let are : map recorded manager.history ≡ said (all_of read) = sym (c.requires.whole before) ∙ sym (ap said same) in
    let kept : past c.carry_all.new.fresh.history ≡ left_for manager.settings (steps_needed manager.settings (past manager.history)) (past manager.history) =
    c.in_ok-carry_all.ensures.carried clean manager.history c.requires.written are (subst (λ (x : Settings). is_legal x manager.history) (sym c.requires.settings) c.entries-all.ensures.legal) c.count_of-count.ensures.few
    ∙ (λ i. left_for (c.requires.settings i) (c.in_ok-steps.ensures i) (past manager.history)) in
    c.in-Ok.ensures.compacted kept ∙ ap (λ (m : ℕ). compacted_for COMPACTOR m manager.settings (steps_needed manager.settings (past manager.history)) (past manager.history)) c.moment_of.ensures.is

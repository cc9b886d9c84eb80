use Rattle.std.proofs.Common.{◌≡◌, ◌++◌, List, Option, map, sym, ap, subst, ◌∙◌}
use Rattle.std.specs.Prelude.{IsTrue}
use Rattle.std.specs.Option.{IfSome}
use Rattle.std.specs.declared.alloc.Global.{Global}
use Rattle.sqlite_trees.specs.View.{IsClean}
use Rattle.ups_life.specs.declared.entry.Entry.{Entry}
use Rattle.ups_journal.specs.Columns.{recorded}
use Rattle.ups_life.specs.Steps.{past}
use Rattle.ups_compact.specs.Compacting.{compacted_for, steps_needed}
use Rattle.ups_manager.specs.View.{ManagerView}
use Rattle.ups_restore.specs.declared.acknowledging.TheConstants.{COMPACTOR}
use Rattle.ups_store.specs.Shown.{all_of, requests_shown, shown_by}
use Rattle.ups_start.specs.Opened.{records_shown}
use Rattle.ups_start.specs.Started.{said, moment_in}
use Rattle.ups_start.proofs.Taken.{all_entered, begins_compacted, begins_replaced, whole_if_kept}
use Rattle.ups_start.proofs.beginning.begin_over.Goals as goal

pub fresh_of-requires-clause-whole : goal.fresh_of-requires-clause-whole
fresh_of-requires-clause-whole g c = λ no clean.
    whole_if_kept c.args.manager.now.settings c.args.manager.now.history (said (all_of c.take_all.new.reading.replay)) c.args.choices.may_leave_out c.in-Ok-take_all.counts c.take_all.new.manager.history
    c.requires.new no (c.in-Ok-take_all.ensures.taken clean)

pub settled-requires : goal.settled-requires
settled-requires g c = record {
  whole = λ none clean.
      let first = c.args.manager.now in
      let rs = said (all_of c.take_all.new.reading.replay) in
      let after = c.take_all.new.manager.history in
      let read = c.in-Ok-begin_run.ensures.clean clean in
      let taken = c.in-Ok-take_all.ensures.taken (c.fresh_of.ensures.clean read) in
      let all = all_entered first.settings first.history rs c.args.choices.may_leave_out c.in-Ok-take_all.counts after taken none in
      ap said (c.in-Ok-begin_run.ensures.same clean ∙ c.in-Ok-fresh_of.ensures.same read) ∙ sym (all ∙ ap (λ (h : List (Entry Global)). map recorded h ++ rs) c.requires.new);
  is_open = c.in-Ok-begin_run.ensures.is_open;
}

pub returns-in-Some-clause-begins : goal.returns-in-Some-clause-begins
returns-in-Some-clause-begins g c =
    let first = c.args.manager.now in
    let shown = shown_by c.args.replay in
    let moment = moment_in c.args.about.now in
    let entered = c.take_all.new.manager in
    let read = c.fresh_of.new.reading.replay in
    begins_replaced (λ b. IsClean (requests_shown b.store)) (IsClean (requests_shown c.in-Ok-begin_run.begun.store)) first.settings shown c.args.choices moment c.in-Some.fresh.history c.replaced.new.manager.history c.replaced.result
    c.replaced.ensures.history c.replaced.ensures.clean
    (λ clean.
    let last = c.in-Ok-begin_run.ensures.clean clean in
    let taken = c.fresh_of.ensures.clean last in
    let counted = subst (λ r. IsClean (shown_by r)) c.over-reading.ensures.is (c.take_all.ensures.clean taken) in
    let termed = c.counted_in.ensures.clean counted in
    let same = c.in-Ok-take_all.ensures.same taken ∙ (ap all_of c.over-reading.ensures.is ∙ (c.in-Ok-counted_in.ensures.same counted ∙ c.in-Ok.ensures.same termed)) in
    let may = subst (λ (o : Option (ManagerView Global)). IfSome o (λ f. IsTrue c.args.choices.may_compact)) c.in-Some.is c.in-Ok-fresh_of.ensures.allowed in
    let is = subst (λ (o : Option (ManagerView Global)). IfSome o (λ f. IsClean (shown_by read) → past f.history ≡ compacted_for COMPACTOR moment entered.settings (steps_needed entered.settings (past entered.history)) (past entered.history)))
    c.in-Some.is c.in-Ok-fresh_of.ensures.compacted last in
    begins_compacted first.settings entered.settings shown (said (all_of c.take_all.new.reading.replay)) c.args.choices moment first.history entered.history c.in-Some.fresh.history c.in-Ok-take_all.counts
    (c.check_terms.ensures.clean termed) c.requires.new (ap said same) (c.in-Ok-take_all.ensures.taken taken) c.take_all.ensures.settings may is
    (λ keeps. c.in-Ok.ensures.permits keeps termed))

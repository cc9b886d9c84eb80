use Rattle.std.proofs.Common.{◌≡◌, List, [], ◌∷◌, ◌++◌, sym, subst, ap, ◌∙◌}
use Rattle.std.proofs.lemmas.List.{map-append}
use Rattle.std.specs.declared.alloc.Global.{Global}
use Rattle.std.specs.Prelude.{All}
use Rattle.ups_life.specs.declared.entry.Entry.{Entry}
use Rattle.ups_journal.specs.declared.record.Record.{Record}
use Rattle.ups_journal.specs.Writable.{IsWritableEntry}
use Rattle.ups_restore.specs.Leaving.{AreTaken}
use Rattle.sqlite_trees.specs.View.{IsClean}
use Rattle.ups_store.specs.Shown.{shown_by, given_out}
use Rattle.ups_start.specs.Started.{said, TakesRecord}
use Rattle.ups_start.proofs.Taken.{taken_more}
use Rattle.ups_start.proofs.taking.take_all.Goals as goal

pub loop-before-preserved : goal.loop-before-preserved
loop-before-preserved g c =
    let inv = c.loop-before.invariant in
    let first = c.args.manager.now in
    let old = c.loop-before.reading.replay in
    let new = c.take_next.new.reading.replay in
    let before = c.take_next.ensures.clean in
    let step = λ (clean : IsClean (shown_by new)). subst (λ f. TakesRecord old new c.loop-before.manager c.take_next.new.manager c.loop-before.counts c.take_next.new.counts c.args.may_leave_out f) c.in-Some.is (c.in_ok-found.ensures.taken clean) in
    record {
      taken = λ clean.
          let s = step clean in
          let more : said (given_out new) ≡ said (given_out old) ++ s.1.0.asked ∷ [] = ap said s.1.1 ∙ map-append (λ r. r.asked) (given_out old) (s.1.0 ∷ []) in
          subst (λ (es : List (Entry Global)). AreTaken first.settings first.history (said (given_out new)) c.args.may_leave_out c.take_next.new.counts es) (sym c.let_go.ensures.history)
          (subst (λ (rs : List (Record Global)). AreTaken first.settings first.history rs c.args.may_leave_out c.take_next.new.counts c.take_next.new.manager.history) (sym more)
          (taken_more first.settings c.loop-before.manager.settings first.history (said (given_out old)) c.args.may_leave_out s.1.0.asked c.loop-before.manager.history c.take_next.new.manager.history c.loop-before.counts c.take_next.new.counts c.in-Some.field-0
          inv.settings (inv.taken (before clean)) s.1.2 s.2));
      same = λ clean. (step clean).0 ∙ inv.same (before clean);
      clean = λ clean. inv.clean (before clean);
      settings = c.let_go.ensures.settings ∙ (c.take_next.ensures.settings ∙ inv.settings);
      digested = c.in_ok-found.ensures.digested inv.digested;
      written = λ w. subst (λ (es : List (Entry Global)). All (λ e. IsWritableEntry e) es) (sym c.let_go.ensures.history) (c.in_ok-found.ensures.written (inv.written w));
    }

use Rattle.std.proofs.Common.{List, All, subst}
use Rattle.std.proofs.lemmas.List.{take_all}
use Rattle.std.proofs.lemmas.List.Elements.{All-more}
use Rattle.ups_life.specs.declared.entry.Entry.{Entry}
use Rattle.ups_life.specs.Settings.{IsMoment}
use Rattle.rules_tests.proofs.life.worklist.find.Goals as goal

pub loop-entry-preserved : goal.loop-entry-preserved
loop-entry-preserved g c =
    All-more (λ (e : Entry _). IsMoment e.moment) c.args.entries.now c.loop-entry.entry-index c.entry-item.result c.loop-entry-test.true c.loop-entry.invariant (subst (λ (e : Entry _). IsMoment e.moment) c.entry-item.is c.if-entry-gt-MAX_MOMENT.false)

pub plain_find-requires-clause-moments : goal.plain_find-requires-clause-moments
plain_find-requires-clause-moments g c =
    subst (λ (l : List (Entry _)). All (λ e. IsMoment e.moment) l) (take_all c.loop-entry.entry-index c.args.entries.now c.loop-entry-test.false) c.loop-entry.invariant

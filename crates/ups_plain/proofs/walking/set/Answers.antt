use Rattle.std.proofs.Common.{◌≡◌, ◌+◌, take, IfOk, Bool, true, false, cond, Option, Some, None, refl, sym, ap, ◌∙◌, subst}
use Rattle.std.specs.Prelude.{is_some}
use Rattle.std.specs.Option.{option_or, option_copied}
use Rattle.ups_life.specs.declared.watching.Subscription.{Subscription}
use Rattle.ups_life.specs.Steps.{past, is_step, row}
use Rattle.ups_life.specs.Watching.{cover}
use Rattle.ups_plain.proofs.Filters.{none_newly}
use Rattle.ups_plain.proofs.walking.set.Goals as goal

-- who isn't subscribed is so as is newly said
newly : (on : Bool) (before now : Option Subscription) → on ≡ true → before ≡ None → now ≡ cond on (option_or before now) before
newly true None now on none = refl
newly true (Some how) now on none = absurd cc
newly false before now on none = absurd cc

-- who is subscribed stays so
still : (on : Bool) (before now : Option Subscription) (how : Subscription) → before ≡ Some how → before ≡ cond on (option_or before now) before
still true None now how is = absurd cc
still true (Some before) now how is = refl
still false before now how is = refl

-- without keys nobody is newly subscribed
unfiltered : (on : Bool) (before now : Option Subscription) → None ≡ now → before ≡ cond on (option_or before now) before
unfiltered true None now none = none
unfiltered true (Some how) now none = refl
unfiltered false before now none = refl

pub returns-in_default-clause-after : goal.returns-in_default-clause-after
returns-in_default-clause-after g c =
    let s = c.args.configuration.now in
    let es = past (take c.args.place c.args.entries.now) in
    let old = row s es c.args.step in
    let new = row s (past (take (c.args.place + 1) c.args.entries.now)) c.args.step in
    unfiltered (is_step c.args.step c.args.named) c.args.before (cond (is_some (cover s.peers es c.args.ae old)) None (cover s.peers es c.args.ae new))
    (none_newly s.peers es c.args.ae old new (sym c.requires.filter ∙ ap option_copied c.in_default.is))

pub newly_covered-requires-clause-filter : goal.newly_covered-requires-clause-filter
newly_covered-requires-clause-filter g c = sym c.requires.filter ∙ ap option_copied c.in-Some.is

pub returns-in-None-clause-after : goal.returns-in-None-clause-after
returns-in-None-clause-after g c =
    let s = c.args.configuration.now in
    let es = past (take c.args.place c.args.entries.now) in
    let now = cond (is_some (cover s.peers es c.args.ae (row s es c.args.step))) None (cover s.peers es c.args.ae (row s (past (take (c.args.place + 1) c.args.entries.now)) c.args.step)) in
    subst (λ (l : Option Subscription). IfOk c.newly_covered.result (λ o. o ≡ l)) (newly (is_step c.args.step c.args.named) c.args.before now (sym c.is_step.ensures ∙ c.if-is_step.true) c.in-None.is) c.newly_covered.ensures.newly

pub returns-in_default-before-2-clause-after : goal.returns-in_default-before-2-clause-after
returns-in_default-before-2-clause-after g c =
    let s = c.args.configuration.now in
    let es = past (take c.args.place c.args.entries.now) in
    let now = cond (is_some (cover s.peers es c.args.ae (row s es c.args.step))) None (cover s.peers es c.args.ae (row s (past (take (c.args.place + 1) c.args.entries.now)) c.args.step)) in
    still (is_step c.args.step c.args.named) c.args.before now c.in_default-before.field-0 c.in_default-before.is

pub newly_covered-requires-clause-row : goal.newly_covered-requires-clause-row
newly_covered-requires-clause-row g c = c.requires.row

pub newly_covered-requires-clause-earlier : goal.newly_covered-requires-clause-earlier
newly_covered-requires-clause-earlier g c = c.requires.earlier

pub newly_covered-requires-clause-within : goal.newly_covered-requires-clause-within
newly_covered-requires-clause-within g c = c.requires.within

pub newly_covered-requires-clause-moments : goal.newly_covered-requires-clause-moments
newly_covered-requires-clause-moments g c = c.requires.moments

pub newly_covered-requires-clause-offset : goal.newly_covered-requires-clause-offset
newly_covered-requires-clause-offset g c = c.requires.offset

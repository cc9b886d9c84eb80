use Rattle.std.proofs.Common.{rules, ◌≡◌, ◌-◌, sym, ◌∙◌, Result, Ok, Err, OnErr, true, false, arith}
use Rattle.ups_tables.specs.Planned.{PlansSweep}
use Rattle.ups_tables.proofs.Removing.{no_time, none_yet, sweep_counts, idle_counts, some_swept}
use Rattle.ups_tables.proofs.sweeping.plan_sweep.Goals as goal

pub returns-then-entry-keep-clause-plan : goal.returns-then-entry-keep-clause-plan
returns-then-entry-keep-clause-plan g c =
    let keep_is : c.from-keep.result ≡ c.args.configuration.now.keep = search rules in
    no_time c.args.configuration.now c.args.entry.now c.args.tables.now c.requires.request (let l = c.if-entry-keep.true in omega (arith, keep_is, l))

pub returns-then-entry-keep-clause-count : goal.returns-then-entry-keep-clause-count
returns-then-entry-keep-clause-count g c =
    let keep_is : c.from-keep.result ≡ c.args.configuration.now.keep = search rules in
    idle_counts c.args.configuration.now c.args.history.now.entries c.args.tables.now c.requires.stands c.args.entry.now
    (no_time c.args.configuration.now c.args.entry.now c.args.tables.now c.requires.request (let l = c.if-entry-keep.true in omega (arith, keep_is, l)))

pub returns-then-not-is_any-clause-plan : goal.returns-then-not-is_any-clause-plan
returns-then-not-is_any-clause-plan g c =
    let keep_is : c.from-keep.result ≡ c.args.configuration.now.keep = search rules in
    let not_any : c.is_any.result ≡ false = search rules in
    none_yet c.args.configuration.now c.args.entry.now c.args.tables.now (c.args.entry.now.moment - c.from-keep.result) c.requires.request (let l = c.if-entry-keep.false in omega (arith, keep_is, l)) (c.is_any.ensures.none not_any)

pub returns-then-not-is_any-clause-count : goal.returns-then-not-is_any-clause-count
returns-then-not-is_any-clause-count g c =
    let keep_is : c.from-keep.result ≡ c.args.configuration.now.keep = search rules in
    let not_any : c.is_any.result ≡ false = search rules in
    idle_counts c.args.configuration.now c.args.history.now.entries c.args.tables.now c.requires.stands c.args.entry.now
    (none_yet c.args.configuration.now c.args.entry.now c.args.tables.now (c.args.entry.now.moment - c.from-keep.result) c.requires.request (let l = c.if-entry-keep.false in omega (arith, keep_is, l)) (c.is_any.ensures.none not_any))

pub returns-clause-count : goal.returns-clause-count
returns-clause-count g c =
    let keep_is : c.from-keep.result ≡ c.args.configuration.now.keep = search rules in
    let moment = c.args.entry.now.moment - c.from-keep.result in
    let plan : PlansSweep c.args.configuration.now c.args.entry.now c.args.tables.now c.in_ok-due.due.items moment = record {
      request = c.requires.request;
      since = (let l = c.if-entry-keep.false in omega (arith, keep_is, l));
      due_are = c.in_ok-due.ensures;
    } in
    sweep_counts c.args.configuration.now c.args.history.now.entries c.args.tables.now c.requires.stands c.args.entry.now c.in_ok-due.due.items moment plan

-- what is so anyway is so where memory ran out
where_err : {X E : Type 0} (P : Type 0) (r : Result X E) → P → OnErr r P
where_err P (Ok x) p = tt
where_err P (Err e) p = p

pub returns-in_err-due-clause-lacks : goal.returns-in_err-due-clause-lacks
returns-in_err-due-clause-lacks g c =
    let keep_is : c.from-keep.result ≡ c.args.configuration.now.keep = search rules in
    let some : c.is_any.result ≡ true = search rules in
    where_err _ c.from_residual.result
    (some_swept c.args.configuration.now c.args.history.now.entries c.args.tables.now c.requires.stands c.args.entry.now (c.args.entry.now.moment - c.from-keep.result) c.requires.request
    (let l = c.if-entry-keep.false in omega (arith, keep_is, l)) (sym c.is_any.ensures.first ∙ some))

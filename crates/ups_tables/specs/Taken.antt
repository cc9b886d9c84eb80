-- The held steps that a subscription covers, and what is reported of them (PS3.4 CC.2.3, CC.2.4).
use Rattle.std.specs.Prelude.{ℕ, List, map, filter}
use Rattle.ups_life.specs.declared.event.EventKind.TheVariants.{StateReport}
use Rattle.ups_life.specs.declared.event.Report.{Report}
use Rattle.ups_life.specs.declared.watching.Target.{Target}
use Rattle.ups_life.specs.Readiness.{readiness_in}
use Rattle.ups_life.specs.Watching.{takes_in}
use Rattle.ups_life.specs.Events.{report}
use Rattle.ups_tables.specs.declared.rows.HeldStep.{HeldStep}

-- the steps that a subscription to this target covers, by what is held of them (PS3.4 CC.2.3)
abbrev pub taken_in : {A : Type 0} → Target A → List (HeldStep A) → List (HeldStep A)
taken_in {A} target hs = filter (λ (h : HeldStep A). takes_in target h.step h.row.attributes) hs

-- the UIDs of steps
abbrev pub steps_in : {A : Type 0} → List (HeldStep A) → List (List ℕ)
steps_in {A} hs = map (λ (h : HeldStep A). h.step) hs

-- a State Report of a step as it is, for its new watcher (PS3.4 CC.2.4)
abbrev pub report_of_row : {A : Type 0} → HeldStep A → Report
report_of_row h = report StateReport h.step h.row.state (readiness_in h.row.attributes)

use Rattle.std.proofs.Common.{◌≤◌, ◌∙◌, List, Option, Some, None, true, [], length, get_or, refl, sym, subst, arith}
use Rattle.std.specs.Prelude.{is_some}
use Rattle.ups_life.specs.Steps.{past}
use Rattle.ups_life.specs.declared.event.Report.{Report}
use Rattle.ups_life.specs.declared.watching.Subscription.{Subscription}
use Rattle.ups_keep.specs.declared.due.Final.{Final}
use Rattle.ups_events.specs.Queue.{queue_at}
use Rattle.ups_tables.specs.declared.plan.Plan.{Plan}
use Rattle.ups_tables.specs.Effects.{RoomFor}
use Rattle.ups_tables.specs.Fit.{how, AreFreed}
use Rattle.ups_tables.specs.Planned.{IsPlan, room_for}
use Rattle.ups_tables.proofs.Arms.{fresh_now, unfinished, here_now, set_here, set_apart, chosen_held, within, lent_room, lent_freed}
use Rattle.ups_tables.proofs.Saying.{holds_is}
use Rattle.ups_tables.proofs.Carried.{stands_create, stands_change, stands_set, stands_single, stands_global, stands_end, stands_end_all, stands_suspend, stands_ack, stands_reserve, stands_sweep, stands_idle}
use Rattle.ups_tables.proofs.carrying.carry_out.Goals as goal

pub create-requires-clause-fresh : goal.create-requires-clause-fresh
create-requires-clause-fresh g c =
    fresh_now c.args.configuration.now c.args.history.now.entries c.args.entry c.args.tables.now c.requires.stands c.requires.legal c.in-Create.step c.in-Create.held c.in-Create.news.items (subst (λ (x : Plan g.row.A.Denot). IsPlan c.args.configuration.now (past c.args.history.now.entries) c.args.entry c.args.tables.now x) c.in-Create.is c.requires.plan)

pub create-requires-clause-unfinished : goal.create-requires-clause-unfinished
create-requires-clause-unfinished g c =
    unfinished c.args.configuration.now c.args.history.now.entries c.args.entry c.args.tables.now c.requires.stands c.requires.legal c.in-Create.step c.in-Create.held c.in-Create.news.items (subst (λ (x : Plan g.row.A.Denot). IsPlan c.args.configuration.now (past c.args.history.now.entries) c.args.entry c.args.tables.now x) c.in-Create.is c.requires.plan)

pub create-requires-clause-room_steps : goal.create-requires-clause-room_steps
create-requires-clause-room_steps g c =
    let r = subst (λ (x : Plan g.row.A.Denot). room_for c.args.tables.now x) c.in-Create.is c.requires.room in r.steps_room

pub create-requires-clause-room_used : goal.create-requires-clause-room_used
create-requires-clause-room_used g c =
    let r = subst (λ (x : Plan g.row.A.Denot). room_for c.args.tables.now x) c.in-Create.is c.requires.room in r.used_room

pub create-requires-clause-room_rows : goal.create-requires-clause-room_rows
create-requires-clause-room_rows g c =
    let r = subst (λ (x : Plan g.row.A.Denot). room_for c.args.tables.now x) c.in-Create.is c.requires.room in r.rows_room

pub create-requires-clause-room_events : goal.create-requires-clause-room_events
create-requires-clause-room_events g c =
    let r = subst (λ (x : Plan g.row.A.Denot). room_for c.args.tables.now x) c.in-Create.is c.requires.room in lent_room (λ p. is_some (get_or c.args.tables.now.watchers.covers p None)) c.in-Create.news.items c.as_slice-told.result.now c.args.tables.now.queues c.as_slice-told.ensures.value r.events_room

pub change_alone-requires-clause-here : goal.change_alone-requires-clause-here
change_alone-requires-clause-here g c =
    let p = subst (λ (x : Plan g.row.A.Denot). IsPlan c.args.configuration.now (past c.args.history.now.entries) c.args.entry c.args.tables.now x) c.in-Change.is c.requires.plan in here_now c.args.configuration.now c.args.history.now.entries c.args.entry c.args.tables.now c.requires.stands c.requires.legal c.in-Change.step p.request p.old

pub change_alone-requires-clause-room_due : goal.change_alone-requires-clause-room_due
change_alone-requires-clause-room_due g c =
    let r = subst (λ (x : Plan g.row.A.Denot). room_for c.args.tables.now x) c.in-Change.is c.requires.room in r.0

pub change_alone-requires-clause-room_news : goal.change_alone-requires-clause-room_news
change_alone-requires-clause-room_news g c =
    let r = subst (λ (x : Plan g.row.A.Denot). room_for c.args.tables.now x) c.in-Change.is c.requires.room in lent_room (λ p. is_some (how c.args.tables.now p c.in-Change.step)) c.in-Change.news.items c.as_slice-changes.result.now c.args.tables.now.queues c.as_slice-changes.ensures.value r.1

pub change-requires-clause-here : goal.change-requires-clause-here
change-requires-clause-here g c =
    set_here c.args.configuration.now c.args.history.now.entries c.args.entry c.args.tables.now c.requires.stands c.requires.legal c.in-Set.step c.in-Set.held c.in-Set.news.items c.in-Set.newly.items c.in-Set.first.items (subst (λ (x : Plan g.row.A.Denot). IsPlan c.args.configuration.now (past c.args.history.now.entries) c.args.entry c.args.tables.now x) c.in-Set.is c.requires.plan)

pub change-requires-clause-width : goal.change-requires-clause-width
change-requires-clause-width g c =
    let p = subst (λ (x : Plan g.row.A.Denot). IsPlan c.args.configuration.now (past c.args.history.now.entries) c.args.entry c.args.tables.now x) c.in-Set.is c.requires.plan in subst (λ (xs : List (Option Subscription)). length xs ≤ length c.args.tables.now.watchers.covers) (sym c.as_slice-cells.ensures.value) p.width

pub change-requires-clause-apart : goal.change-requires-clause-apart
change-requires-clause-apart g c =
    set_apart c.args.configuration.now c.args.history.now.entries c.args.entry c.args.tables.now c.requires.stands c.requires.legal c.in-Set.step c.in-Set.held c.in-Set.news.items c.in-Set.newly.items c.as_slice-cells.result.now c.in-Set.first.items (subst (λ (x : Plan g.row.A.Denot). IsPlan c.args.configuration.now (past c.args.history.now.entries) c.args.entry c.args.tables.now x) c.in-Set.is c.requires.plan) c.as_slice-cells.ensures.value

pub change-requires-clause-room_due : goal.change-requires-clause-room_due
change-requires-clause-room_due g c =
    let r = subst (λ (x : Plan g.row.A.Denot). room_for c.args.tables.now x) c.in-Set.is c.requires.room in r.due_room

pub change-requires-clause-room_news : goal.change-requires-clause-room_news
change-requires-clause-room_news g c =
    let r = subst (λ (x : Plan g.row.A.Denot). room_for c.args.tables.now x) c.in-Set.is c.requires.room in lent_room (λ p. is_some (how c.args.tables.now p c.in-Set.step)) c.in-Set.news.items c.as_slice-reports.result.now c.args.tables.now.queues c.as_slice-reports.ensures.value r.news_room

pub change-requires-clause-room_first : goal.change-requires-clause-room_first
change-requires-clause-room_first g c =
    let r = subst (λ (x : Plan g.row.A.Denot). room_for c.args.tables.now x) c.in-Set.is c.requires.room in lent_room (λ p. is_some (get_or c.as_slice-cells.result.now p None)) c.in-Set.first.items c.as_slice-state.result.now c.args.tables.now.queues c.as_slice-state.ensures.value (subst (λ (xs : List (Option Subscription)). RoomFor (λ p. is_some (get_or xs p None)) (length c.in-Set.first.items) c.args.tables.now.queues) (sym c.as_slice-cells.ensures.value) r.first_room)

pub subscribe_single-requires-clause-peer : goal.subscribe_single-requires-clause-peer
subscribe_single-requires-clause-peer g c =
    let p = subst (λ (x : Plan g.row.A.Denot). IsPlan c.args.configuration.now (past c.args.history.now.entries) c.args.entry c.args.tables.now x) c.in-Single.is c.requires.plan in within c.args.configuration.now c.args.history.now.entries c.args.entry c.args.tables.now c.requires.stands c.requires.legal c.in-Single.peer p.receiver p.place

pub subscribe_single-requires-clause-here : goal.subscribe_single-requires-clause-here
subscribe_single-requires-clause-here g c =
    let p = subst (λ (x : Plan g.row.A.Denot). IsPlan c.args.configuration.now (past c.args.history.now.entries) c.args.entry c.args.tables.now x) c.in-Single.is c.requires.plan in holds_is c.args.configuration.now c.args.history.now.entries c.args.tables.now c.requires.stands c.in-Single.step ∙ p.here

pub subscribe_single-requires-clause-room_due : goal.subscribe_single-requires-clause-room_due
subscribe_single-requires-clause-room_due g c =
    let r = subst (λ (x : Plan g.row.A.Denot). room_for c.args.tables.now x) c.in-Single.is c.requires.room in r.0

pub subscribe_single-requires-clause-room_events : goal.subscribe_single-requires-clause-room_events
subscribe_single-requires-clause-room_events g c =
    let r = subst (λ (x : Plan g.row.A.Denot). room_for c.args.tables.now x) c.in-Single.is c.requires.room in subst (λ (xs : List Report). length xs ≤ (queue_at c.args.tables.now.queues c.in-Single.peer).spare) (sym c.as_slice-report.ensures.value) r.1

pub subscribe_all-requires-clause-peer : goal.subscribe_all-requires-clause-peer
subscribe_all-requires-clause-peer g c =
    let p = subst (λ (x : Plan g.row.A.Denot). IsPlan c.args.configuration.now (past c.args.history.now.entries) c.args.entry c.args.tables.now x) c.in-Global.is c.requires.plan in within c.args.configuration.now c.args.history.now.entries c.args.entry c.args.tables.now c.requires.stands c.requires.legal c.in-Global.peer p.receiver p.place

pub subscribe_all-requires-clause-here : goal.subscribe_all-requires-clause-here
subscribe_all-requires-clause-here g c =
    chosen_held c.args.configuration.now c.args.history.now.entries c.args.entry c.args.tables.now c.requires.stands c.requires.legal c.in-Global.peer c.in-Global.cover c.in-Global.chosen.items c.as_slice-steps.result.now c.in-Global.freed.items c.in-Global.news.items (subst (λ (x : Plan g.row.A.Denot). IsPlan c.args.configuration.now (past c.args.history.now.entries) c.args.entry c.args.tables.now x) c.in-Global.is c.requires.plan) c.as_slice-steps.ensures.value

pub subscribe_all-requires-clause-freed : goal.subscribe_all-requires-clause-freed
subscribe_all-requires-clause-freed g c =
    let p = subst (λ (x : Plan g.row.A.Denot). IsPlan c.args.configuration.now (past c.args.history.now.entries) c.args.entry c.args.tables.now x) c.in-Global.is c.requires.plan in lent_freed c.args.tables.now c.in-Global.peer (Some c.in-Global.cover.subscription) c.in-Global.chosen.items c.as_slice-steps.result.now c.in-Global.freed.items c.as_slice-finals.result.now p.freed_are c.as_slice-steps.ensures.value c.as_slice-finals.ensures.value

pub subscribe_all-requires-clause-room_due : goal.subscribe_all-requires-clause-room_due
subscribe_all-requires-clause-room_due g c =
    let r = subst (λ (x : Plan g.row.A.Denot). room_for c.args.tables.now x) c.in-Global.is c.requires.room in subst (λ (xs : List Final). length xs ≤ c.args.tables.now.due.spare) (sym c.as_slice-finals.ensures.value) r.0

pub subscribe_all-requires-clause-room_events : goal.subscribe_all-requires-clause-room_events
subscribe_all-requires-clause-room_events g c =
    let r = subst (λ (x : Plan g.row.A.Denot). room_for c.args.tables.now x) c.in-Global.is c.requires.room in subst (λ (xs : List Report). length xs ≤ (queue_at c.args.tables.now.queues c.in-Global.peer).spare) (sym c.as_slice-states.ensures.value) r.1

pub end_single-requires-clause-peer : goal.end_single-requires-clause-peer
end_single-requires-clause-peer g c =
    let p = subst (λ (x : Plan g.row.A.Denot). IsPlan c.args.configuration.now (past c.args.history.now.entries) c.args.entry c.args.tables.now x) c.in-End.is c.requires.plan in within c.args.configuration.now c.args.history.now.entries c.args.entry c.args.tables.now c.requires.stands c.requires.legal c.in-End.peer p.receiver p.place

pub end_single-requires-clause-room_due : goal.end_single-requires-clause-room_due
end_single-requires-clause-room_due g c =
    subst (λ (x : Plan g.row.A.Denot). room_for c.args.tables.now x) c.in-End.is c.requires.room

pub end_everywhere-requires-clause-peer : goal.end_everywhere-requires-clause-peer
end_everywhere-requires-clause-peer g c =
    let p = subst (λ (x : Plan g.row.A.Denot). IsPlan c.args.configuration.now (past c.args.history.now.entries) c.args.entry c.args.tables.now x) c.in-EndAll.is c.requires.plan in within c.args.configuration.now c.args.history.now.entries c.args.entry c.args.tables.now c.requires.stands c.requires.legal c.in-EndAll.peer p.receiver p.place

pub end_everywhere-requires-clause-freed : goal.end_everywhere-requires-clause-freed
end_everywhere-requires-clause-freed g c =
    let p = subst (λ (x : Plan g.row.A.Denot). IsPlan c.args.configuration.now (past c.args.history.now.entries) c.args.entry c.args.tables.now x) c.in-EndAll.is c.requires.plan in subst (AreFreed c.args.tables.now c.in-EndAll.peer None (λ u. true)) (sym c.as_slice-unlocked.ensures.value) p.freed_are

pub end_everywhere-requires-clause-room_due : goal.end_everywhere-requires-clause-room_due
end_everywhere-requires-clause-room_due g c =
    subst (λ (xs : List Final). length xs ≤ c.args.tables.now.due.spare) (sym c.as_slice-unlocked.ensures.value) (subst (λ (x : Plan g.row.A.Denot). room_for c.args.tables.now x) c.in-EndAll.is c.requires.room)

pub suspend-requires-clause-peer : goal.suspend-requires-clause-peer
suspend-requires-clause-peer g c =
    let p = subst (λ (x : Plan g.row.A.Denot). IsPlan c.args.configuration.now (past c.args.history.now.entries) c.args.entry c.args.tables.now x) c.in-Suspend.is c.requires.plan in within c.args.configuration.now c.args.history.now.entries c.args.entry c.args.tables.now c.requires.stands c.requires.legal c.in-Suspend.peer p.receiver p.place

pub acknowledge_upto-requires-clause-peer : goal.acknowledge_upto-requires-clause-peer
acknowledge_upto-requires-clause-peer g c =
    let p = subst (λ (x : Plan g.row.A.Denot). IsPlan c.args.configuration.now (past c.args.history.now.entries) c.args.entry c.args.tables.now x) c.in-Ack.is c.requires.plan in let n = within c.args.configuration.now c.args.history.now.entries c.args.entry c.args.tables.now c.requires.stands c.requires.legal c.in-Ack.peer c.args.entry.ae p.place in let m = c.requires.stands.fits.queues in omega (arith, n, m)

pub acknowledge_upto-requires-clause-allowed : goal.acknowledge_upto-requires-clause-allowed
acknowledge_upto-requires-clause-allowed g c =
    let p = subst (λ (x : Plan g.row.A.Denot). IsPlan c.args.configuration.now (past c.args.history.now.entries) c.args.entry c.args.tables.now x) c.in-Ack.is c.requires.plan in p.allowed

pub sweep-requires-clause-due : goal.sweep-requires-clause-due
sweep-requires-clause-due g c =
    let p = subst (λ (x : Plan g.row.A.Denot). IsPlan c.args.configuration.now (past c.args.history.now.entries) c.args.entry c.args.tables.now x) c.in-Sweep.is c.requires.plan in c.as_slice-swept.ensures.value ∙ p.due_are

pub reserve_uid-requires-clause-room_used : goal.reserve_uid-requires-clause-room_used
reserve_uid-requires-clause-room_used g c = subst (λ (x : Plan g.row.A.Denot). room_for c.args.tables.now x) c.in-Reserve.is c.requires.room

pub returns-in-Create-clause-stands : goal.returns-in-Create-clause-stands
returns-in-Create-clause-stands g c =
    stands_create c.args.configuration.now c.args.history.now.entries c.push_reserved.new.self.entries c.args.entry c.args.tables.now c.create.new.tables c.requires.stands c.push_reserved.ensures.entries c.requires.legal c.len-place.result c.len-place.ensures.len
    c.in-Create.step c.in-Create.held c.in-Create.news.items c.as_slice-told.result.now (subst (λ (x : Plan g.row.A.Denot). IsPlan c.args.configuration.now (past c.args.history.now.entries) c.args.entry c.args.tables.now x) c.in-Create.is c.requires.plan) c.as_slice-told.ensures.value c.create.ensures.effect c.create.ensures.fits

pub returns-in-Change-clause-stands : goal.returns-in-Change-clause-stands
returns-in-Change-clause-stands g c =
    stands_change c.args.configuration.now c.args.history.now.entries c.push_reserved.new.self.entries c.args.entry c.args.tables.now c.change_alone.new.tables c.requires.stands c.push_reserved.ensures.entries c.requires.legal c.len-place.result c.len-place.ensures.len
    c.in-Change.step c.in-Change.held c.in-Change.news.items c.as_slice-changes.result.now [] [] (subst (λ (x : Plan g.row.A.Denot). IsPlan c.args.configuration.now (past c.args.history.now.entries) c.args.entry c.args.tables.now x) c.in-Change.is c.requires.plan) c.as_slice-changes.ensures.value refl c.change_alone.ensures.effect c.change_alone.ensures.fits

pub returns-in-Set-clause-stands : goal.returns-in-Set-clause-stands
returns-in-Set-clause-stands g c =
    stands_set c.args.configuration.now c.args.history.now.entries c.push_reserved.new.self.entries c.args.entry c.args.tables.now c.change.new.tables c.requires.stands c.push_reserved.ensures.entries c.requires.legal c.len-place.result c.len-place.ensures.len
    c.in-Set.step c.in-Set.held c.in-Set.news.items c.as_slice-reports.result.now c.in-Set.newly.items c.as_slice-cells.result.now c.in-Set.first.items c.as_slice-state.result.now (subst (λ (x : Plan g.row.A.Denot). IsPlan c.args.configuration.now (past c.args.history.now.entries) c.args.entry c.args.tables.now x) c.in-Set.is c.requires.plan) c.as_slice-reports.ensures.value c.as_slice-cells.ensures.value c.as_slice-state.ensures.value c.change.ensures.effect c.change.ensures.fits

pub returns-in-Single-clause-stands : goal.returns-in-Single-clause-stands
returns-in-Single-clause-stands g c =
    stands_single c.args.configuration.now c.args.history.now.entries c.push_reserved.new.self.entries c.args.entry c.args.tables.now c.subscribe_single.new.tables c.requires.stands c.push_reserved.ensures.entries c.requires.legal c.len-place.result c.len-place.ensures.len
    c.in-Single.peer c.in-Single.step c.in-Single.subscription c.in-Single.news.items c.as_slice-report.result.now (subst (λ (x : Plan g.row.A.Denot). IsPlan c.args.configuration.now (past c.args.history.now.entries) c.args.entry c.args.tables.now x) c.in-Single.is c.requires.plan) c.as_slice-report.ensures.value c.subscribe_single.ensures.effect c.subscribe_single.ensures.fits

pub returns-in-Global-clause-stands : goal.returns-in-Global-clause-stands
returns-in-Global-clause-stands g c =
    stands_global c.args.configuration.now c.args.history.now.entries c.push_reserved.new.self.entries c.args.entry c.args.tables.now c.subscribe_all.new.tables c.requires.stands c.push_reserved.ensures.entries c.requires.legal c.len-place.result c.len-place.ensures.len
    c.in-Global.peer c.in-Global.cover c.in-Global.chosen.items c.as_slice-steps.result.now c.in-Global.freed.items c.in-Global.news.items c.as_slice-states.result.now (subst (λ (x : Plan g.row.A.Denot). IsPlan c.args.configuration.now (past c.args.history.now.entries) c.args.entry c.args.tables.now x) c.in-Global.is c.requires.plan) c.as_slice-steps.ensures.value c.as_slice-states.ensures.value c.subscribe_all.ensures.effect c.subscribe_all.ensures.fits

pub returns-in-End-clause-stands : goal.returns-in-End-clause-stands
returns-in-End-clause-stands g c =
    stands_end c.args.configuration.now c.args.history.now.entries c.push_reserved.new.self.entries c.args.entry c.args.tables.now c.end_single.new.tables c.requires.stands c.push_reserved.ensures.entries c.requires.legal c.len-place.result c.len-place.ensures.len
    c.in-End.peer c.in-End.step (subst (λ (x : Plan g.row.A.Denot). IsPlan c.args.configuration.now (past c.args.history.now.entries) c.args.entry c.args.tables.now x) c.in-End.is c.requires.plan) c.end_single.ensures.effect c.end_single.ensures.fits

pub returns-in-EndAll-clause-stands : goal.returns-in-EndAll-clause-stands
returns-in-EndAll-clause-stands g c =
    stands_end_all c.args.configuration.now c.args.history.now.entries c.push_reserved.new.self.entries c.args.entry c.args.tables.now c.end_everywhere.new.tables c.requires.stands c.push_reserved.ensures.entries c.requires.legal c.len-place.result c.len-place.ensures.len
    c.in-EndAll.peer c.in-EndAll.freed.items (subst (λ (x : Plan g.row.A.Denot). IsPlan c.args.configuration.now (past c.args.history.now.entries) c.args.entry c.args.tables.now x) c.in-EndAll.is c.requires.plan) c.end_everywhere.ensures.effect c.end_everywhere.ensures.fits

pub returns-in-Suspend-clause-stands : goal.returns-in-Suspend-clause-stands
returns-in-Suspend-clause-stands g c =
    stands_suspend c.args.configuration.now c.args.history.now.entries c.push_reserved.new.self.entries c.args.entry c.args.tables.now c.suspend.new.tables c.requires.stands c.push_reserved.ensures.entries c.requires.legal c.len-place.result c.len-place.ensures.len
    c.in-Suspend.peer (subst (λ (x : Plan g.row.A.Denot). IsPlan c.args.configuration.now (past c.args.history.now.entries) c.args.entry c.args.tables.now x) c.in-Suspend.is c.requires.plan) c.suspend.ensures.effect c.suspend.ensures.fits

pub returns-in-Ack-clause-stands : goal.returns-in-Ack-clause-stands
returns-in-Ack-clause-stands g c =
    stands_ack c.args.configuration.now c.args.history.now.entries c.push_reserved.new.self.entries c.args.entry c.args.tables.now c.acknowledge_upto.new.tables c.requires.stands c.push_reserved.ensures.entries c.requires.legal c.len-place.result c.len-place.ensures.len
    c.in-Ack.peer c.in-Ack.upto (subst (λ (x : Plan g.row.A.Denot). IsPlan c.args.configuration.now (past c.args.history.now.entries) c.args.entry c.args.tables.now x) c.in-Ack.is c.requires.plan) c.acknowledge_upto.ensures.effect c.acknowledge_upto.ensures.fits

pub returns-in-Sweep-clause-stands : goal.returns-in-Sweep-clause-stands
returns-in-Sweep-clause-stands g c =
    stands_sweep c.args.configuration.now c.args.history.now.entries c.push_reserved.new.self.entries c.args.entry c.args.tables.now c.sweep.new.tables c.requires.stands c.push_reserved.ensures.entries c.requires.legal c.len-place.result c.len-place.ensures.len
    c.in-Sweep.due.items c.as_slice-swept.result.now c.in-Sweep.moment (subst (λ (x : Plan g.row.A.Denot). IsPlan c.args.configuration.now (past c.args.history.now.entries) c.args.entry c.args.tables.now x) c.in-Sweep.is c.requires.plan) c.as_slice-swept.ensures.value c.sweep.ensures.effect c.sweep.ensures.fits

pub returns-in-Reserve-clause-stands : goal.returns-in-Reserve-clause-stands
returns-in-Reserve-clause-stands g c =
    stands_reserve c.args.configuration.now c.args.history.now.entries c.push_reserved.new.self.entries c.args.entry c.args.tables.now c.reserve_uid.new.tables c.requires.stands c.push_reserved.ensures.entries c.requires.legal c.len-place.result c.len-place.ensures.len
    c.in-Reserve.step (subst (λ (x : Plan g.row.A.Denot). IsPlan c.args.configuration.now (past c.args.history.now.entries) c.args.entry c.args.tables.now x) c.in-Reserve.is c.requires.plan) c.reserve_uid.ensures.effect c.reserve_uid.ensures.fits

pub returns-in-Idle-clause-stands : goal.returns-in-Idle-clause-stands
returns-in-Idle-clause-stands g c =
    stands_idle c.args.configuration.now c.args.history.now.entries c.push_reserved.new.self.entries c.args.entry c.args.tables.now c.requires.stands c.push_reserved.ensures.entries c.requires.legal (subst (λ (x : Plan g.row.A.Denot). IsPlan c.args.configuration.now (past c.args.history.now.entries) c.args.entry c.args.tables.now x) c.in-Idle.is c.requires.plan)

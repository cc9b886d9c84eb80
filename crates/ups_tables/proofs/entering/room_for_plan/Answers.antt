use Rattle.std.proofs.Common.{length, sym, subst, ◌∙◌, arith}
use Rattle.std.specs.Prelude.{OnOk}
use Rattle.ups_life.specs.Steps.{past}
use Rattle.ups_events.specs.Queue.{queue_at}
use Rattle.ups_tables.specs.declared.plan.Plan.{Plan}
use Rattle.ups_tables.specs.Planned.{IsPlan, room_for, RoomToCreate}
use Rattle.ups_tables.proofs.Arms.{within}
use Rattle.ups_tables.proofs.Roomy.{room_create, room_change, room_set, room_one, room_single, has_changed, has_set}
use Rattle.ups_tables.proofs.entering.room_for_plan.Goals as goal

pub make_room_to_subscribe-requires-clause-peer : goal.make_room_to_subscribe-requires-clause-peer
make_room_to_subscribe-requires-clause-peer g c = let p = subst (λ (x : Plan g.row.A.Denot). IsPlan c.args.configuration.now (past c.args.history.now.entries) c.args.entry.now c.args.tables.now x) c.in-Single.is c.requires.plan in within c.args.configuration.now c.args.history.now.entries c.args.entry.now c.args.tables.now c.requires.stands c.requires.legal c.in-Single.peer p.receiver p.place

pub make_room_to_cover-requires-clause-peer : goal.make_room_to_cover-requires-clause-peer
make_room_to_cover-requires-clause-peer g c = let p = subst (λ (x : Plan g.row.A.Denot). IsPlan c.args.configuration.now (past c.args.history.now.entries) c.args.entry.now c.args.tables.now x) c.in-Global.is c.requires.plan in within c.args.configuration.now c.args.history.now.entries c.args.entry.now c.args.tables.now c.requires.stands c.requires.legal c.in-Global.peer p.receiver p.place

pub returns-in-Create-clause-room : goal.returns-in-Create-clause-room
returns-in-Create-clause-room g c =
    subst (λ (x : Plan g.row.A.Denot). OnOk c.make_room_to_create.result (room_for c.make_room_to_create.new.tables x)) (sym c.in-Create.is)
    (room_create c.make_room_to_create.result c.make_room_to_create.new.tables c.len.result (length c.in-Create.news.items) (c.len.ensures ∙ c.in-Create.news.ok.0) c.make_room_to_create.ensures.steps c.make_room_to_create.ensures.used c.make_room_to_create.ensures.rows c.make_room_to_create.ensures.events)

pub returns-in-Change-clause-room : goal.returns-in-Change-clause-room
returns-in-Change-clause-room g c =
    subst (λ (x : Plan g.row.A.Denot). OnOk c.make_room_to_change.result (room_for c.make_room_to_change.new.tables x)) (sym c.in-Change.is)
    (room_change c.make_room_to_change.result c.make_room_to_change.new.tables c.in-Change.step c.len-in-Change.result (length c.in-Change.news.items) (c.len-in-Change.ensures ∙ c.in-Change.news.ok.0) c.make_room_to_change.ensures.due c.make_room_to_change.ensures.news)

pub returns-in-Set-clause-room : goal.returns-in-Set-clause-room
returns-in-Set-clause-room g c =
    subst (λ (x : Plan g.row.A.Denot). OnOk c.make_room_to_change-in-Set.result (room_for c.make_room_to_change-in-Set.new.tables x)) (sym c.in-Set.is)
    (room_set c.make_room_to_change-in-Set.result c.make_room_to_change-in-Set.new.tables c.in-Set.step c.len-in-Set.result (length c.in-Set.news.items) c.len-in-Set-2.result (length c.in-Set.first.items) c.as_slice.result.now c.in-Set.newly.items (c.len-in-Set.ensures ∙ c.in-Set.news.ok.0) (c.len-in-Set-2.ensures ∙ c.in-Set.first.ok.0) c.as_slice.ensures.value c.make_room_to_change-in-Set.ensures.due c.make_room_to_change-in-Set.ensures.news c.make_room_to_change-in-Set.ensures.first)

pub returns-in-Single-clause-room : goal.returns-in-Single-clause-room
returns-in-Single-clause-room g c =
    subst (λ (x : Plan g.row.A.Denot). OnOk c.make_room_to_subscribe.result (room_for c.make_room_to_subscribe.new.tables x)) (sym c.in-Single.is)
    (room_single c.make_room_to_subscribe.result c.make_room_to_subscribe.new.tables.due.spare (queue_at c.make_room_to_subscribe.new.tables.queues c.in-Single.peer).spare c.len-in-Single.result (length c.in-Single.news.items) (c.len-in-Single.ensures ∙ c.in-Single.news.ok.0) c.make_room_to_subscribe.ensures.one c.make_room_to_subscribe.ensures.events)

pub returns-in-Global-clause-room : goal.returns-in-Global-clause-room
returns-in-Global-clause-room g c =
    subst (λ (x : Plan g.row.A.Denot). OnOk c.make_room_to_cover.result (room_for c.make_room_to_cover.new.tables x)) (sym c.in-Global.is)
    (room_one c.make_room_to_cover.result c.make_room_to_cover.new.tables.due.spare (queue_at c.make_room_to_cover.new.tables.queues c.in-Global.peer).spare c.len-in-Global.result (length c.in-Global.news.items) c.len-in-Global-2.result (length c.in-Global.freed.items) (c.len-in-Global.ensures ∙ c.in-Global.news.ok.0) (c.len-in-Global-2.ensures ∙ c.in-Global.freed.ok.0) c.make_room_to_cover.ensures.due c.make_room_to_cover.ensures.events)

pub returns-in-Create-clause-succeeds : goal.returns-in-Create-clause-succeeds
returns-in-Create-clause-succeeds g c r =
    c.make_room_to_create.ensures.succeeds
    (subst (RoomToCreate c.args.tables.now) (sym (c.len.ensures ∙ c.in-Create.news.ok.0)) (subst (λ (x : Plan g.row.A.Denot). room_for c.args.tables.now x) c.in-Create.is r))

pub returns-in-Change-clause-succeeds : goal.returns-in-Change-clause-succeeds
returns-in-Change-clause-succeeds g c r =
    c.make_room_to_change.ensures.succeeds
    (has_changed c.args.tables.now c.in-Change.step c.len-in-Change.result (length c.in-Change.news.items) (c.len-in-Change.ensures ∙ c.in-Change.news.ok.0) (subst (λ (x : Plan g.row.A.Denot). room_for c.args.tables.now x) c.in-Change.is r))

pub returns-in-Set-clause-succeeds : goal.returns-in-Set-clause-succeeds
returns-in-Set-clause-succeeds g c r =
    c.make_room_to_change-in-Set.ensures.succeeds
    (has_set c.args.tables.now c.in-Set.step c.len-in-Set.result (length c.in-Set.news.items) c.len-in-Set-2.result (length c.in-Set.first.items) c.as_slice.result.now c.in-Set.newly.items (c.len-in-Set.ensures ∙ c.in-Set.news.ok.0) (c.len-in-Set-2.ensures ∙ c.in-Set.first.ok.0) c.as_slice.ensures.value
    (subst (λ (x : Plan g.row.A.Denot). room_for c.args.tables.now x) c.in-Set.is r))

pub returns-in-Single-clause-succeeds : goal.returns-in-Single-clause-succeeds
returns-in-Single-clause-succeeds g c r =
    let has = subst (λ (x : Plan g.row.A.Denot). room_for c.args.tables.now x) c.in-Single.is r in
    let news = c.len-in-Single.ensures ∙ c.in-Single.news.ok.0 in
    let left = has.1 in
    c.make_room_to_subscribe.ensures.succeeds (omega arith) has.0 (omega (arith, news, left))

pub returns-in-Global-clause-succeeds : goal.returns-in-Global-clause-succeeds
returns-in-Global-clause-succeeds g c r =
    let has = subst (λ (x : Plan g.row.A.Denot). room_for c.args.tables.now x) c.in-Global.is r in
    let news = c.len-in-Global.ensures ∙ c.in-Global.news.ok.0 in
    let freed = c.len-in-Global-2.ensures ∙ c.in-Global.freed.ok.0 in
    let room = has.0 in
    let left = has.1 in
    c.make_room_to_cover.ensures.succeeds (omega (arith, freed, room)) (omega (arith, news, left))

use Rattle.std.proofs.Common.{◌≡◌, ◌+◌, List, length, take, None, IfOk, if◌then◌else◌, sym, subst}
use Rattle.std.specs.Prelude.{is_some}
use Rattle.std.proofs.lemmas.List.{length-take-le}
use Rattle.std.proofs.lemmas.List.Elements.{All-take}
use Rattle.std.specs.Option.{option_or}
use Rattle.std.specs.Str.{bytes_eq}
use Rattle.ups_life.specs.declared.entry.Entry.{Entry}
use Rattle.ups_life.specs.declared.request.Request.{Request}
use Rattle.ups_life.specs.Settings.{IsMoment}
use Rattle.ups_life.specs.Steps.{past, row, is_step}
use Rattle.ups_life.specs.Watching.{cover, watch_after}
use Rattle.ups_plain.proofs.Depths.{result_within}
use Rattle.ups_plain.proofs.Walks.{at_most, next, later}
use Rattle.ups_plain.proofs.walking.watch_after.Goals as goal

pub returns-in-Create-clause-after : goal.returns-in-Create-clause-after
returns-in-Create-clause-after g c =
    let s = c.args.configuration.now in
    let es = past (take c.args.place c.args.entries.now) in
    subst (λ (r : Request g.row.A.Denot). IfOk c.created.result (λ o. o ≡ watch_after s es c.args.entry.now c.args.ae c.args.step c.args.before r)) (sym c.in-Create.is)
    (subst (λ (l : List (Entry g.row.A.Denot)). IfOk c.created.result (λ o. o ≡ (if bytes_eq c.in-Create.new c.args.step then cover s.peers es c.args.ae (row s l c.args.step) else c.args.before))) c.requires.entry c.created.ensures.watching)

pub returns-in-Subscribe-clause-after : goal.returns-in-Subscribe-clause-after
returns-in-Subscribe-clause-after g c =
    subst (λ (r : Request g.row.A.Denot). IfOk c.subscribed.result (λ o. o ≡ watch_after c.args.configuration.now (past (take c.args.place c.args.entries.now)) c.args.entry.now c.args.ae c.args.step c.args.before r)) (sym c.in-Subscribe.is) c.subscribed.ensures.watching

pub returns-in-Set-clause-after : goal.returns-in-Set-clause-after
returns-in-Set-clause-after g c =
    let s = c.args.configuration.now in
    let es = past (take c.args.place c.args.entries.now) in
    let u = c.args.step in
    subst (λ (r : Request g.row.A.Denot). IfOk c.set.result (λ o. o ≡ watch_after s es c.args.entry.now c.args.ae u c.args.before r)) (sym c.in-Set.is)
    (subst (λ (l : List (Entry g.row.A.Denot)). IfOk c.set.result (λ o. o ≡ (if is_step u c.in-Set.named then option_or c.args.before (if is_some (cover s.peers es c.args.ae (row s es u)) then None else cover s.peers es c.args.ae (row s l u)) else c.args.before)))
    c.requires.entry c.set.ensures.after)

pub created-requires-clause-moments : goal.created-requires-clause-moments
created-requires-clause-moments g c = All-take (λ e. IsMoment e.moment) (c.args.place + 1) c.args.entries.now c.requires.moments

pub subscribed-requires-clause-moments : goal.subscribed-requires-clause-moments
subscribed-requires-clause-moments g c = All-take (λ e. IsMoment e.moment) c.args.place c.args.entries.now c.requires.moments

pub returns-in-Create-clause-memory : goal.returns-in-Create-clause-memory
returns-in-Create-clause-memory g c = result_within c.args.configuration.now c.args.entries.now (c.args.place + 1) c.created.result c.created.ensures.memory

pub returns-in-Subscribe-clause-memory : goal.returns-in-Subscribe-clause-memory
returns-in-Subscribe-clause-memory g c = result_within c.args.configuration.now c.args.entries.now c.args.place c.subscribed.result c.subscribed.ensures.memory

pub slice_bounds-earlier-end : goal.slice_bounds-earlier-end
slice_bounds-earlier-end g c = sym (length-take-le c.args.place c.args.entries.now (at_most c.args.place (length c.args.entries.now) c.requires.within))

pub slice_bounds-created-end : goal.slice_bounds-created-end
slice_bounds-created-end g c = sym (length-take-le (c.args.place + 1) c.args.entries.now (next c.args.place (length c.args.entries.now) c.requires.within))

pub created-requires-clause-offset : goal.created-requires-clause-offset
created-requires-clause-offset g c = c.requires.offset

pub subscribed-requires-clause-offset : goal.subscribed-requires-clause-offset
subscribed-requires-clause-offset g c = c.requires.offset

pub set-requires-clause-filter : goal.set-requires-clause-filter
set-requires-clause-filter g c = c.requires.filter

pub set-requires-clause-row : goal.set-requires-clause-row
set-requires-clause-row g c = c.requires.row

pub set-requires-clause-earlier : goal.set-requires-clause-earlier
set-requires-clause-earlier g c = c.requires.earlier

pub set-requires-clause-within : goal.set-requires-clause-within
set-requires-clause-within g c = c.requires.within

pub set-requires-clause-moments : goal.set-requires-clause-moments
set-requires-clause-moments g c = c.requires.moments

pub set-requires-clause-offset : goal.set-requires-clause-offset
set-requires-clause-offset g c = c.requires.offset

pub returns-in-Set-clause-row : goal.returns-in-Set-clause-row
returns-in-Set-clause-row g c = c.set.ensures.row

pub returns-in-Set-clause-earlier : goal.returns-in-Set-clause-earlier
returns-in-Set-clause-earlier g c = c.set.ensures.earlier

pub returns-in-Set-clause-memory : goal.returns-in-Set-clause-memory
returns-in-Set-clause-memory g c = c.set.ensures.memory

pub returns-in-Create-clause-row : goal.returns-in-Create-clause-row
returns-in-Create-clause-row g c = c.requires.row

pub returns-in-Create-clause-earlier : goal.returns-in-Create-clause-earlier
returns-in-Create-clause-earlier g c = later c.args.walk.now.count c.args.place c.requires.earlier

pub returns-in-Subscribe-clause-row : goal.returns-in-Subscribe-clause-row
returns-in-Subscribe-clause-row g c = c.requires.row

pub returns-in-Subscribe-clause-earlier : goal.returns-in-Subscribe-clause-earlier
returns-in-Subscribe-clause-earlier g c = later c.args.walk.now.count c.args.place c.requires.earlier

pub returns-in-Unsubscribe-clause-row : goal.returns-in-Unsubscribe-clause-row
returns-in-Unsubscribe-clause-row g c = c.requires.row

pub returns-in-Unsubscribe-clause-earlier : goal.returns-in-Unsubscribe-clause-earlier
returns-in-Unsubscribe-clause-earlier g c = later c.args.walk.now.count c.args.place c.requires.earlier

pub returns-in-Unsubscribe-clause-after : goal.returns-in-Unsubscribe-clause-after
returns-in-Unsubscribe-clause-after g c =
    subst (λ (r : Request g.row.A.Denot). c.ended.result ≡ watch_after c.args.configuration.now (past (take c.args.place c.args.entries.now)) c.args.entry.now c.args.ae c.args.step c.args.before r) (sym c.in-Unsubscribe.is) c.ended.ensures

pub returns-in-Change-clause-row : goal.returns-in-Change-clause-row
returns-in-Change-clause-row g c = c.requires.row

pub returns-in-Change-clause-earlier : goal.returns-in-Change-clause-earlier
returns-in-Change-clause-earlier g c = later c.args.walk.now.count c.args.place c.requires.earlier

pub returns-in-Change-2-clause-row : goal.returns-in-Change-2-clause-row
returns-in-Change-2-clause-row g c = c.requires.row

pub returns-in-Change-2-clause-earlier : goal.returns-in-Change-2-clause-earlier
returns-in-Change-2-clause-earlier g c = later c.args.walk.now.count c.args.place c.requires.earlier

pub returns-in-Change-3-clause-row : goal.returns-in-Change-3-clause-row
returns-in-Change-3-clause-row g c = c.requires.row

pub returns-in-Change-3-clause-earlier : goal.returns-in-Change-3-clause-earlier
returns-in-Change-3-clause-earlier g c = later c.args.walk.now.count c.args.place c.requires.earlier

pub returns-in-Change-4-clause-row : goal.returns-in-Change-4-clause-row
returns-in-Change-4-clause-row g c = c.requires.row

pub returns-in-Change-4-clause-earlier : goal.returns-in-Change-4-clause-earlier
returns-in-Change-4-clause-earlier g c = later c.args.walk.now.count c.args.place c.requires.earlier

pub returns-in-Change-5-clause-row : goal.returns-in-Change-5-clause-row
returns-in-Change-5-clause-row g c = c.requires.row

pub returns-in-Change-5-clause-earlier : goal.returns-in-Change-5-clause-earlier
returns-in-Change-5-clause-earlier g c = later c.args.walk.now.count c.args.place c.requires.earlier

pub returns-in-Change-6-clause-row : goal.returns-in-Change-6-clause-row
returns-in-Change-6-clause-row g c = c.requires.row

pub returns-in-Change-6-clause-earlier : goal.returns-in-Change-6-clause-earlier
returns-in-Change-6-clause-earlier g c = later c.args.walk.now.count c.args.place c.requires.earlier

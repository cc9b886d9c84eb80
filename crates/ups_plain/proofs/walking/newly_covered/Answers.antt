use Rattle.std.proofs.Common.{◌≡◌, ◌+◌, List, None, Some, take, refl, ap, ◌∙◌, length, sym}
use Rattle.std.specs.Prelude.{is_some}
use Rattle.ups_dataset.specs.Data.{El}
use Rattle.ups_life.specs.declared.peer.Peer.{Peer}
use Rattle.ups_life.specs.Steps.{past, row}
use Rattle.ups_life.specs.Watching.{cover}
use Rattle.ups_life.specs.Filters.{filter_now}
use Rattle.ups_plain.proofs.Filters.{taken_by, not_covered}
use Rattle.ups_plain.proofs.Walked.{attributes_walked}
use Rattle.ups_plain.proofs.Walks.{if_so, if_not}
use Rattle.std.proofs.lemmas.List.{length-take-le}
use Rattle.ups_plain.proofs.Walks.{at_most, next, later}
use Rattle.ups_plain.proofs.walking.newly_covered.Goals as goal

pub returns-then-is_match-clause-newly : goal.returns-then-is_match-clause-newly
returns-then-is_match-clause-newly g c =
    let s = c.args.configuration.now in
    let es = past (take c.args.place c.args.entries.now) in
    let old = row s es c.args.step in
    let new = row s (past (take (c.args.place + 1) c.args.entries.now)) c.args.step in
    let keys = c.args.filter.now in
    let is : filter_now es c.args.ae ≡ Some keys = c.requires.filter in
    let walk = attributes_walked s c.args.entries.now c.args.step c.go_on.new.walk.row c.go_on.new.walk.count c.args.place c.in_ok-go_on.ensures.row c.in_ok-go_on.ensures.there in
    if_so (is_some (cover s.peers es c.args.ae old)) None (cover s.peers es c.args.ae new) None
    (taken_by s.peers es c.args.ae keys c.go_on.new.walk.row.attributes old c.is_match.result is walk c.is_match.ensures ∙ c.if-is_match.true) refl

pub returns-then-not-is_match-clause-newly : goal.returns-then-not-is_match-clause-newly
returns-then-not-is_match-clause-newly g c =
    let s = c.args.configuration.now in
    let es = past (take c.args.place c.args.entries.now) in
    let new = row s (past (take (c.args.place + 1) c.args.entries.now)) c.args.step in
    let keys = c.args.filter.now in
    let is : filter_now es c.args.ae ≡ Some keys = c.requires.filter in
    let walk = attributes_walked s c.args.entries.now c.args.step c.go_on-2.new.walk.row c.go_on-2.new.walk.count (c.args.place + 1) c.in_ok-go_on-2.ensures.row c.in_ok-go_on-2.ensures.there in
    not_covered (is_some (cover s.peers es c.args.ae (row s es c.args.step))) (cover s.peers es c.args.ae new)
    (taken_by s.peers es c.args.ae keys c.go_on-2.new.walk.row.attributes new c.is_match-2.result is walk c.is_match-2.ensures ∙ c.if-not-is_match.true)

pub returns-clause-newly : goal.returns-clause-newly
returns-clause-newly g c =
    let s = c.args.configuration.now in
    let es = past (take c.args.place c.args.entries.now) in
    let old = row s es c.args.step in
    let new = row s (past (take (c.args.place + 1) c.args.entries.now)) c.args.step in
    let keys = c.args.filter.now in
    let is : filter_now es c.args.ae ≡ Some keys = c.requires.filter in
    let walk = attributes_walked s c.args.entries.now c.args.step c.go_on.new.walk.row c.go_on.new.walk.count c.args.place c.in_ok-go_on.ensures.row c.in_ok-go_on.ensures.there in
    let seen_now = attributes_walked s c.args.entries.now c.args.step c.go_on-2.new.walk.row c.go_on-2.new.walk.count (c.args.place + 1) c.in_ok-go_on-2.ensures.row c.in_ok-go_on-2.ensures.there in
    c.cover.ensures
    ∙ ap (λ (ps : List Peer). cover ps es c.args.ae c.go_on-2.new.walk.row.attributes) c.peers.ensures
    ∙ ap (λ (r : List El). cover s.peers es c.args.ae r) seen_now
    ∙ if_not (is_some (cover s.peers es c.args.ae old)) None (cover s.peers es c.args.ae new)
    (taken_by s.peers es c.args.ae keys c.go_on.new.walk.row.attributes old c.is_match.result is walk c.is_match.ensures ∙ c.if-is_match.false)

pub go_on-requires-clause-row : goal.go_on-requires-clause-row
go_on-requires-clause-row g c = c.requires.row

pub go_on-requires-clause-moments : goal.go_on-requires-clause-moments
go_on-requires-clause-moments g c = c.requires.moments

pub go_on-requires-clause-offset : goal.go_on-requires-clause-offset
go_on-requires-clause-offset g c = c.requires.offset

pub go_on-requires-clause-earlier : goal.go_on-requires-clause-earlier
go_on-requires-clause-earlier g c = c.requires.earlier

pub go_on-requires-clause-within : goal.go_on-requires-clause-within
go_on-requires-clause-within g c = at_most c.args.place (length c.args.entries.now) c.requires.within

pub go_on-requires-2-clause-row : goal.go_on-requires-2-clause-row
go_on-requires-2-clause-row g c = c.in_ok-go_on.ensures.row

pub go_on-requires-2-clause-earlier : goal.go_on-requires-2-clause-earlier
go_on-requires-2-clause-earlier g c = later c.go_on.new.walk.count c.args.place c.in_ok-go_on.ensures.earlier

pub go_on-requires-2-clause-within : goal.go_on-requires-2-clause-within
go_on-requires-2-clause-within g c = next c.args.place (length c.args.entries.now) c.requires.within

pub go_on-requires-2-clause-moments : goal.go_on-requires-2-clause-moments
go_on-requires-2-clause-moments g c = c.requires.moments

pub go_on-requires-2-clause-offset : goal.go_on-requires-2-clause-offset
go_on-requires-2-clause-offset g c = c.requires.offset

pub slice_bounds-earlier-end : goal.slice_bounds-earlier-end
slice_bounds-earlier-end g c = sym (length-take-le c.args.place c.args.entries.now (at_most c.args.place (length c.args.entries.now) c.requires.within))

pub returns-in_err-go_on-clause-row : goal.returns-in_err-go_on-clause-row
returns-in_err-go_on-clause-row g c = c.in_err-go_on.ensures.row

pub returns-in_err-go_on-clause-earlier : goal.returns-in_err-go_on-clause-earlier
returns-in_err-go_on-clause-earlier g c = later c.go_on.new.walk.count c.args.place c.in_err-go_on.ensures.earlier

pub returns-in_err-go_on-2-clause-row : goal.returns-in_err-go_on-2-clause-row
returns-in_err-go_on-2-clause-row g c = c.in_err-go_on-2.ensures.row

pub returns-in_err-go_on-2-clause-earlier : goal.returns-in_err-go_on-2-clause-earlier
returns-in_err-go_on-2-clause-earlier g c = c.in_err-go_on-2.ensures.earlier

pub returns-then-is_match-clause-row : goal.returns-then-is_match-clause-row
returns-then-is_match-clause-row g c = c.in_ok-go_on.ensures.row

pub returns-then-is_match-clause-earlier : goal.returns-then-is_match-clause-earlier
returns-then-is_match-clause-earlier g c = later c.go_on.new.walk.count c.args.place c.in_ok-go_on.ensures.earlier

pub returns-then-not-is_match-clause-row : goal.returns-then-not-is_match-clause-row
returns-then-not-is_match-clause-row g c = c.in_ok-go_on-2.ensures.row

pub returns-then-not-is_match-clause-earlier : goal.returns-then-not-is_match-clause-earlier
returns-then-not-is_match-clause-earlier g c = c.in_ok-go_on-2.ensures.earlier

pub returns-clause-row : goal.returns-clause-row
returns-clause-row g c = c.in_ok-go_on-2.ensures.row

pub returns-clause-earlier : goal.returns-clause-earlier
returns-clause-earlier g c = c.in_ok-go_on-2.ensures.earlier

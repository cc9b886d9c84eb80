use Rattle.std.proofs.Common.{take, inl, inr, refl, ap, map, ◌∙◌}
use Rattle.ups_life.specs.declared.request.Reply.TheVariants.{Reports}
use Rattle.ups_service.specs.Reporting.{report_of_event}
use Rattle.ups_manager.proofs.Keyed.{queue_fits}
use Rattle.ups_manager.proofs.Remembering.{taken_remembered}
use Rattle.ups_manager.proofs.Watches.{pending_is}
use Rattle.ups_manager.proofs.manager.Manager.pending.Goals as goal

pub first_pending-requires : goal.first_pending-requires
first_pending-requires g c =
    let m = c.self.inside in
    queue_fits m.configuration m.history.entries m.tables c.peers.result.now c.args.ae c.place_of-place.result c.self.invariant.0.tables c.peers.ensures c.place_of-place.ensures

pub reports_of-requires : goal.reports_of-requires
reports_of-requires g c =
    let m = c.self.inside in
    taken_remembered m.configuration m.history c.args.ae c.args.max c.as_slice.result.now c.self.invariant.2
    (c.as_slice.ensures.value ∙ c.in-Ok.ensures
    ∙ ap (take c.args.max) (pending_is m.configuration m.history.entries m.tables c.peers.result.now c.place_of-place.result c.args.ae c.self.invariant.0.tables c.peers.ensures c.place_of-place.ensures))

pub returns-in-Ok-reports_of-clause-answer : goal.returns-in-Ok-reports_of-clause-answer
returns-in-Ok-reports_of-clause-answer g c =
    let m = c.self.inside in
    rw (← c.self.view_is) (inl (ap Reports (c.in-Ok-reports_of.ensures
    ∙ ap (map (report_of_event m.history.entries)) (c.as_slice.ensures.value ∙ c.in-Ok.ensures
    ∙ ap (take c.args.max) (pending_is m.configuration m.history.entries m.tables c.peers.result.now c.place_of-place.result c.args.ae c.self.invariant.0.tables c.peers.ensures c.place_of-place.ensures)))))

pub returns-in_default-clause-answer : goal.returns-in_default-clause-answer
returns-in_default-clause-answer g c = inr (refl, refl)

pub returns-clause-answer : goal.returns-clause-answer
returns-clause-answer g c = inr (refl, refl)

pub returns-in-Ok-reports_of-clause-legal : goal.returns-in-Ok-reports_of-clause-legal
returns-in-Ok-reports_of-clause-legal g c = rw (← c.self.view_is) c.self.invariant.0.tables.legal

pub returns-clause-legal : goal.returns-clause-legal
returns-clause-legal g c = rw (← c.self.view_is) c.self.invariant.0.tables.legal

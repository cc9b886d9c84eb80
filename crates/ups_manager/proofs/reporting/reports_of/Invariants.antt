use Rattle.std.proofs.Common.{◌≡◌, map, take}
use Rattle.ups_service.specs.Reporting.{report_of_event}
use Rattle.ups_manager.proofs.reporting.reports_of.Given as goal

abbrev pub invariant-loop-event : goal.invariant-loop-event
invariant-loop-event g l = l.reports ≡ map (report_of_event l.history.entries) (take l.event-index l.events)

use Rattle.std.proofs.Common.{List, sym, subst}
use Rattle.ups_life.specs.declared.entry.Entry.{Entry}
use Rattle.ups_life.specs.Steps.{past}
use Rattle.ups_tables.specs.Stands.{Stands}
use Rattle.ups_tables.specs.Planned.{IsPlan}
use Rattle.ups_tables.proofs.Roomy.{stands_reserved, plan_reserved}
use Rattle.ups_tables.proofs.entering.make_room.Goals as goal

pub returns-in_err-room_for_plan-clause-stands : goal.returns-in_err-room_for_plan-clause-stands
returns-in_err-room_for_plan-clause-stands g c = stands_reserved c.args.tables.now c.room_for_plan.new.tables c.room_for_plan.ensures.same c.args.configuration.now c.args.history.now.entries c.requires.stands

pub returns-in_err-room_for_plan-clause-plan : goal.returns-in_err-room_for_plan-clause-plan
returns-in_err-room_for_plan-clause-plan g c = plan_reserved c.args.tables.now c.room_for_plan.new.tables c.room_for_plan.ensures.same c.args.configuration.now (past c.args.history.now.entries) c.args.entry.now c.args.plan.now c.requires.plan

pub returns-clause-stands : goal.returns-clause-stands
returns-clause-stands g c =
    subst (λ (es : List (Entry g.row.A.Denot)). Stands c.args.configuration.now es c.room_for_plan.new.tables) (sym c.reserve.ensures.entries) (stands_reserved c.args.tables.now c.room_for_plan.new.tables c.room_for_plan.ensures.same c.args.configuration.now c.args.history.now.entries c.requires.stands)

pub returns-clause-plan : goal.returns-clause-plan
returns-clause-plan g c =
    subst (λ (es : List (Entry g.row.A.Denot)). IsPlan c.args.configuration.now (past es) c.args.entry.now c.room_for_plan.new.tables c.args.plan.now) (sym c.reserve.ensures.entries)
    (plan_reserved c.args.tables.now c.room_for_plan.new.tables c.room_for_plan.ensures.same c.args.configuration.now (past c.args.history.now.entries) c.args.entry.now c.args.plan.now c.requires.plan)

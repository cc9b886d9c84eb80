use Rattle.std.proofs.Common.{rules, arith, ◌<◌, List, Option, None, get_or, sym, subst}
use Rattle.std.specs.Prelude.{is_some}
use Rattle.std.specs.HashSet as set
use Rattle.ups_watch.specs.declared.cover.Cover.{Cover}
use Rattle.ups_tables.specs.Effects.{RoomFor}
use Rattle.ups_tables.proofs.Fitness.{fits_reserved}
use Rattle.ups_tables.proofs.Roomy.{on_any}
use Rattle.ups_tables.proofs.room.make_room_to_create.Goals as goal

pub returns-in_err-reserve-clause-fits : goal.returns-in_err-reserve-clause-fits
returns-in_err-reserve-clause-fits g c = fits_reserved c.args.tables.now _ (search rules) c.requires

pub returns-in_err-reserve-2-clause-fits : goal.returns-in_err-reserve-2-clause-fits
returns-in_err-reserve-2-clause-fits g c = fits_reserved c.args.tables.now _ (search rules) c.requires

pub returns-in_err-reserve-3-clause-fits : goal.returns-in_err-reserve-3-clause-fits
returns-in_err-reserve-3-clause-fits g c = fits_reserved c.args.tables.now _ (search rules) c.requires

pub returns-clause-fits : goal.returns-clause-fits
returns-clause-fits g c = fits_reserved c.args.tables.now _ (search rules) c.requires

pub returns-clause-steps : goal.returns-clause-steps
returns-clause-steps g c = let room = c.in_ok-reserve.ensures.room in on_any c.reserve_covered.result (0 < c.reserve.new.self.spare) (omega (arith, room))

pub returns-clause-used : goal.returns-clause-used
returns-clause-used g c = let room = c.in_ok-reserve-2.ensures.ok in on_any c.reserve_covered.result (0 < set.spare c.reserve-2.new.self) (omega (arith, room))

pub returns-clause-rows : goal.returns-clause-rows
returns-clause-rows g c = let room = c.in_ok-reserve-3.ensures.room in on_any c.reserve_covered.result (0 < c.reserve-3.new.self.spare) (omega (arith, room))

pub returns-clause-succeeds : goal.returns-clause-succeeds
returns-clause-succeeds g c r =
    c.reserve_covered.ensures.succeeds
    (subst (λ (cs : List (Option (Cover g.row.A.Denot))). RoomFor (λ p. is_some (get_or cs p None)) c.args.news c.args.tables.now.queues) (sym c.reserve-3.ensures.covers) r.events_room)

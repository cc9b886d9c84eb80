use Rattle.std.proofs.Common.{FitsSigned, w16, rules, ◌∙◌}
use Rattle.std.proofs.lemmas.Int.{to_z-of_z}
use Rattle.ups_dataset.specs.Data.{elements_of}
use Rattle.ups_match.specs.Matching.{matches}
use Rattle.ups_match.proofs.keys.Keys.is_match.Goals as goal

pub returns-in-Some : goal.returns-in-Some
unfolding matches
returns-in-Some g c =
    let fits : FitsSigned w16 c.self.inside.offset = search rules in
    let prepares = rw c.in-Some.is at c.self.invariant.1 in
    let met = rw (to_z-of_z w16 c.self.inside.offset fits) at c.meets_all.ensures in
    rw (← c.self.view_is) (met ∙ prepares.same c.self.inside.offset (elements_of c.args.row.now))

pub returns-in-None : goal.returns-in-None
unfolding matches
returns-in-None g c =
    let fits : FitsSigned w16 c.self.inside.offset = search rules in
    rw (← c.self.view_is) (rw (to_z-of_z w16 c.self.inside.offset fits) at c.all_match.ensures)

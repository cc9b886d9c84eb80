use Rattle.ups_tables.proofs.step_plans.newly_of.Goals as goal

pub returns-clause-newly : goal.returns-clause-newly
returns-clause-newly g c = rw (c.in-Some.is) c.newly.ensures.newly

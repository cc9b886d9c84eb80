use Rattle.std.proofs.Common.{None, length, sym, ap, ◌∙◌}
use Rattle.std.proofs.lemmas.List.{length-replicate}
use Rattle.ups_tables.proofs.Fitness.{lines_new, fits_new}
use Rattle.ups_tables.proofs.tables.Tables.new.Goals as goal

pub returns-clause-queues : goal.returns-clause-queues
returns-clause-queues g c = lines_new c.in_ok-queues.queues c.args.peers c.in_ok-queues.ensures.peers c.in_ok-queues.ensures.empty

pub returns-clause-fits : goal.returns-clause-fits
returns-clause-fits g c = fits_new _ (c.in_ok-queues.ensures.peers ∙ sym (ap length c.in_ok-watchers.ensures.covers ∙ length-replicate c.args.peers None)) c.new-3.ensures c.in_ok-watchers.ensures.rows c.new-5.ensures

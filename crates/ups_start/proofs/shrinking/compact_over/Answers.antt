use Rattle.ups_store.specs.Shown.{all_of}
use Rattle.ups_start.specs.Started.{said}
use Rattle.ups_start.proofs.Taken.{whole_if_kept}
use Rattle.ups_start.proofs.shrinking.compact_over.Goals as goal

pub shrunk_over-requires-clause-whole : goal.shrunk_over-requires-clause-whole
shrunk_over-requires-clause-whole g c = λ again clean.
    whole_if_kept c.args.manager.now.settings c.args.manager.now.history (said (all_of c.take_all.new.reading.replay)) c.args.choices.may_leave_out c.in_ok-take_all.field-0 c.take_all.new.manager.history
    (c.reads_again-reads_again.ensures.new again) (c.reads_again-reads_again.ensures.all again) (c.in_ok-take_all.ensures.taken clean)

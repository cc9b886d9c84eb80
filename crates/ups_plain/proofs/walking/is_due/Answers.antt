use Rattle.ups_plain.proofs.walking.is_due.Goals as goal

pub is_kept-requires-clause-moments : goal.is_kept-requires-clause-moments
is_kept-requires-clause-moments g c = c.requires.moments

pub is_kept-requires-clause-offset : goal.is_kept-requires-clause-offset
is_kept-requires-clause-offset g c = c.requires.offset

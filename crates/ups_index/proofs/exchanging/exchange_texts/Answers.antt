use Rattle.std.proofs.Common.{map}
use Rattle.ups_index.specs.Kept.{text_view}
use Rattle.ups_index.proofs.Exchanged.{exchanged}
use Rattle.ups_index.proofs.exchanging.exchange_texts.Goals as goal

pub returns-clause-has : goal.returns-clause-has
returns-clause-has g c =
    exchanged (map text_view c.args.old.now) (map text_view c.args.new.now) c.args.place c.args.table.now.posts c.drop_behind.new.table.posts c.exchange_each.new.table.posts c.requires.posted c.drop_behind.ensures.spares c.exchange_each.ensures.spares c.exchange_each.ensures.has

use Rattle.std.specs.Prelude.{map}
use Rattle.ups_index.specs.Kept.{text_view}
use Rattle.ups_index.proofs.Exchanged.{spared}
use Rattle.ups_index.proofs.exchanging.drop_text.Goals as goal

pub returns-clause-spares : goal.returns-clause-spares
returns-clause-spares g c =
    spared (map text_view c.args.others.now) c.args.place c.text_number-number.result c.args.table.now.posts c.take.new.self.posts c.take.ensures.spares (c.has_number.ensures c.if-has_number.false)

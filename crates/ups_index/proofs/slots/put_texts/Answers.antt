use Rattle.std.proofs.Common.{arith, ap, ◌∙◌}
use Rattle.ups_index.specs.Numbers.{text_number}
use Rattle.ups_index.proofs.Placed.{texts_more, texts_all}
use Rattle.ups_index.proofs.Runs.{then_live}
use Rattle.ups_index.proofs.slots.put_texts.Goals as goal

pub put-requires : goal.put-requires
put-requires g c = omega (arith, c.loop-stored.invariant.room, c.requires, c.loop-stored-test.true)

pub loop-stored-preserved : goal.loop-stored-preserved
loop-stored-preserved g c = record {
  has = texts_more c.args.texts.now c.loop-stored.stored-index c.args.place c.text_number.result c.stored-item.result c.loop-stored.table.posts c.put.new.self.posts c.loop-stored-test.true c.stored-item.is
      (c.text_number.ensures ∙ ap (text_number c.stored-item.result.tag) c.as_slice.ensures) c.loop-stored.invariant.has c.put.ensures.keeps c.put.ensures.has;
  keeps = then_live _ c.loop-stored.table.posts c.put.new.self.posts c.loop-stored.invariant.keeps c.put.ensures.keeps;
  room = omega (arith, c.loop-stored.invariant.room, c.put.ensures.room);
}

pub returns : goal.returns
returns g c = record {
  has = texts_all c.args.texts.now c.loop-stored.stored-index c.args.place c.loop-stored.table.posts c.loop-stored-test.false c.loop-stored.invariant.has;
  keeps = c.loop-stored.invariant.keeps;
  room = omega (arith, c.loop-stored.invariant.room, c.loop-stored.auto.stored-index-end);
}

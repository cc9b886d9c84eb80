use Rattle.std.proofs.Common.{map}
use Rattle.ups_index.specs.Kept.{text_view}
use Rattle.ups_index.proofs.Exchanged.{texts_then}
use Rattle.ups_index.proofs.Room.{no_less, then_room}
use Rattle.ups_index.proofs.exchanging.drop_texts.Goals as goal

pub loop-stored-init : goal.loop-stored-init
loop-stored-init g c = record {
  keeps = λ n other apart h. h;
  spares = λ stored h x. x;
  room = no_less c.args.table.now.room;
}

pub loop-stored-preserved : goal.loop-stored-preserved
loop-stored-preserved g c = record {
  keeps = λ n other apart h. c.drop_text.ensures.keeps n other apart (c.loop-stored.invariant.keeps n other apart h);
  spares = texts_then (map text_view c.args.others.now) c.args.place c.args.table.now.posts c.loop-stored.table.posts c.drop_text.new.table.posts c.loop-stored.invariant.spares c.drop_text.ensures.spares;
  room = then_room c.args.table.now.room c.loop-stored.table.room c.drop_text.new.table.room c.loop-stored.invariant.room c.drop_text.ensures.room;
}

pub returns : goal.returns
returns g c = record {
  keeps = c.loop-stored.invariant.keeps;
  spares = c.loop-stored.invariant.spares;
  room = c.loop-stored.invariant.room;
}

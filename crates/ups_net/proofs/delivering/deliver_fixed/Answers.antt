use Rattle.std.proofs.Common.{sym, ◌∙◌}
use Rattle.ups_session.specs.Tells.{untold}
use Rattle.ups_net.proofs.delivering.deliver_fixed.Goals as goal

pub returns-clause-delivers : goal.returns-clause-delivers
returns-clause-delivers g c =
    let (input, consumed, is) = c.deliver-ended.ensures.session in
    record {
      same = (c.into_pass.ensures.table ∙ sym c.requires.table, c.into_pass.ensures.settings ∙ sym c.requires.settings, c.into_pass.ensures.number ∙ sym c.requires.number);
      now = c.deliver-ended.new.reader;
      input = input;
      before = c.new-writer.result;
      after = c.deliver-ended.new.writer;
      told = untold;
      later = untold;
      session = rw c.into_pass.ensures.pass (rw c.into_parts-seated.ensures.seated (rw c.new-seated.ensures at (rw c.new-withheld.ensures at (rw c.new-counted.ensures at is))));
    }

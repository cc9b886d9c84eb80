use Rattle.ups_lasting.proofs.Exchanged.{stays_open}
use Rattle.ups_lasting.proofs.following.exchange.Goals as goal

pub returns-in-Ok : goal.returns-in-Ok
returns-in-Ok g c = record {
  put = c.in-Ok.ensures.put;
  sound = c.exchange.ensures.sound;
  first = c.exchange.ensures.first;
  left = c.in-Ok.ensures.left;
}

pub returns-then-is_up : goal.returns-then-is_up
returns-then-is_up g c =
    stays_open g.D.DraftLedger c.args.ledger.now c.exchange.new.self g.D.DraftLedger.settled (c.is_up.ensures.up c.if-is_up.true) c.in-Err.ensures.same c.exchange.ensures.sound c.exchange.ensures.first

pub returns-else-is_up : goal.returns-else-is_up
returns-else-is_up g c = record {
  unsound = λ k. absurd (cc (c.is_up.ensures.sound k, c.if-is_up.false));
  first = c.exchange.ensures.first;
  crash = c.exchange.ensures.crash;
}

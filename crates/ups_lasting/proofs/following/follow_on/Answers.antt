use Rattle.ups_lasting.proofs.Exchanged.{ends_follows}
use Rattle.ups_lasting.proofs.following.follow_on.Goals as goal

pub returns-in-Ok-true : goal.returns-in-Ok-true
returns-in-Ok-true g c = record {
  follows =
      ends_follows g.D.DraftLedger c.args.ledger.now c.catch_up.new.ledger c.exchange.new.ledger c.args.f.now c.catch_up.new.f c.exchange.result c.in-Ok-true.ensures.drafts c.catch_up.ensures.shifts (c.in-Ok-true.ensures.all c.in-Ok-true.field-0-test) c.exchange.ensures;
}

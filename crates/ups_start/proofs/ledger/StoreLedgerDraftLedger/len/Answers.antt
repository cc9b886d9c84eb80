use Rattle.std.proofs.Common.{sym, ◌∙◌}
use Rattle.ups_start.proofs.ledger.StoreLedgerDraftLedger.len.Goals as goal

pub returns : goal.returns
returns g c = λ sound. c.count.ensures ∙ sym (c.args.self.now.counted sound.1).many

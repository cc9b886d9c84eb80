use Rattle.ups_ledger.specs.Keeping.{KeeperGoesOn}
use Rattle.ups_ledger.proofs.Leaving.{goes_on}
use Rattle.ups_net.proofs.committer.Committer.keep.Goals as goal

pub returns-then-count-committed-clause-goes_on : goal.returns-then-count-committed-clause-goes_on
returns-then-count-committed-clause-goes_on g c =
    let seen = c.keep_round.new.pass.seen in
    let tidied : KeeperGoesOn g.L.Ledger c.keep_round.new.keeper seen c.tidy.new.self seen = record { kept = c.tidy.ensures.kept seen; safe = c.tidy.ensures.safe seen; more = c.tidy.ensures.more; sound = c.tidy.ensures.sound } in
    goes_on g.L.Ledger _ _ _ _ _ _ c.keep_round.ensures.goes_on tidied

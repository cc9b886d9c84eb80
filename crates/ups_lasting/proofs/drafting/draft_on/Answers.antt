use Rattle.std.proofs.Common.{◌≡◌, ◌+◌, ◌++◌, length, arith}
use Rattle.ups_lasting.specs.declared.stage.TheConstants.{SLICE}
use Rattle.ups_lasting.specs.Standing.{firsts}
use Rattle.ups_lasting.proofs.Drafted.{drafted_on}
use Rattle.ups_lasting.proofs.drafting.draft_on.Goals as goal

pub returns-clause-drafted : goal.returns-clause-drafted
returns-clause-drafted g c =
    let noted : firsts c.draft.new.drafts.items ≡ firsts c.args.drafts.now.items ++ c.in-Ok.records.items = cc (c.in_ok-draft.ensures.noted) in
    let many : c.in-Some.next ≡ c.args.drafted.now + length c.in-Ok.records.items = omega (arith, c.in-Some.ensures.1) in
    drafted_on c.args.fresh.now.history c.args.drafted.now SLICE _ _ c.in-Ok.records.items _ c.in-Ok.ensures.records c.in-Ok.ensures.writable noted many

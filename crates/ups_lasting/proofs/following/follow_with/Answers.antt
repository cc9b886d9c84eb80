use Rattle.std.proofs.Common.{◌≡◌, ◌+◌, ◌++◌, length, arith}
use Rattle.ups_lasting.specs.declared.stage.TheConstants.{FOLLOWED}
use Rattle.ups_lasting.specs.Standing.{firsts}
use Rattle.ups_lasting.proofs.Followed.{followed_on}
use Rattle.ups_lasting.proofs.following.follow_with.Goals as goal

pub returns-clause-followed : goal.returns-clause-followed
returns-clause-followed g c = λ s content is i.
    let noted : firsts c.draft.new.drafts.items ≡ firsts c.args.f.now.drafts.items ++ c.in-Ok.copies.items = cc (c.in_ok-draft.ensures.noted) in
    let many : c.in-Some.next ≡ c.args.f.now.read + length c.args.records.now = omega (arith, c.in-Some.ensures.1) in
    followed_on s content c.args.records.now c.in-Ok.copies.items _ _ _ _ _ FOLLOWED c.in-Some.next is c.in-Ok.ensures noted many i

use Rattle.std.proofs.Common.{sym, ◌∙◌, rules}
use Rattle.ups_terms.proofs.Still.{lacks_of, still_there}
use Rattle.ups_terms.proofs.comparing.difference.Goals as goal

pub returns-in-Some-clause-none : goal.returns-in-Some-clause-none
returns-in-Some-clause-none g c = (
  λ e. absurd (search rules),
  λ permits.
      let still =
      still_there c.args.old.now c.args.keep c.args.offset c.args.peers.now c.deref-was-items.result.now c.loop-was.was-index c.was-item.result c.deref-was-items.ensures.value c.loop-was-test.true c.was-item.is permits in
      let none = sym c.in-Some.is ∙ c.lack_of.ensures.none.1 still in
      absurd (search rules),
)

pub returns-in-Some-clause-some : goal.returns-in-Some-clause-some
returns-in-Some-clause-some g c =
    lacks_of c.args.old.now c.args.keep c.args.offset c.args.peers.now c.deref-was-items.result.now c.loop-was.was-index c.was-item.result c.in-Some.lack c.deref-was-items.ensures.value c.loop-was-test.true c.was-item.is c.in-Some.ensures.some

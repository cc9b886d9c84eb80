use Rattle.std.proofs.Common.{ap, sym, ◌∙◌}
use Rattle.std.specs.Str.{bytes_eq}
use Rattle.ups_requests.proofs.Naming.{one_more, no_verb}
use Rattle.ups_requests.proofs.line.Verb.of.Goals as goal

pub loop-verb-preserved : goal.loop-verb-preserved
loop-verb-preserved c =
    one_more c.args.word.now c.loop-verb.verb-index _ c.loop-verb-test.true c.loop-verb.invariant (sym (c.if-eq.ensures ∙ ap (λ w. bytes_eq w c.args.word.now) c.word.ensures))

pub returns : goal.returns
returns c = no_verb c.args.word.now c.loop-verb.verb-index c.loop-verb-test.false c.loop-verb.invariant

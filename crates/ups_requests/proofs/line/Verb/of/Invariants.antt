use Rattle.ups_requests.proofs.Naming.{AmongNone}
use Rattle.ups_requests.proofs.line.Verb.of.Given as goal

abbrev pub invariant-loop-verb : goal.invariant-loop-verb
invariant-loop-verb l = AmongNone l.word l.verb-index

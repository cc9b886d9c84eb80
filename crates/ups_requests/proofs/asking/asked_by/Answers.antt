use Rattle.std.proofs.Common.{List, ℕ, subst}
use Rattle.ups_requests.specs.Questions.{IsExactLine, IsLineOf}
use Rattle.ups_requests.proofs.asking.asked_by.Goals as goal

pub returns-clause-exact : goal.returns-clause-exact
returns-clause-exact g c = λ is. subst (λ (ws : List (List ℕ)). IsExactLine ws) c.of-words.ensures (_, _, _, _, c.in_ok-heading.ensures.words, c.is_exact.ensures is)

pub returns-clause-narrow : goal.returns-clause-narrow
returns-clause-narrow g c = subst (λ (ws : List (List ℕ)). IsLineOf c.args.grammar ws) c.of-words.ensures (_, _, _, _, c.in_ok-heading.ensures.words, c.in_ok-check_grammar.ensures.narrow)

use Rattle.ups_requests.proofs.Exacting.{colon_first, no_colon_first, none_first}
use Rattle.ups_requests.proofs.exact.is_colon_first.Goals as goal

pub returns-in-Some-clause-colon : goal.returns-in-Some-clause-colon
returns-in-Some-clause-colon c = λ is. colon_first _ _ _ c.in-Some.ensures.word (c.is_colon.ensures.colon is)

pub returns-in-Some-clause-other : goal.returns-in-Some-clause-other
returns-in-Some-clause-other c = λ is. no_colon_first _ _ _ c.in-Some.ensures.word (c.is_colon.ensures.other is)

pub returns-in-None-clause-other : goal.returns-in-None-clause-other
returns-in-None-clause-other c = λ is. none_first _ c.in-None.ensures.word

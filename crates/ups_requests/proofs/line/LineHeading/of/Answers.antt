use Rattle.std.specs.Option.{option_copied}
use Rattle.std.proofs.lemmas.Result.{err_from_is_err_and}
use Rattle.ups_lines.specs.Words.{words_left}
use Rattle.ups_requests.proofs.Failing.{behind_title, at_title}
use Rattle.ups_requests.proofs.line.LineHeading.of.Goals as goal

pub returns-in_err-ae-clause-fault : goal.returns-in_err-ae-clause-fault
returns-in_err-ae-clause-fault g c =
    let p = err_from_is_err_and c.from_residual-in_err-ae.result c.from_residual-in_err-ae.ensures.1 in
    rw (p.1, p.2)
    (at_title (words_left (option_copied c.args.words.now.rest)) c.in_ok-word.field-0.now (words_left (option_copied c.word.new.self.rest)) c.in_ok-word-2.field-0.now (words_left (option_copied c.word-2.new.self.rest))
    c.in_err-ae.field-0.0 c.in_ok-word.ensures.word c.in_ok-word-2.ensures.word c.in_err-ae.ensures.fault)

pub returns-in_err-verb-clause-fault : goal.returns-in_err-verb-clause-fault
returns-in_err-verb-clause-fault g c =
    let p = err_from_is_err_and c.from_residual-in_err-verb.result c.from_residual-in_err-verb.ensures.1 in
    rw (p.1, p.2)
    (behind_title (words_left (option_copied c.args.words.now.rest)) c.in_ok-word.field-0.now (words_left (option_copied c.word.new.self.rest)) c.in_ok-word-2.field-0.now (words_left (option_copied c.word-2.new.self.rest))
    c.in_err-verb.field-0.0 c.in_ok-word.ensures.word c.in_ok-word-2.ensures.word c.in_err-verb.ensures.fault)

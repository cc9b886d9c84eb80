use Rattle.std.proofs.Common.{◌≡◌, ◌+◌, [], refl, subst, ◌∙◌, rules, arith}
use Rattle.std.specs.Prelude.{OnSome}
use Rattle.std.specs.Io.KnownBytes.{IsAtEnd}
use Rattle.std.proofs.KnownBytes.{Consumes-nil}
use Rattle.std.proofs.lemmas.Result.{err_from_is_err_and}
use Rattle.ups_life.specs.Settings.{Settings}
use Rattle.ups_script.specs.Lines.{HasMore}
use Rattle.ups_script.specs.Running.{AnswersLine, Breaks}
use Rattle.ups_script.proofs.Lasting.{none_yet, one_more, ended, too_many, failed, broken}
use Rattle.ups_script.proofs.running.answer_each.Goals as goal

pub loop-count-init : goal.loop-count-init
loop-count-init g c = (none_yet c.args.manager.now.settings (g.R.Read.remaining c.args.reader.now) (g.W.Write.contents c.args.writer.now) c.args.manager.now.history, refl)

pub returns-in_err-is_at_end-clause-runs : goal.returns-in_err-is_at_end-clause-runs
returns-in_err-is_at_end-clause-runs g c =
    let p = err_from_is_err_and c.from_residual.result c.from_residual.ensures.1 in
    rw (p.1, p.2)
    (failed c.args.manager.now.settings c.loop-count.count c.args.limit _ _ _ _ _ _ _ _ [] c.in_err-is_at_end.field-0.0 c.loop-count.invariant.0 (omega arith) c.is_at_end.ensures.kept c.in_err-is_at_end.ensures.fault (Consumes-nil _))

pub returns-then-branch-clause-runs : goal.returns-then-branch-clause-runs
returns-then-branch-clause-runs g c =
    let end : OnSome (g.R.Read.remaining c.loop-count.reader) (IsAtEnd (g.R.Read.remaining c.is_at_end.new.reader)) = search rules in
    ended c.args.manager.now.settings c.loop-count.count c.args.limit _ _ _ _ _ _ _ c.loop-count.invariant.0 (omega arith) c.is_at_end.ensures.kept end

pub returns-in_err-line-clause-runs : goal.returns-in_err-line-clause-runs
returns-in_err-line-clause-runs g c =
    let p = err_from_is_err_and c.from_residual-in_err-line.result c.from_residual-in_err-line.ensures.1 in
    let (part, taken) = c.in_err-line.ensures.part in
    rw (p.1, p.2)
    (failed c.args.manager.now.settings c.loop-count.count c.args.limit _ _ _ _ _ _ _ _ part c.in_err-line.field-0.0 c.loop-count.invariant.0 (omega arith) c.is_at_end.ensures.kept c.in_err-line.ensures.fault taken)

pub returns-in_err-answer-clause-runs : goal.returns-in_err-answer-clause-runs
returns-in_err-answer-clause-runs g c =
    let p = err_from_is_err_and c.from_residual-in_err-answer.result c.from_residual-in_err-answer.ensures.1 in
    let fault = c.in_err-answer.field-0.0 in
    rw (p.1, p.2)
    (broken c.args.manager.now.settings c.loop-count.count c.args.limit _ _ _ _ _ _ _ _ _ _ c.in_ok-line.line.items fault c.loop-count.invariant.0 (omega arith) c.is_at_end.ensures.kept c.in_ok-line.ensures.line
    (subst (λ (s : Settings). Breaks s c.loop-count.manager.history c.in_ok-line.line.items (c.loop-count.count + 1) (g.W.Write.contents c.loop-count.writer) (g.W.Write.contents c.answer.new.writer) fault c.answer.new.manager.history) c.loop-count.invariant.1 c.in_err-answer.ensures.fault))

pub loop-count-preserved : goal.loop-count-preserved
loop-count-preserved g c =
    let (told, answers, said) = c.in_ok-answer.ensures.told in (
      one_more c.args.manager.now.settings c.loop-count.count _ _ _ _ _ _ _ _ _ _ c.in_ok-line.line.items told c.loop-count.invariant.0 c.is_at_end.ensures.kept c.in_ok-line.ensures.line
          (subst (λ (s : Settings). AnswersLine s c.loop-count.manager.history c.in_ok-line.line.items told c.answer.new.manager.history) c.loop-count.invariant.1 answers) said,
      c.in_ok-answer.ensures.settings ∙ c.loop-count.invariant.1,
    )

pub returns-in_err-is_at_end-2-clause-runs : goal.returns-in_err-is_at_end-2-clause-runs
returns-in_err-is_at_end-2-clause-runs g c =
    let p = err_from_is_err_and c.from_residual-in_err-is_at_end-2.result c.from_residual-in_err-is_at_end-2.ensures.1 in
    rw (p.1, p.2)
    (failed c.args.manager.now.settings c.loop-count.count c.args.limit _ _ _ _ _ _ _ _ [] c.in_err-is_at_end-2.field-0.0 c.loop-count.invariant.0 (omega arith) c.is_at_end-2.ensures.kept c.in_err-is_at_end-2.ensures.fault (Consumes-nil _))

pub returns-then-branch-2-clause-runs : goal.returns-then-branch-2-clause-runs
returns-then-branch-2-clause-runs g c =
    let end : OnSome (g.R.Read.remaining c.loop-count.reader) (IsAtEnd (g.R.Read.remaining c.is_at_end-2.new.reader)) = search rules in
    ended c.args.manager.now.settings c.loop-count.count c.args.limit _ _ _ _ _ _ _ c.loop-count.invariant.0 (omega arith) c.is_at_end-2.ensures.kept end

pub returns-else-branch-2-clause-runs : goal.returns-else-branch-2-clause-runs
returns-else-branch-2-clause-runs g c =
    let all : c.loop-count.count ≡ c.args.limit = omega arith in
    let more : HasMore (g.R.Read.remaining c.loop-count.reader) = search rules in
    too_many c.args.manager.now.settings c.loop-count.count c.args.limit _ _ _ _ _ _ _ c.loop-count.invariant.0 all more c.is_at_end-2.ensures.kept

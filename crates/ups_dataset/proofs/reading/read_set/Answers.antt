use Rattle.std.proofs.Common.{[]}
use Rattle.std.proofs.lemmas.Result.{err_from_is_err_and}
use Rattle.ups_dataset.specs.declared.head.Reach.TheVariants.{Filled}
use Rattle.ups_dataset.proofs.Ways.{not_elements}
use Rattle.ups_dataset.proofs.Whole.{set_fails, set_fails_or, only_memory, built_set, one_set}
use Rattle.ups_dataset.proofs.reading.read_set.Goals as goal

pub returns-in_err-passed-clause-found : goal.returns-in_err-passed-clause-found
returns-in_err-passed-clause-found g c =
    let p = err_from_is_err_and c.from_residual.result c.from_residual.ensures.1 in
    rw (p.1, p.2) (set_fails _ _ _ c.in_err-passed.ensures)

pub returns-in_err-passed-clause-only : goal.returns-in_err-passed-clause-only
returns-in_err-passed-clause-only g c = λ set s. absurd (not_elements c.args.syntax 0 Filled 0 c.args.bytes.now _ s.0 [] c.in_err-passed.ensures s.1)

pub returns-in_err-built-clause-found : goal.returns-in_err-built-clause-found
returns-in_err-built-clause-found g c =
    let p = err_from_is_err_and c.from_residual-in_err-built.result c.from_residual-in_err-built.ensures.1 in
    rw (p.1, p.2) (set_fails_or c.args.syntax c.args.bytes.now c.in_err-built.field-0.0 c.in_ok-passed.ensures.0 c.in_ok-passed.passed.0.now c.in_ok-passed.ensures.1 c.in_err-built.ensures)

pub returns-in_err-built-clause-only : goal.returns-in_err-built-clause-only
returns-in_err-built-clause-only g c = λ set s.
    let p = err_from_is_err_and c.from_residual-in_err-built.result c.from_residual-in_err-built.ensures.1 in
    rw (p.1, p.2) (only_memory c.args.syntax c.args.bytes.now c.in_err-built.field-0.0 c.in_ok-passed.ensures.0 c.in_ok-passed.passed.0.now c.in_ok-passed.ensures.1 c.in_err-built.ensures)

pub returns-clause-found : goal.returns-clause-found
returns-clause-found g c = built_set c.args.syntax c.args.bytes.now c.in_ok-built.built.0 c.in_ok-built.built.1.now c.in_ok-built.ensures

pub returns-clause-only : goal.returns-clause-only
returns-clause-only g c = λ set s. one_set c.args.syntax c.args.bytes.now c.in_ok-built.built.0 set (built_set c.args.syntax c.args.bytes.now c.in_ok-built.built.0 c.in_ok-built.built.1.now c.in_ok-built.ensures) s

use Rattle.std.proofs.Common.{ℕ, ◌≤◌, inr, subst, ◌∙◌, arith}
use Rattle.sqlite_store.specs.Unopened.{state_of, StopsCreating, CanCreate}
use Rattle.sqlite_trees.proofs.Doubt.{clean_of}
use Rattle.ups_store.specs.declared.format.Format.TheVariants.{Third}
use Rattle.ups_store.proofs.Opened.{fresh_if_ready, clean_back, faults_back, reason_back}
use Rattle.ups_store.proofs.opening.made.Goals as goal

pub returns-in-Ok-clause-fresh : goal.returns-in-Ok-clause-fresh
returns-in-Ok-clause-fresh g c clean = fresh_if_ready c.in-Ok.store c.in-Ok.ensures.ready (Third, c.in-Ok.ensures.schema ∙ c.requires.table) c.in-Ok.ensures.numbered clean

pub returns-in-Ok-clause-empty : goal.returns-in-Ok-clause-empty
returns-in-Ok-clause-empty g c clean = (c.in-Ok.ensures.empty (clean_of _ clean) 0 (omega arith), c.in-Ok.ensures.empty (clean_of _ clean) 1 (omega arith), c.in-Ok.ensures.empty (clean_of _ clean) 2 (omega arith))

pub returns-in-Ok-clause-honest : goal.returns-in-Ok-clause-honest
returns-in-Ok-clause-honest g c clean = c.in-Ok.ensures.honest (clean_of _ clean)

pub returns-in-Err-clause-cause : goal.returns-in-Err-clause-cause
returns-in-Err-clause-cause g c clean =
    let left = c.in-Err.left in
    let r = c.refused.result in
    reason_back (state_of c.args.files).faults left r.files (StopsCreating left) (CanCreate c.args.files) c.in-Err.error _ r.fault c.refused.ensures.files c.refused.ensures.fault (λ l. inr l) (c.in-Err.ensures.cause (clean_back left r.files c.refused.ensures.files clean))

pub returns-in-Err-clause-falls : goal.returns-in-Err-clause-falls
returns-in-Err-clause-falls g c clean =
    let left = c.in-Err.left in
    let r = c.refused.result in
    let was = clean_back left r.files c.refused.ensures.files clean in
    (c.in-Err.ensures.falls was, subst (λ (n : ℕ). (state_of c.args.files).faults ≤ n) (faults_back left r.files c.refused.ensures.files) (c.in-Err.ensures.unharmed was).counts)

use Rattle.std.proofs.Common.{◌≡◌, ◌+◌, ◌∙◌, length, map, take, sym, subst, arith}
use Rattle.std.specs.Prelude.{drop, IfOk}
use Rattle.ups_journal.specs.Columns.{recorded}
use Rattle.ups_ledger.specs.Keeping.{AreFirst}
use Rattle.ups_ledger.proofs.Growing.{first_again, more_first}
use Rattle.ups_ledger.proofs.Leaving.{leaves_put, leaves_failed}
use Rattle.ups_ledger.proofs.committing.commit.Goals as goal

pub returns-in-Ok-append-clause-beginning : goal.returns-in-Ok-append-clause-beginning
returns-in-Ok-append-clause-beginning g c = λ sound first.
    let watched = c.if-not-observe.ensures.pass in
    let down = c.if-not-observe.ensures.observed in
    let now = first_again _ _ watched.between c.observe.new.pass.seen c.args.committed watched.seen first in
    let taken = subst (λ r. IfOk r (λ v. v.items ≡ map recorded (take c.new-recorder.result.most (drop c.new-recorder.result.from c.observe.new.pass.seen)))) (sym c.into_records.ensures ∙ c.in-Ok.is) down.records in
    let is : c.deref.result.now ≡ map recorded (take c.args.most (drop c.args.committed c.observe.new.pass.seen)) =
    c.deref.ensures.value ∙ (taken ∙ (λ i. map recorded (take (c.new-recorder.ensures.1 i) (drop (c.new-recorder.ensures.0 i) c.observe.new.pass.seen)))) in
    let many : c.args.committed + length c.deref.result.now ≡ c.in-Some.count = omega (arith, c.in-Some.ensures, c.len.ensures, c.deref.ensures.len) in
    subst (AreFirst (g.L.Ledger.kept c.append.new.self) c.observe.new.pass.seen) many (more_first _ c.deref.result.now _ c.observe.new.pass.seen c.args.committed c.args.most now is (c.in-Ok-append.ensures.put sound))

pub returns-in-Ok-append-clause-safe : goal.returns-in-Ok-append-clause-safe
returns-in-Ok-append-clause-safe g c = λ kept leaves.
    leaves_put g.L.Ledger c.append.new.self c.observe.new.pass.seen c.in-Some.count (λ sound. returns-in-Ok-append-clause-beginning g c sound (kept (c.in-Ok-append.ensures.sound sound))) c.in-Ok-append.ensures.left

pub returns-clause-safe : goal.returns-clause-safe
returns-clause-safe g c = λ kept leaves.
    let watched = c.if-not-observe.ensures.pass in
    let down = c.if-not-observe.ensures.observed in
    let taken = subst (λ r. IfOk r (λ v. v.items ≡ map recorded (take c.new-recorder.result.most (drop c.new-recorder.result.from c.observe.new.pass.seen)))) (sym c.into_records.ensures ∙ c.in-Ok.is) down.records in
    let is : c.deref.result.now ≡ map recorded (take c.args.most (drop c.args.committed c.observe.new.pass.seen)) =
    c.deref.ensures.value ∙ (taken ∙ (λ i. map recorded (take (c.new-recorder.ensures.1 i) (drop (c.new-recorder.ensures.0 i) c.observe.new.pass.seen)))) in
    leaves_failed g.L.Ledger c.args.ledger.now c.append.new.self c.deref.result.now c.args.pass.now.seen watched.between c.observe.new.pass.seen c.args.committed c.args.most watched.seen is kept leaves c.append.ensures.first c.append.ensures.crash

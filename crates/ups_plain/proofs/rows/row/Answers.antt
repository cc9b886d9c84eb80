use Rattle.std.proofs.Common.{ℕ, ◌≡◌, ◌≤◌, List, length, arith, refl, ap, ◌∙◌}
use Rattle.std.proofs.lemmas.List.{take_all}
use Rattle.std.proofs.lemmas.Result.{err_from_is_err_and}
use Rattle.ups_life.specs.declared.entry.Entry.{Entry}
use Rattle.ups_life.specs.Steps.{past, row}
use Rattle.ups_plain.proofs.Walked.{unwalked_is, attributes_walked}
use Rattle.ups_plain.proofs.rows.row.Goals as goal

none_of : (n m : ℕ) → n ≡ 0 → n ≤ m
none_of n m none = omega arith

as_many : (n m : ℕ) → n ≡ m → n ≤ m
as_many n m same = omega arith

pub go_on-requires-clause-row : goal.go_on-requires-clause-row
go_on-requires-clause-row g c = unwalked_is c.args.configuration.now c.args.entries.now c.args.step c.unwalked-walk.result.row c.unwalked-walk.result.count c.unwalked-walk.ensures.count c.unwalked-walk.ensures.row

pub go_on-requires-clause-earlier : goal.go_on-requires-clause-earlier
go_on-requires-clause-earlier g c = none_of c.unwalked-walk.result.count (length c.args.entries.now) c.unwalked-walk.ensures.count

pub go_on-requires-clause-within : goal.go_on-requires-clause-within
go_on-requires-clause-within g c = as_many (length c.args.entries.now) (length c.args.entries.now) refl

pub returns : goal.returns
returns g c =
    let s = c.args.configuration.now in
    attributes_walked s c.args.entries.now c.args.step c.go_on.new.walk.row c.go_on.new.walk.count (length c.args.entries.now) c.in_ok-go_on.ensures.row c.in_ok-go_on.ensures.there
    ∙ ap (λ (l : List (Entry g.row.A.Denot)). row s (past l) c.args.step) (take_all (length c.args.entries.now) c.args.entries.now (as_many (length c.args.entries.now) (length c.args.entries.now) refl))

pub returns-in_err-go_on : goal.returns-in_err-go_on
returns-in_err-go_on g c =
    let p = err_from_is_err_and c.from_residual.result c.from_residual.ensures.1 in
    rw (p.1, p.2) c.in_err-go_on.ensures.memory

pub go_on-requires-clause-moments : goal.go_on-requires-clause-moments
go_on-requires-clause-moments g c = c.requires.moments

pub go_on-requires-clause-offset : goal.go_on-requires-clause-offset
go_on-requires-clause-offset g c = c.requires.offset

use Rattle.std.proofs.Common.{rules, arith, ◌≤◌, ◌&&◌, IsTrue, inr, sym, subst}
use Rattle.ups_store.specs.Refused.{faults_in}
use Rattle.ups_store.proofs.Opened.{halves, clean_back, clean_from, faults_back}
use Rattle.ups_store.proofs.opening.told_apart.Goals as goal

pub kind_of-fault-requires : goal.kind_of-fault-requires
kind_of-fault-requires g c =
    let both : IsTrue (g.D.Disk.is_usable c.args.refusal.files.log && g.D.Disk.is_usable c.args.refusal.files.db) = search rules in
    subst (λ (f : g.row.D.Denot × g.row.D.Denot). IsTrue (g.D.Disk.is_usable f.0) × IsTrue (g.D.Disk.is_usable f.1)) (sym c.in-Ok.ensures.files) (halves _ _ both)

pub returns-in-Ok-clause-fault : goal.returns-in-Ok-clause-fault
returns-in-Ok-clause-fault g c = inr (c.in-NotStore.is, c.kind_of-fault.ensures.kind)

pub returns-in-Ok-clause-falls : goal.returns-in-Ok-clause-falls
returns-in-Ok-clause-falls g c clean =
    let files = c.args.refusal.files in
    let after = c.kind_of-fault.new.files in
    let both = c.kind_of-fault.ensures.falls (clean_back after c.close.result c.close.ensures clean) in
    let first = faults_back c.in-Ok.again files (sym c.in-Ok.ensures.files) in
    let last = faults_back after c.close.result c.close.ensures in
    let le : faults_in g.D.Disk files ≤ faults_in g.D.Disk c.close.result = omega (arith, first, last, both.1) in
    (clean_from c.in-Ok.again files c.in-Ok.ensures.files both.0, le)

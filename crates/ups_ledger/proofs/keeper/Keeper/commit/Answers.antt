use Rattle.std.proofs.Common.{◌≡◌, length, map, take, arith}
use Rattle.std.specs.Prelude.{drop}
use Rattle.std.proofs.lemmas.List.{length-map}
use Rattle.ups_journal.specs.Columns.{recorded}
use Rattle.ups_ledger.proofs.Growing.{behind_counted}
use Rattle.ups_ledger.proofs.Had.{had_more}
use Rattle.ups_ledger.proofs.keeper.Keeper.commit.Goals as goal

pub invariant_of-self-2 : goal.invariant_of-self-2
invariant_of-self-2 g c =
    let old = c.args.self.now in
    let count = c.in_ok-committed.committed in
    let done = c.in_ok-committed.ensures in
    let told : g.L.Ledger.told c.commit.new.ledger ≡ count = done.told old.told in
    let group = take c.args.most (drop old.committed c.commit.new.pass.seen) in
    record {
      told = told;
      had = had_more g.L.Ledger old.committed count (omega (arith, done.number)) old.had (λ greater. record {
        ledger = c.commit.new.ledger;
        told = omega (arith, told);
        many = λ honest. omega (arith, behind_counted _ (map recorded group) old.committed (done.behind old.told greater honest), length-map group recorded, done.number);
      });
    }

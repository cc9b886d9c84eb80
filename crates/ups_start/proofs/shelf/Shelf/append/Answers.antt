use Rattle.std.proofs.Common.{sym, subst}
use Rattle.ups_start.specs.Front.{AreFront}
use Rattle.ups_start.specs.Shelved.{records_in, drafts_on}
use Rattle.ups_start.proofs.Digested.{front_behind, front_same, known_same}
use Rattle.ups_start.proofs.shelf.Shelf.append.Goals as goal

pub returns-in-Ok-clause-behind : goal.returns-in-Ok-clause-behind
returns-in-Ok-clause-behind g c = λ counted honest.
    let up = c.in-Ok.ensures.is_open honest in
    record { front = records_in c.args.self.now.held; same = counted (c.append_to.ensures.sound up); are = c.in-Ok.ensures.put up }

pub returns-in-Ok-clause-counted : goal.returns-in-Ok-clause-counted
returns-in-Ok-clause-counted g c = λ counted up.
    let old = c.args.self.now in
    subst (λ f. AreFront (records_in c.append_to.new.held) f) (sym c.in-Some.ensures)
    (front_behind (records_in old.held) (records_in c.append_to.new.held) c.args.records.now old.front (counted (c.append_to.ensures.sound up)) (c.in-Ok.ensures.put up))

pub returns-in-Err-clause-counted : goal.returns-in-Err-clause-counted
returns-in-Err-clause-counted g c = λ counted up.
    let old = c.args.self.now in
    front_same (records_in old.held) (records_in c.append_to.new.held) old.front (counted (c.append_to.ensures.sound up)) (c.in-Err.ensures.same up)

pub returns-in-Ok-clause-drafted : goal.returns-in-Ok-clause-drafted
returns-in-Ok-clause-drafted g c = λ drafted up.
    let old = c.args.self.now in
    known_same (drafts_on old.held) (drafts_on c.append_to.new.held) old.drafts (drafted (c.append_to.ensures.sound up)) (c.append_to.ensures.drafts up)

pub returns-in-Err-clause-drafted : goal.returns-in-Err-clause-drafted
returns-in-Err-clause-drafted g c = λ drafted up.
    let old = c.args.self.now in
    known_same (drafts_on old.held) (drafts_on c.append_to.new.held) old.drafts (drafted (c.append_to.ensures.sound up)) (c.append_to.ensures.drafts up)

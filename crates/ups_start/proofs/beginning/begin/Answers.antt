use Rattle.std.proofs.Common.{◌≡◌, ◌≤◌, length, map, sym, ap, subst, ◌∙◌, arith}
use Rattle.std.proofs.lemmas.List.{length-map}
use Rattle.sqlite_trees.specs.Tree.{Trees}
use Rattle.ups_journal.specs.Columns.{recorded}
use Rattle.ups_store.specs.Rows.{requests_in}
use Rattle.ups_store.specs.Shown.{requests_shown}
use Rattle.ups_store.proofs.Steps.{open_clean}
use Rattle.ups_start.specs.Started.{said}
use Rattle.ups_start.proofs.First.{all_first, left_is_said}
use Rattle.ups_start.proofs.beginning.begin.Goals as goal

pub of-stored-requires : goal.of-stored-requires
of-stored-requires g c = λ up.
    let store = c.in_ok-begun.begun.store in
    let history = c.begin_in.new.manager.history in
    let clean = open_clean (requests_shown store) (g.met.P.Store.Store.shut_if_dirty store.store) up in
    omega (arith, ap length (c.in_ok-begun.ensures.kept clean), length-map history recorded, c.entries-committed.ensures.count)

pub over-requires-clause-now : goal.over-requires-clause-now
over-requires-clause-now g c = λ sound. c.named-ledger.ensures.kept ∙ (c.of-stored.ensures.kept ∙ c.in_ok-begun.ensures.kept (c.of-stored.ensures.clean (c.named-ledger.ensures.sound sound)))

pub over-requires-clause-left : goal.over-requires-clause-left
over-requires-clause-left g c = λ first found recovers.
    let left = c.of-stored.ensures.leaves found (c.named-ledger.ensures.crash found recovers) in
    sym left.are ∙ (ap (λ (db : Trees). said (requests_in db)) (left.settled (c.in_ok-begun.ensures.is_open left.clean)) ∙ c.in_ok-begun.ensures.kept left.clean)

pub returns-clause-kept : goal.returns-clause-kept
returns-clause-kept g c = λ sound. all_first _ c.begin_in.new.manager.history c.entries-committed.result c.over.ensures.kept c.entries-committed.ensures.count

pub returns-clause-sound : goal.returns-clause-sound
returns-clause-sound g c = λ honest.
    let was = c.named-ledger.ensures.honest (subst (λ l. g.D.DraftLedger.is_honest l) c.over.ensures.ledger honest) in
    subst (λ l. g.D.DraftLedger.is_sound l) (sym c.over.ensures.ledger) (c.named-ledger.ensures.still_sound (c.of-stored.ensures.sound (c.in_ok-begun.ensures.is_open (c.of-stored.ensures.honest was))))

pub returns-clause-honest : goal.returns-clause-honest
returns-clause-honest g c = λ sound.
    let was = c.named-ledger.ensures.sound (subst (λ l. g.D.DraftLedger.is_sound l) c.over.ensures.ledger sound) in
    subst (λ l. g.D.DraftLedger.is_honest l) (sym c.over.ensures.ledger) (c.named-ledger.ensures.still_honest (c.of-stored.ensures.at_first was))

pub returns-clause-safe : goal.returns-clause-safe
returns-clause-safe g c = λ first rs recovers.
    let history = c.begin_in.new.manager.history in
    let is : rs ≡ map recorded history = left_is_said _ _ _ _ _ recovers.found rs c.over.ensures.tried recovers.are ∙ c.over.ensures.kept in
    (c.entries-committed.result, omega arith, all_first rs history c.entries-committed.result is c.entries-committed.ensures.count)

pub returns-clause-begins : goal.returns-clause-begins
returns-clause-begins g c =
    let begins = c.in_ok-begun.ensures.begins in
    (begins.0, begins.1, λ honest. begins.2 (c.of-stored.ensures.honest (c.named-ledger.ensures.honest (subst (λ l. g.D.DraftLedger.is_honest l) c.over.ensures.ledger honest))))

pub invariant_of-result : goal.invariant_of-result
invariant_of-result g c =
    let history = c.begin_in.new.manager.history in
    let many : c.entries-committed.result ≤ length c.over.result.log = omega (arith, ap length c.over.ensures.kept, length-map history recorded, c.entries-committed.ensures.count) in
    record {
      told = omega (arith, c.over.ensures.told, c.entries-committed.ensures.count);
      had = ∣ record { ledger = c.over.result; told = omega (arith, c.over.ensures.told, c.entries-committed.ensures.count); many = λ honest. many } ∣₁;
    }

use Rattle.std.proofs.Common.{arith, ◌≡◌, ◌≢◌, ℕ, Some, drop, subst}
use Rattle.sqlite_trees.specs.View.{View, IsClean}
use Rattle.ups_store.specs.declared.reading.Phase.{Phase}
use Rattle.ups_store.specs.declared.reading.Phase.TheVariants.{Reading, Failed}
use Rattle.ups_store.specs.declared.reading.Taken.{Taken}
use Rattle.ups_store.specs.declared.reading.Taken.TheVariants.{One}
use Rattle.ups_store.specs.Taken.{TakesNext, IsLow}
use Rattle.ups_store.specs.Held.{HasGiven}
use Rattle.ups_store.proofs.Steps.{clean_before}
use Rattle.ups_store.proofs.Scans.{GivesNext, gives_next, ends, not_numbered}
use Rattle.ups_store.proofs.reading.Replay.take.Goals as goal

not_failed : (phase : Phase) → phase ≡ Reading → phase ≢ Failed
not_failed phase is failed = cc

abbrev Given : View → Phase → ℕ → ℕ → Type 0
Given v phase t count = phase ≢ Failed → IsClean v → HasGiven v t count

abbrev Left : View → Phase → ℕ → ℕ → Type 0
Left v phase t count = phase ≡ Reading → IsClean v → v.cursors 0 ≡ Some (drop count (v.trees t))

one : (old new : View) (phase : Phase) (t count : ℕ) (taken : Taken) (request : _) → phase ≡ Reading → Given old phase t count → Left old phase t count → (IsClean new → TakesNext old new count taken) → taken ≡ One request → (IsClean new → IsClean old) → IsClean new → GivesNext old new t count request
one old new phase t count taken request reading given left takes is before clean =
    gives_next old new t count request (given (not_failed phase reading) (before clean)) (left reading (before clean)) (subst (TakesNext old new count) is (takes clean))

pub invariant_of-self-in-End : goal.invariant_of-self-in-End
invariant_of-self-in-End g c =
    let it = c.args.self.now in
    let old = g.S.Store.view it.store in
    let new = g.S.Store.view c.take_next.new.store in
    let end = λ (clean : IsClean new).
    ends old new it.table it.count (it.read (not_failed it.phase c.requires.reading) (clean_before old new c.take_next.ensures.quiet.clean clean)) (it.left c.requires.reading (clean_before old new c.take_next.ensures.quiet.clean clean)) (subst (TakesNext old new it.count) c.in-End.is (c.in_ok-take_next.ensures.taken clean)) in
    record { live = λ e. absurd (cc); read = λ _ clean. (end clean).0; none = λ e. absurd (cc); left = λ e. absurd (cc); ended = λ _ clean. (end clean).1 }

pub overflow_add-self : goal.overflow_add-self
overflow_add-self g c =
    let low : IsLow c.args.self.now.count (One c.in-One.request) = subst (IsLow c.args.self.now.count) c.in-One.is c.in_ok-take_next.ensures.low in
    omega (arith, low)

pub invariant_of-self-in-One : goal.invariant_of-self-in-One
invariant_of-self-in-One g c =
    let it = c.args.self.now in
    let old = g.S.Store.view it.store in
    let new = g.S.Store.view c.take_next.new.store in
    let next = one old new it.phase it.table it.count c.in_ok-take_next.field-0 c.in-One.request c.requires.reading it.read it.left c.in_ok-take_next.ensures.taken c.in-One.is (clean_before old new c.take_next.ensures.quiet.clean) in
    record { live = λ _. c.in_ok-take_next.ensures.live; read = λ _ clean. (next clean).given; none = λ e. absurd (cc); left = λ _ clean. (next clean).left; ended = λ e. absurd (cc) }

pub returns-in-Other-clause-cause : goal.returns-in-Other-clause-cause
returns-in-Other-clause-cause g c clean =
    let it = c.args.self.now in
    let old = g.S.Store.view it.store in
    let new = g.S.Store.view c.take_next.new.store in
    let was = clean_before old new c.take_next.ensures.quiet.clean clean in
    not_numbered old new it.table it.count (it.read (not_failed it.phase c.requires.reading) was) (it.left c.requires.reading was) (subst (TakesNext old new it.count) c.in-Other.is (c.in_ok-take_next.ensures.taken clean))

pub returns-in-One-clause-given : goal.returns-in-One-clause-given
returns-in-One-clause-given g c clean =
    let it = c.args.self.now in
    let old = g.S.Store.view it.store in
    let new = g.S.Store.view c.take_next.new.store in
    (one old new it.phase it.table it.count c.in_ok-take_next.field-0 c.in-One.request c.requires.reading it.read it.left c.in_ok-take_next.ensures.taken c.in-One.is (clean_before old new c.take_next.ensures.quiet.clean) clean).more
